-- What `pdcheck` prints for a text: a refusal, a violation with its trace, or the listing of a safe table. Assumes nothing.
use Rattle.std.specs.Prelude.{List, [], ℕ, min, leb, length}
use Rattle.std.proofs.Math.Option.{Option, none, some}
use Rattle.product.specs.Lists.{each}
use Rattle.product.specs.Product.{stored}
use Rattle.product.specs.Verdict.{Verdict, violation, safe, answer, bound}
use Rattle.product.specs.Table.{ranks}
use Rattle.product.specs.Trace.{trace_of}
use Rattle.table.specs.Cells.{heads_of, triples_of}
use Rattle.model.specs.declared.Model.{Model}
use Rattle.model.specs.Model.{product_of}
use Rattle.reader.specs.Text.{read_model}
use Rattle.printing.specs.Listing.{listing_bytes}
use Rattle.violation.specs.Bytes.{room, violation_bytes}
use Rattle.refusal.specs.Refusal.{unless_refused}

-- a violation by its trace: whole where a room has all its steps, and with no more steps than a room has
abbrev pub traced_bytes : Model → (rounds : ℕ) → (steps : List ℕ) → List ℕ
traced_bytes m rounds steps = violation_bytes m (leb (length steps) room) rounds steps (min (length steps) room)

-- by the verdict; the trace as it is stored, and the table after the last round
abbrev pub verdict_bytes : Model → Verdict → List ℕ
verdict_bytes m (violation n) = traced_bytes m n (each (trace_of (product_of m) (violation n)) stored)
verdict_bytes m (safe n) = listing_bytes m.symbols m.states n (heads_of m.symbols m.states (ranks (product_of m) n)) (triples_of m.symbols m.states (ranks (product_of m) n))

-- there always is one under the budget symbols · states · (states + 1)
abbrev pub answer_bytes : Model → Option Verdict → List ℕ
answer_bytes m none = []
answer_bytes m (some v) = verdict_bytes m v

unfoldable pub model_output : Model → List ℕ
model_output m = answer_bytes m (answer (product_of m) (bound (product_of m)))

-- all that is printed: the refusal of the text, or what its model prints
abbrev pub check_output : List ℕ → List ℕ
check_output text = unless_refused (read_model text) model_output
