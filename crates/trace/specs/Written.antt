-- The trace of a violation written into a room, from a table of ranks. Assumes nothing.
use Rattle.std.specs.Prelude.{cond, Result, Ok, Err, List, ◌≡◌, ℕ, ◌<◌, T, leb, length}
use Rattle.std.proofs.lemmas.List.Edits.{sets}
use Rattle.product.specs.Lists.{each}
use Rattle.product.specs.Product.{Step, stored}
use Rattle.product.specs.Verdict.{violation}
use Rattle.product.specs.Table.{absent, ranks}
use Rattle.product.specs.Trace.{trace_of}
use Rattle.model.specs.declared.Model.{Model}
use Rattle.model.specs.Model.{product_of}
use Rattle.model.specs.Valid.{valid}
use Rattle.table.specs.Cells.{view}
use Rattle.trace.specs.declared.Traced.{Traced}
use Rattle.trace.specs.declared.TraceError.{TraceError}
use Rattle.trace.specs.declared.TraceError.TheVariants.{Cut}

-- the two arrays are the table of a valid model after round n
pub record Ranked (m : Model) (n : ℕ) (hs ts : List ℕ) : Type 0 where
  pub valid_model : T (valid m)
  pub small : n < absent
  pub table : view m.symbols m.states hs ts ≡ ranks (product_of m) n

-- the rounds with the number of steps, or with the room where they are more
abbrev pub fitted : (n steps room : ℕ) → Result Traced TraceError
fitted n steps room = cond (leb steps room) (Ok (record { rounds = n; steps = steps })) (Err (Cut n room))

-- the trace of the violation after n rounds, as numbers
abbrev pub violation_steps : Model → ℕ → List Step
violation_steps m n = trace_of (product_of m) (violation n)

pub record Written (m : Model) (n : ℕ) (room : List ℕ) (r : Result Traced TraceError) (room' : List ℕ) : Type 0 where
  pub answer : r ≡ fitted n (length (violation_steps m n)) (length room)
  pub cells : room' ≡ sets room 0 (each (violation_steps m n) stored)
