-- What the trace call answers, by the document's numbers, and what it leaves in the lent arrays. It decides first, and then traces. Assumes nothing.
use Rattle.std.specs.Prelude.{cond, List, [], ◌∷◌, ◌≡◌, ℕ, Result, Ok, Err, leb, length}
use Rattle.std.proofs.lemmas.List.Edits.{sets}
use Rattle.product.specs.Lists.{each}
use Rattle.product.specs.Product.{stored}
use Rattle.product.specs.Answer.{Answer, answered, refused}
use Rattle.product.specs.Verdict.{Verdict, violation, safe}
use Rattle.product.specs.Trace.{trace_of}
use Rattle.model.specs.declared.Model.{Model}
use Rattle.model.specs.Model.{product_of}
use Rattle.decide.specs.Decided.{undecided, decision, heads_left, triples_left}
use Rattle.trace.specs.declared.Traced.{Traced}
use Rattle.trace.specs.declared.TraceError.{TraceError}
use Rattle.trace.specs.declared.TraceError.TheVariants.{Undecided, Safe, Cut}

-- a whole trace: the rounds of its verdict, and its number of steps
pub data Trace : Type 0 where
  traced : (rounds steps : ℕ) → Trace

-- the code's answer
abbrev pub TraceAnswer : Type 0
TraceAnswer = Result Traced TraceError

-- the document's number and values of each answer; without a refusal, the whole trace
abbrev pub meaning : TraceAnswer → Answer Trace
meaning (Ok t) = answered (traced t.rounds t.steps)
meaning (Err (Undecided e)) = undecided e
meaning (Err (Safe n)) = refused 9 (n ∷ [])
meaning (Err (Cut n room)) = refused 10 (n ∷ room ∷ [])

-- a trace of so many steps fits the room, or is cut
abbrev pub fits : (rounds steps room : ℕ) → Answer Trace
fits n steps room = cond (leb steps room) (answered (traced n steps)) (refused 10 (n ∷ room ∷ []))

-- the answer by the decision's: a refusal of it stands, safe is 9, and a violation is traced
abbrev pub traced_by : Model → (room : ℕ) → Answer Verdict → Answer Trace
traced_by m room (answered (violation n)) = fits n (length (trace_of (product_of m) (violation n))) room
traced_by m room (answered (safe n)) = refused 9 (n ∷ [])
traced_by m room (refused number values) = refused number values

-- the steps that are written, as they are stored: those of a violation's trace
abbrev pub steps_by : Model → Answer Verdict → List ℕ
steps_by m (answered v) = each (trace_of (product_of m) v) stored
steps_by m (refused number values) = []

-- The contract: the answer r, and the arrays afterwards. The heads and triples are as the decision leaves them; in the room stand the steps from its
-- first cell on, as far as it has cells, and every other cell is as it was.
pub record Outcome (m : Model) (budget : ℕ) (hs ts room : List ℕ) (r : TraceAnswer) (hs' ts' room' : List ℕ) : Type 0 where
  pub answer : meaning r ≡ traced_by m (length room) (decision m budget (length hs) (length ts))
  pub heads : hs' ≡ heads_left m budget hs ts
  pub triples : ts' ≡ triples_left m budget hs ts
  pub steps : room' ≡ sets room 0 (steps_by m (decision m budget (length hs) (length ts)))
