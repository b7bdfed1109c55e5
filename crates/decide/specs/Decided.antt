-- What the decision answers, by the document's numbers, and what it leaves in the two lent arrays. Assumes nothing.
use Rattle.std.specs.Prelude.{List, [], ◌∷◌, ◌++◌, ◌≡◌, ℕ, Result, Ok, Err, length, drop}
use Rattle.std.proofs.Math.Option.{Option, none, some}
use Rattle.product.specs.Answer.{Answer, answered, refused}
use Rattle.product.specs.Verdict as product
use Rattle.product.specs.Verdict.{Verdict, violation, safe}
use Rattle.product.specs.Table.{left}
use Rattle.table.specs.Cells.{heads_of, triples_of}
use Rattle.model.specs.declared.Model.{Model}
use Rattle.model.specs.Model.{product_of}
use Rattle.fitting.specs.Fits.{heads_of as head_count, triples_of as triple_count, tested, guarded, refused_by}
use Rattle.decide.specs.declared.Verdict as code
use Rattle.decide.specs.declared.Verdict.TheVariants.{Violation, Safe}
use Rattle.decide.specs.declared.DecideError.{DecideError}
use Rattle.decide.specs.declared.DecideError.TheVariants.{Refused, Spent}

-- the code's answer
abbrev pub Decision : Type 0
Decision = Result code.Verdict DecideError

-- the document's number and values of each refusal
abbrev pub undecided : {A : Type 0} → DecideError → Answer A
undecided (Refused unfit) = refused_by unfit
undecided (Spent b) = refused 8 (b ∷ [])

-- and of each answer; without a refusal, the verdict, which has its rounds
abbrev pub meaning : Decision → Answer Verdict
meaning (Ok (Violation n)) = answered (violation n)
meaning (Ok (Safe n)) = answered (safe n)
meaning (Err e) = undecided e

-- the verdict of the rounds, if the budget is enough for it
abbrev pub within : (budget : ℕ) → Option Verdict → Answer Verdict
within budget none = refused 8 (budget ∷ [])
within budget (some v) = answered v

-- 6, then 7, and then the answer under the budget; `heads` and `triples` are the lengths of the arrays
unfoldable pub decision : Model → (budget heads triples : ℕ) → Answer Verdict
decision m budget heads triples = guarded m heads triples (within budget (product.answer (product_of m) budget))

-- the table that is left, unless the model or the arrays are refused: every cell past it is as it was
unfoldable pub heads_left : Model → (budget : ℕ) → (hs ts : List ℕ) → List ℕ
heads_left m budget hs ts = tested m (length hs) (length ts) hs hs (heads_of m.symbols m.states (left (product_of m) budget) ++ drop (head_count m) hs)

unfoldable pub triples_left : Model → (budget : ℕ) → (hs ts : List ℕ) → List ℕ
triples_left m budget hs ts = tested m (length hs) (length ts) ts ts (triples_of m.symbols m.states (left (product_of m) budget) ++ drop (triple_count m) ts)

-- the contract: the answer r, and the arrays hs' and ts' afterwards
pub record Decided (m : Model) (budget : ℕ) (hs ts : List ℕ) (r : Decision) (hs' ts' : List ℕ) : Type 0 where
  pub answer : meaning r ≡ decision m budget (length hs) (length ts)
  pub heads : hs' ≡ heads_left m budget hs ts
  pub triples : ts' ≡ triples_left m budget hs ts
