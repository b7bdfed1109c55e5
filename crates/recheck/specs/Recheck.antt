-- The table check's answer: its refusals in their order, and the document's number and values of each answer. Assumes nothing.
use Rattle.std.specs.Prelude.{Bool, List, [], ◌∷◌, ℕ, ◌≡◌, Result, Ok, Err, length}
use Rattle.product.specs.Answer.{Answer, answered, refused, Acceptance, accepted}
use Rattle.product.specs.Facts.{Fact}
use Rattle.product.specs.Check.{checked, check_answer}
use Rattle.table.specs.declared.Size.{Size}
use Rattle.table.specs.Looked as table
use Rattle.model.specs.declared.Model.{Model}
use Rattle.model.specs.Model.{product_of}
use Rattle.fitting.specs.Fits.{size_of, guarded, refused_by, Fits}
use Rattle.recheck.specs.declared.CheckError.{CheckError}
use Rattle.recheck.specs.declared.CheckError.TheVariants.{Refused, NoStart, Violating, Open}

-- the code's answer
abbrev pub Recheck : Type 0
Recheck = Result (Unit {0}) CheckError

-- the document's number and values of each answer
abbrev pub meaning : Recheck → Answer Acceptance
meaning (Ok _) = answered accepted
meaning (Err (Refused unfit)) = refused_by unfit
meaning (Err NoStart) = refused 11 (1 ∷ 0 ∷ 0 ∷ [])
meaning (Err Violating) = refused 11 (2 ∷ 0 ∷ 0 ∷ [])
meaning (Err (Open r v)) = refused 11 (3 ∷ r ∷ v ∷ [])

-- the facts of the two arrays
abbrev pub in_table : Size → (heads triples : List ℕ) → Fact → Bool
in_table = table.in_table

-- 6, then 7, then the first reason of 11 that applies
unfoldable pub recheck : Model → (heads triples : List ℕ) → Answer Acceptance
recheck m hs ts = guarded m (length hs) (length ts) (check_answer (checked (product_of m) (in_table (size_of m) hs ts)))

-- what the search for a step asks: a valid model, its size, and arrays that hold its table
pub record Sized (m : Model) (z : Size) (hs ts : List ℕ) : Type 0 where
  pub fits : Fits m (length hs) (length ts)
  pub size_is : z ≡ size_of m
