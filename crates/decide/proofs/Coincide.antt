-- Any two outcomes that the contract allows coincide: the answers, and every cell of the arrays. Assumes nothing.
use mathlib.Core.Bool.{cond}
use mathlib.Core.List.{List, [], ◌∷◌}
use mathlib.Core.Path.{◌≡◌, refl, sym, ◌∙◌}
use Prim.Native.Nat.{ℕ}
use lib.Dec.{eqb}
use Rattle.product.specs.Answer.{Answer, answered, refused}
use Rattle.product.specs.Verdict.{Verdict, violation, safe}
use Rattle.product.proofs.Answer.{apart}
use Rattle.model.specs.declared.Model.{Model}
use Rattle.decide.specs.declared.Verdict.TheVariants.{Violation, Safe}
use Rattle.decide.specs.declared.DecideError.TheVariants.{Refused, Spent}
use Rattle.fitting.specs.declared.Unfit.TheVariants.{Invalid, Short}
use Rattle.std.specs.Prelude.{Ok, Err}
use Rattle.decide.specs.Decided.{Decision, meaning, Decided}

-- the case that has a meaning
abbrev meant : Answer Verdict → Decision
meant (answered (violation n)) = Ok (Violation n)
meant (answered (safe n)) = Ok (Safe n)
meant (refused n []) = Err (Refused Invalid)
meant (refused n (b ∷ _)) = cond (eqb n 6) (Err (Refused Invalid)) (cond (eqb n 7) (Err (Refused Short)) (Err (Spent b)))

meant_meaning : (r : Decision) → meant (meaning r) ≡ r
meant_meaning (Ok (Violation n)) = refl
meant_meaning (Ok (Safe n)) = refl
meant_meaning (Err (Refused Invalid)) = refl
meant_meaning (Err (Refused Short)) = refl
meant_meaning (Err (Spent b)) = refl

pub meaning_one : (r r' : Decision) → meaning r ≡ meaning r' → r ≡ r'
meaning_one = apart meant meant_meaning

pub decided_one : (m : Model) (budget : ℕ) (hs ts : List ℕ) (r r' : Decision) (hs' hs'' ts' ts'' : List ℕ)
    → Decided m budget hs ts r hs' ts' → Decided m budget hs ts r' hs'' ts'' → (r ≡ r') × (hs' ≡ hs'') × (ts' ≡ ts'')
decided_one m budget hs ts r r' hs' hs'' ts' ts'' a b = (
  meaning_one r r' (a.answer ∙ sym b.answer),
  a.heads ∙ sym b.heads,
  a.triples ∙ sym b.triples,
)
