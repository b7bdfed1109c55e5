-- What the check's contract settles: when it accepts, and that there is one answer. Assumes nothing.
use mathlib.Core.Bool.{cond}
use mathlib.Core.List.{List, [], ◌∷◌}
use mathlib.Core.Logic.{◌↔◌}
use mathlib.Core.Path.{◌≡◌, refl, sym, ap, ◌∙◌}
use Prim.Native.Nat.{ℕ}
use native.Mathlib.Omega.{arith}
use lib.Dec.{T, eqb}
use lib.ListN.{length}
use Rattle.product.specs.Answer.{Answer, answered, refused, Acceptance, accepted}
use Rattle.product.specs.Product.{Step}
use Rattle.product.specs.Runs.{State, Reaches}
use Rattle.product.specs.Check.{accepts, Checked, passes, fails, checked, check_answer}
use Rattle.product.proofs.Answer.{apart}
use Rattle.product.proofs.Check.{accepted_right, checked_is}
use Rattle.model.specs.declared.Model.{Model}
use Rattle.model.specs.Model.{product_of}
use Rattle.model.proofs.Valid.{product_in_lem}
use Rattle.fitting.specs.Fits.{size_of, Fits}
use Rattle.fitting.proofs.Tested.{tested_well, guarded_by}
use Rattle.std.specs.Prelude.{Ok, Err}
use Rattle.fitting.specs.declared.Unfit.TheVariants.{Invalid, Short}
use Rattle.recheck.specs.declared.CheckError.TheVariants.{Refused, NoStart, Violating, Open}
use Rattle.recheck.specs.Recheck.{Recheck, meaning, in_table, recheck}

-- a reason is never an acceptance
answer_passes : (c : Checked) → answered accepted ≡ check_answer c → c ≡ passes
answer_passes passes e = refl
answer_passes (fails reason r v) e = let z : ◌≡◌ {A = ℕ} 0 1 = cc in absurd (omega arith)

never : (n : ℕ) (vs : List ℕ) → answered accepted ≡ refused n vs → ⊥
never n vs e = let z : ◌≡◌ {A = ℕ} 0 1 = cc in omega arith

module _ (m : Model) (hs ts : List ℕ) where
  -- where neither 6 nor 7 is given, the answer is that of the definitions
  pub recheck_checked : Fits m (length hs) (length ts) → recheck m hs ts ≡ check_answer (checked (product_of m) (in_table (size_of m) hs ts))
  unfolding recheck
  recheck_checked f = tested_well m (length hs) (length ts) f _ _ _

  -- It accepts exactly if the record is valid, the arrays are long enough, and the table is accepted: the start head is present, no violating fact
  -- is, and every consequence of every step is.
  pub accepted_exactly : (recheck m hs ts ≡ answered accepted) ↔ (Fits m (length hs) (length ts) × T (accepts (product_of m) (in_table (size_of m) hs ts)))
  unfolding recheck
  accepted_exactly = (
    λ e.
        let (f, k) = guarded_by m (length hs) (length ts) (check_answer (checked (product_of m) (in_table (size_of m) hs ts))) (answered accepted) (sym e) (never 6 (0 ∷ [])) (never 7 (0 ∷ [])) in
        (f, (checked_is (product_of m) (in_table (size_of m) hs ts)).0 (answer_passes (checked (product_of m) (in_table (size_of m) hs ts)) k)),
    λ (f, a). recheck_checked f ∙ ap check_answer ((checked_is (product_of m) (in_table (size_of m) hs ts)).1 a),
  )

  -- so an accepted table shows that no run from the start reaches a final state
  pub accepted_safe : recheck m hs ts ≡ answered accepted → (ss : List Step) (c : State) → Reaches (product_of m) ss c → ⊥
  accepted_safe e =
      let (f, a) = accepted_exactly.0 e in
      accepted_right (product_of m) (in_table (size_of m) hs ts) (product_in_lem m f.valid_model) a

-- the number and values of an answer leave no other
abbrev meant : Answer Acceptance → Recheck
meant (answered a) = Ok tt
meant (refused n (reason ∷ r ∷ v ∷ _)) = cond (eqb reason 1) (Err NoStart) (cond (eqb reason 2) (Err Violating) (Err (Open r v)))
meant (refused n []) = Err (Refused Short)
meant (refused n (a ∷ [])) = cond (eqb n 6) (Err (Refused Invalid)) (Err (Refused Short))
meant (refused n (a ∷ b ∷ [])) = Err (Refused Short)

meant_meaning : (r : Recheck) → meant (meaning r) ≡ r
meant_meaning (Ok x) = refl
meant_meaning (Err (Refused Invalid)) = refl
meant_meaning (Err (Refused Short)) = refl
meant_meaning (Err NoStart) = refl
meant_meaning (Err Violating) = refl
meant_meaning (Err (Open r v)) = refl

pub meaning_one : (r r' : Recheck) → meaning r ≡ meaning r' → r ≡ r'
meaning_one = apart meant meant_meaning
