-- What a test that was made says of the test that is meant, also of every number below a count, as a loop makes it. Assumes nothing.
use mathlib.Core.Bool.{Bool, true, false}
use mathlib.Core.List.{[], ◌∷◌}
use mathlib.Core.Path.{◌≡◌, sym, ◌∙◌, subst}
use Prim.Native.Nat.{ℕ, ◌+◌, ◌<◌, ◌≤◌}
use native.Mathlib.Numerals.{add-one}
use native.Mathlib.Omega.{arith}
use lib.Dec.{T}
use Rattle.product.specs.Lists.{up_to, all}
use Rattle.product.proofs.Lists.{all_append, same_truth}
use Rattle.model.proofs.Valid.{all_below}

pub passed : {b t : Bool} → b ≡ t → b ≡ true → t ≡ true
passed {b} e n = sym e ∙ n

pub failed : {b t : Bool} → b ≡ t → b ≡ false → t ≡ false
failed {b} e n = sym e ∙ n

-- b is what the test gave at i
module _ (p : ℕ → Bool) (i : ℕ) {b : Bool} (tested : b ≡ p i) where
  pub more : all p (up_to i) ≡ true → b ≡ true → all p (up_to (i + 1)) ≡ true
  more h n = rw (add-one, all_append p (up_to i) (i ∷ []), h, passed tested n)

  pub stop : (n : ℕ) → i < n → b ≡ false → false ≡ all p (up_to n)
  stop n l h = same_truth false (all p (up_to n)) (λ t. absurd t) (λ t. subst T (failed tested h) (all_below p n t i l))

-- all below the count have passed
pub done : (p : ℕ → Bool) {i n : ℕ} → i ≤ n → n ≤ i → all p (up_to i) ≡ true → true ≡ all p (up_to n)
done p {i} {n} l k h = let e : i ≡ n = omega arith in rw (← e) (sym h)
