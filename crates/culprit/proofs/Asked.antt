-- The violating fact, by the tests of the code. Assumes nothing.
use mathlib.Core.Bool.{Bool, true, false}
use mathlib.Core.Option.{none, some}
use mathlib.Core.Path.{◌≡◌}
use Prim.Native.Nat.{ℕ, ◌+◌, ◌<◌}
use Rattle.product.specs.Facts.{Fact}
use Rattle.culprit.specs.First.{first_of}
use Rattle.culprit.specs.Culprit.{only_if}
use Rattle.culprit.proofs.First.{first_more, first_here}

-- a search by the test p of the facts d: b is what the test gave at i, and before i there was nothing
module _ (p : Fact → Bool) (d : ℕ → Fact) (i : ℕ) (before : first_of (λ k. only_if (p (d k)) (d k)) i ≡ none) {b : Bool} (tested : b ≡ p (d i)) where
  pub sought_more : b ≡ false → first_of (λ k. only_if (p (d k)) (d k)) (i + 1) ≡ none
  sought_more n = first_more (λ k. only_if (p (d k)) (d k)) i before (rw (← tested, n))

  pub sought_here : (n : ℕ) → i < n → b ≡ true → first_of (λ k. only_if (p (d k)) (d k)) n ≡ some (d i)
  sought_here n l y = first_here (λ k. only_if (p (d k)) (d k)) n i (d i) l before (rw (← tested, y))
