-- The first element of a list that passes, by the tests that were made; and the code's answer. Assumes nothing.
use mathlib.Core.Bool.{Bool, true, false, not}
use mathlib.Core.List.{List, [], ◌∷◌}
use mathlib.Core.Logic.{inl, inr}
use mathlib.Core.Option.{Option, none, some}
use mathlib.Core.Path.{◌≡◌, refl}
use Prim.Native.Nat.{ℕ}
use native.Mathlib.Omega.{arith}
use Rattle.std.specs.Prelude as code
use Rattle.product.specs.Lists.{find, ◌∈◌}
use Rattle.product.specs.Product.{Step}
use Rattle.model.proofs.Counted.{passed, failed}
use Rattle.recheck.specs.declared.Opening.{Opening}
use Rattle.recheck.specs.Tests.{step, found_as}

-- two tests that agree on the list
pub find_same : {A : Type 0} (p r : A → Bool) (xs : List A) → ((x : A) → x ∈ xs → p x ≡ r x) → find p xs ≡ find r xs
find_same p r [] h = refl
find_same p r (x ∷ xs) h = rw (h x (inl refl), find_same p r xs (λ y i. h y (inr i)))

-- one element alone, of which a test was made
module _ {A : Type 0} (k : A → Bool) (x : A) {b : Bool} (tested : b ≡ k x) where
  pub hit : b ≡ false → find (λ x. not (k x)) (x ∷ []) ≡ some x
  hit h = rw (failed tested h)

  pub miss : b ≡ true → find (λ x. not (k x)) (x ∷ []) ≡ none
  miss h = rw (passed tested h)

-- what the code answered
pub found_some : (o : Option Step) {f : code.Option Opening} {x : Opening} → f ≡ found_as o → f ≡ code.Some x → o ≡ some (step x.rule x.by)
found_some none e h = let z : ◌≡◌ {A = ℕ} 0 1 = cc in absurd (omega arith)
found_some (some s) {x = x} e h = let i : ◌≡◌ {A = Opening} (record { rule = s.by_rule; by = s.by_move }) x = cc in rw (← i)

pub found_none : (o : Option Step) {f : code.Option Opening} → f ≡ found_as o → f ≡ code.None → o ≡ none
found_none none e h = refl
found_none (some s) e h = let z : ◌≡◌ {A = ℕ} 0 1 = cc in absurd (omega arith)
