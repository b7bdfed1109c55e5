-- `same_bytes` tells equal lists from others, and is what `==` on slices tests. Assumes nothing.
use mathlib.Core.Path.{◌≡◌, refl, ap, ◌∙◌}
use Prim.Native.Nat.{ℕ}
use mathlib.Core.Bool.{Bool, true, false}
use mathlib.Core.List.{List, [], ◌∷◌}
use lib.Dec.{eqb}
use borrow.Author.Tests.{eq-eqb, eqb-true}
use Rattle.text.specs.Split.{pick, same_bytes}

-- it is true exactly of equal lists
pub same_equal : (a b : List ℕ) → same_bytes a b ≡ true → a ≡ b
unfolding same_bytes
same_equal [] [] e = refl
same_equal [] (b ∷ bs) e = cc
same_equal (a ∷ more) [] e = cc
same_equal (a ∷ more) (b ∷ bs) e = go (same_equal more bs) (eqb a b) refl e
  where
    go : (same_bytes more bs ≡ true → more ≡ bs) → (d : Bool) → eqb a b ≡ d → pick d (same_bytes more bs) false ≡ true → a ∷ more ≡ b ∷ bs
    go rest true k e = ap (λ x. x ∷ more) (eqb-true a b k) ∙ ap (λ l. b ∷ l) (rest e)
    go rest false k e = cc

pub equal_same : (a : List ℕ) → same_bytes a a ≡ true
unfolding same_bytes
equal_same [] = refl
equal_same (a ∷ more) = rw (eq-eqb a a refl) (equal_same more)

-- lists that differ are not the same
pub differing : (a b : List ℕ) → (a ≡ b → ⊥) → false ≡ same_bytes a b
differing a b n = go (same_bytes a b) refl
  where
    go : (x : Bool) → same_bytes a b ≡ x → false ≡ x
    go true e = absurd (n (same_equal a b e))
    go false e = refl
