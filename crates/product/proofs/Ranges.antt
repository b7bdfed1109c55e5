-- Chains over the numbers below a count: what `all` and `find` answer, as it is said of `up_to`. Assumes nothing.
use mathlib.Core.Bool.{Bool, true, false, ◌&&◌}
use mathlib.Core.List.{List, [], ◌∷◌, ◌++◌}
use mathlib.Core.Path.{◌≡◌, refl, ap, ◌∙◌}
use Prim.Native.Nat.{ℕ, zero, suc, ◌+◌, ◌<◌, ◌≤◌}
use native.Mathlib.Omega.{arith}
use denote.Param.Members.{Mut}
use denote.Ref.{Bor}
use Rattle.std.specs.declared.ops.Range.{Range}
use Rattle.std.specs.Prelude.{Option, Some, None, MatchOption}
use Rattle.std.specs.Fn.{Called, CalledAt}
use Rattle.std.specs.Iterator.{ChecksAll, FindsItem}
use Rattle.std.specs.List.{range_with_len, list_all}
use Rattle.std.proofs.iter.Yields.{nat_range_steps}
use Rattle.std.proofs.lemmas.Iterator.{YieldsList-from_range, first_from_Range}
use Rattle.std.proofs.lemmas.Iterator.Search.{all_from_yields_List}
use Rattle.product.specs.Lists.{up_to, all}

range_more : (a n : ℕ) → range_with_len a (suc n) ≡ range_with_len a n ++ (a + n) ∷ []
range_more a zero = ap (λ x. x ∷ []) (omega arith)
range_more a (suc n) = ap (λ xs. a ∷ xs) (range_more (a + 1) n ∙ ap (λ x. range_with_len (a + 1) n ++ x ∷ []) (omega arith))

range_is : (n : ℕ) → range_with_len 0 n ≡ up_to n
range_is zero = refl
range_is (suc n) = range_more 0 n ∙ rw (range_is n) (ap (λ x. up_to n ++ x ∷ []) (omega arith))

all_is : (p : ℕ → Bool) (xs : List ℕ) → list_all p xs ≡ all p xs
all_is p [] = refl
all_is p (x ∷ xs) = ap (λ b. p x && b) (all_is p xs)

-- `(0..n).all(..)`, where the closure answers p
pub all_below : {F : Type 0} {g : Mut F (ℕ × Unit {0}) Bool} (p : ℕ → Bool) {n : ℕ} {u : Range ℕ} {f : F} {r : Bool}
    → ChecksAll nat_range_steps g (record { start = 0; end = n }) f r u
    → ((x : ℕ) (b : Bool) (q : F) → Called g f (x, tt) b q → (q ≡ f) × (b ≡ p x)) → r ≡ all p (up_to n)
all_below p {n} {u} {f} {r} ran k = all_from_yields_List p u f r ran (YieldsList-from_range 0 n n refl (omega arith)) k ∙ ap (list_all p) (range_is n) ∙ all_is p (up_to n)

-- `(0..n).find(..)`: the first that passes, where the closure's answers say Yes and No
pub first_below : {F : Type 0} {g : Mut F (Bor ℕ × Unit {0}) Bool} (Yes No : ℕ → Type 0) {n : ℕ} (u : Range ℕ) {f : F} (r : Option ℕ)
    → FindsItem nat_range_steps g (record { start = 0; end = n }) f r u
    → ((x : ℕ) (q : F) → CalledAt g f x true q → Yes x) → ((x : ℕ) (q : F) → CalledAt g f x false q → (q ≡ f) × No x)
    → MatchOption r ((k : ℕ) → k < n → No k) (λ i. (i < n) × Yes i × ((k : ℕ) → k < i → No k))
first_below Yes No {n} u {f} r ran y k = go r (first_from_Range (record { start = 0; end = n }) u f r Yes No ran y k)
  where
    go : (r : Option ℕ) → MatchOption r ((k : ℕ) → 0 ≤ k → k < n → No k) (λ i. (0 ≤ i) × (i < n) × Yes i × ((k : ℕ) → 0 ≤ k → k < i → No k))
        → MatchOption r ((k : ℕ) → k < n → No k) (λ i. (i < n) × Yes i × ((k : ℕ) → k < i → No k))
    go None h = λ k l. h k (omega arith) l
    go (Some i) (_, l, s, h) = (l, s, λ k j. h k (omega arith) j)
