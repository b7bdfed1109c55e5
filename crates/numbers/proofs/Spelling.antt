-- How large what is read can be. Assumes nothing.
use mathlib.Core.Path.{◌≡◌, refl}
use Prim.Native.Nat.{ℕ, suc, ◌+◌, ◌-◌, ◌*◌, ◌^◌, ◌<◌, ◌≤◌}
use native.Mathlib.Numerals.{add-one}
use native.Mathlib.Nat.{pow-suc, pow-le-pow_right, add-zero}
use native.Mathlib.Omega.{arith}
use mathlib.Core.Bool.{Bool, true, false}
use mathlib.Core.List.{List, [], ◌∷◌}
use lib.ListN.{length, get_or}
use lib.Dec.{ltb, eqb}
use borrow.Author.Tests.{ltb-false}
use Rattle.text.specs.Split.{pick}
use Rattle.numbers.specs.Number.{spelled, number_of}
use Rattle.std.specs.Prelude.{Some, None}

-- a number of i digits is below 10 ^ i
pub grows : (i v d : ℕ) → v < 10 ^ i → d < 10 → v * 10 + d < 10 ^ (i + 1)
grows i v d h k = rw (add-one, pow-suc) (omega arith)

pub small : (i v : ℕ) → i ≤ 5 → v < 10 ^ i → v < 100000
small i v h k = let p : 10 ^ i ≤ 10 ^ 5 = pow-le-pow_right (omega arith) {i = i} {j = 5} (omega arith) in omega arith

-- what is read from a field is below 100,000
spelled_below : (i v w : ℕ) (s : List ℕ) → v < 10 ^ i → spelled v s ≡ Some w → w < 10 ^ (i + length s)
unfolding spelled
spelled_below i v w [] h e = let p : v ≡ w = cc in rw (add-zero, ← p) h
spelled_below i v w (b ∷ s) h e = go (spelled_below (suc i) (v * 10 + (b - 48)) w s) (ltb b 48) (ltb 57 b) refl e
  where
    go : (v * 10 + (b - 48) < 10 ^ suc i → spelled (v * 10 + (b - 48)) s ≡ Some w → w < 10 ^ (suc i + length s)) → (x y : Bool) → ltb 57 b ≡ y
        → pick x None (pick y None (spelled (v * 10 + (b - 48)) s)) ≡ Some w → w < 10 ^ (i + suc (length s))
    go on true y l e = let z : ◌≡◌ {A = ℕ} 0 1 = cc in absurd (omega arith)
    go on false true l e = let z : ◌≡◌ {A = ℕ} 0 1 = cc in absurd (omega arith)
    go on false false l e =
        let d : b ≤ 57 = ltb-false 57 b l in
        let p : i + suc (length s) ≡ suc i + length s = omega arith in
        rw p (on (rw pow-suc (omega arith)) e)

pub number_below : (s : List ℕ) (v : ℕ) → number_of s ≡ Some v → v < 100000
unfolding number_of
number_below s v e = go (eqb (length s) 0) (ltb 5 (length s)) (eqb (length s) 1) (eqb (get_or s 0 0) 48) refl e
  where
    read : length s ≤ 5 → spelled 0 s ≡ Some v → v < 100000
    read h e =
        let p : 10 ^ (0 + length s) ≤ 10 ^ 5 = pow-le-pow_right (omega arith) {i = 0 + length s} {j = 5} (omega arith) in
        omega (arith, spelled_below 0 0 v s (omega arith) e)

    go : (x y z u : Bool) → ltb 5 (length s) ≡ y → pick x None (pick y None (pick z (spelled 0 s) (pick u None (spelled 0 s)))) ≡ Some v → v < 100000
    go true y z u l e = let z : ◌≡◌ {A = ℕ} 0 1 = cc in absurd (omega arith)
    go false true z u l e = let z : ◌≡◌ {A = ℕ} 0 1 = cc in absurd (omega arith)
    go false false true u l e = read (ltb-false 5 (length s) l) e
    go false false false true l e = let z : ◌≡◌ {A = ℕ} 0 1 = cc in absurd (omega arith)
    go false false false false l e = read (ltb-false 5 (length s) l) e
