-- The numbers of a fact in range, and clearing cell by cell. Assumes nothing.
use mathlib.Core.Bool.{true, ◌&&◌}
use mathlib.Core.List.{List, ◌++◌}
use mathlib.Core.Path.{◌≡◌, refl, sym, ap, ◌∙◌}
use Prim.Native.Nat.{ℕ, zero, suc, ◌<◌, ◌≤◌, min}
use native.Mathlib.Decide.{le_ind, dec_le}
use native.Mathlib.Numerals.{add-one}
use native.Mathlib.Omega.{arith}
use borrow.Author.Fill.{fill_none, fill_more}
use borrow.Author.Tests.{lt-ltb}
use lib.Dec.{ltb}
use lib.ListN.{length, set, length-set, replicate, drop}
use lib.Seq.{set_out}
use Rattle.product.specs.Table.{absent}
use Rattle.table.specs.Cells.{cleared}

-- the numbers of a fact are in range
pub head_inside : {G Q q g : ℕ} → q < Q → g < G → (ltb q Q && ltb g G) ≡ true
head_inside {G} {Q} {q} {g} i j = rw (lt-ltb q Q i, lt-ltb g G j)

pub triple_inside : {G Q q g e : ℕ} → q < Q → g < G → e < Q → (ltb q Q && ltb g G && ltb e Q) ≡ true
triple_inside {G} {Q} {q} {g} {e} i j k = rw (lt-ltb q Q i, lt-ltb g G j, lt-ltb e Q k)

-- n cells filled, of as many as there are
pub cleared_fill : (n : ℕ) (xs : List ℕ) → n ≤ length xs → replicate n absent ++ drop n xs ≡ cleared n xs
unfolding cleared
cleared_fill zero xs l = sym (fill_none xs absent)
cleared_fill (suc n) xs l =
    sym (rw add-one at (fill_more n absent xs (omega arith))) ∙ ap (λ l. set l n absent) (cleared_fill n xs (omega arith))

pub length_cleared : (n : ℕ) (xs : List ℕ) → length (cleared n xs) ≡ length xs
unfolding cleared
length_cleared zero xs = refl
length_cleared (suc n) xs = length-set (cleared n xs) n absent ∙ length_cleared n xs

-- past the end nothing is cleared
pub cleared_past : (n k : ℕ) (xs ys : List ℕ) → n ≤ k → length xs ≤ n → ys ≡ cleared n xs → ys ≡ cleared k xs
unfolding cleared
cleared_past n k xs ys l h e =
    le_ind (λ k. ys ≡ cleared k xs) e (λ j i e'. e' ∙ sym (set_out (cleared j xs) j absent (omega (arith, length_cleared j xs)))) k l

-- filled as far as there are cells, of the first n
pub cleared_within : (n : ℕ) (xs ys : List ℕ) {k : ℕ} → k ≡ min n (length xs) → ys ≡ replicate k absent → ys ++ drop k xs ≡ cleared n xs
cleared_within n xs ys {k} e f =
    ap (λ l. l ++ drop k xs) f ∙ cleared_fill k xs (omega arith) ∙ at (dec_le n (length xs))
  where
    at : Dec (n ≤ length xs) → cleared k xs ≡ cleared n xs
    at (yes l) = let same : k ≡ n = omega arith in rw same
    at (no l) = cleared_past k n xs (cleared k xs) (omega arith) (omega arith) refl
