-- The copy of the collected cells. Assumes nothing.
use mathlib.Core.Path.{◌≡◌, refl, sym, ap, ◌∙◌}
use mathlib.Core.List.{List, ◌++◌}
use Prim.Native.Nat.{ℕ, zero, suc, ◌+◌, ◌≤◌}
use native.Mathlib.Numerals.{add-one}
use native.Mathlib.Omega.{arith}
use lib.ListN.{length, get_or, set, take, drop}
use lib.Seq.{take-suc, append_snoc, length-take-le}
use Rattle.std.proofs.Common.{drop-cons}
use Rattle.std.proofs.lemmas.List.{set_at}
use Rattle.listing.specs.Reading.{filled}

-- the copy, one cell more
pub fill_none : (xs ys : List ℕ) → ys ≡ filled 0 xs ys
unfolding filled
fill_none xs ys = refl

pub fill_more : (xs ys zs : List ℕ) (i : ℕ) {v : ℕ} → v ≡ get_or xs i 0 → zs ≡ filled i xs ys → set zs i v ≡ filled (i + 1) xs ys
unfolding filled
fill_more xs ys zs i e k = ap (set zs i) e ∙ ap (λ l. set l i (get_or xs i 0)) k ∙ rw add-one

-- the copy of all at once
pub filled_front : (xs ys : List ℕ) (n : ℕ) → n ≤ length xs → n ≤ length ys → take n xs ++ drop n ys ≡ filled n xs ys
unfolding filled
filled_front xs ys zero h k = refl
filled_front xs ys (suc n) h k =
    ap (λ l. l ++ drop (suc n) ys) (take-suc xs n 0 (omega arith))
    ∙ append_snoc (take n xs) (get_or xs n 0) (drop (suc n) ys)
    ∙ sym (set_at (take n xs) (get_or ys n 0) (drop (suc n) ys) (get_or xs n 0) n (length-take-le n xs (omega arith)))
    ∙ ap (λ l. set (take n xs ++ l) n (get_or xs n 0)) (sym (drop-cons ys n 0 (omega arith)))
    ∙ ap (λ l. set l n (get_or xs n 0)) (filled_front xs ys n (omega arith) (omega arith))
