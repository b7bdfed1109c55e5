-- A set of states as a matrix: row k full where it has state k. Assumes nothing.
use mathlib.Core.Bool.{◌&&◌, ◌||◌, and-true, or-false}
use mathlib.Core.Path.{◌≡◌, refl, sym, ap, ap₂, ◌∙◌}
use Prim.Native.Nat.{ℕ, zero, suc, ◌+◌, ◌*◌, ◌%◌, ◌^◌, ◌<◌}
use native.Mathlib.Nat.{mul-add, mul_assoc, mul-one, zero-mul, add-zero, mul-le-mul_right, lt_of_le_of_lt}
use native.Mathlib.Omega.{arith}
use native.Mathlib.Decide.{dec_lt}
use lib.Dec.{lit<}
use lib.Bits.{bit_and, bit_or, and_le_r, and_mask, mask_lt}
use mir.Syntax.{w64}
use mir.Val.{Fits}
use Rattle.bits.specs.Bit.{bit}
use Rattle.bits.specs.Matrix.{entry}
use Rattle.bits.proofs.Bit.{bit_or_lem, bit_low, bit_past, bit_lower, bit_upper, bit_shl, bit_shl_below, bit_ones}
use Rattle.bits.proofs.Matrix.{ones, ones_8, further, outer}

-- each digit of a word is w
repeat_step : (n w l : ℕ) → w * (l * 2 ^ n + 1) ≡ (w * l) * 2 ^ n + w
repeat_step n w l = mul-add w (l * 2 ^ n) 1 ∙ ap₂ ◌+◌ (sym (mul_assoc w l (2 ^ n))) (mul-one w)

first : (n e : ℕ) → zero * n + e ≡ e
first n e = omega (arith, zero-mul n)

repeat : (n m w q e : ℕ) → w < 2 ^ n → q < m → e < n → bit (w * ones n m) (q * n + e) ≡ bit w e
unfolding ones
repeat n zero w q e hw hq he = absurd (omega arith)
repeat n (suc m) w zero e hw hq he =
    ap₂ bit (repeat_step n w (ones n m)) (first n e) ∙ bit_lower (w * ones n m) w n e hw he
repeat n (suc m) w (suc q) e hw hq he =
    ap₂ bit (repeat_step n w (ones n m)) (further n q e)
    ∙ bit_upper (w * ones n m) w n (q * n + e) hw ∙ repeat n m w q e hw (omega arith) he

ones_7 : ones 7 7 ≡ 0x40810204081
unfolding ones
ones_7 = refl

-- what the code computes: seven copies of the low seven bits, and bit 7
abbrev seven : ℕ → ℕ
seven v = bit_and v 127 * 0x40810204081

seven_lt : (v : ℕ) → seven v < 2 ^ 49
seven_lt v = lt_of_le_of_lt (mul-le-mul_right 0x40810204081 (and_le_r v 127)) (lit< tt)

pub seven_fits : (v : ℕ) → Fits w64 (seven v)
seven_fits v = record { fits = omega (arith, seven_lt v) }

pub column_at : (v k : ℕ) → k < 8 → entry (bit_or (seven v) ((v * 2 ^ 49) % 2 ^ 64)) k 0 ≡ bit v k
column_at v k h =
    ap (bit (bit_or (seven v) ((v * 2 ^ 49) % 2 ^ 64))) (add-zero (k * 8)) ∙ bit_or_lem (seven v) ((v * 2 ^ 49) % 2 ^ 64) (k * 8) ∙ go (dec_lt k 7)
  where
    go : Dec (k < 7) → bit (seven v) (k * 8) || bit ((v * 2 ^ 49) % 2 ^ 64) (k * 8) ≡ bit v k
    go (yes l) =
        ap₂ ◌||◌
        (ap (bit (seven v)) {x = k * 8} {y = k * 7 + k} (omega arith) ∙ ap (λ c. bit (bit_and v 127 * c) (k * 7 + k)) (sym ones_7)
        ∙ repeat 7 7 (bit_and v 127) k k (mask_lt v 7) l l ∙ ap (λ n. bit n k) (and_mask v 7) ∙ bit_low v 7 k l)
        (bit_shl_below v 64 49 (k * 8) (omega arith) (omega arith))
        ∙ or-false (bit v k)
    go (no l) =
        ap₂ ◌||◌ (bit_past (seven v) 49 (k * 8) (seven_lt v) (omega arith))
        (ap (bit ((v * 2 ^ 49) % 2 ^ 64)) {x = k * 8} {y = k + 49} (omega arith) ∙ bit_shl v 64 49 k (omega arith))

-- rows filled from the first column
abbrev pub filled : ℕ → ℕ
filled d = bit_and d 0x0101010101010101 * 255

pub filled_fits : (d : ℕ) → Fits w64 (filled d)
filled_fits d = record { fits = lt_of_le_of_lt (mul-le-mul_right 255 (and_le_r d 0x0101010101010101)) (lit< tt) }

pub filled_at : (d k x : ℕ) → k < 8 → x < 8 → entry (filled d) k x ≡ entry d k 0
filled_at d k x hk hx =
    ap (λ n. entry (bit_and d n * 255) k x) (sym ones_8) ∙ outer 255 (lit< tt) 8 d k x hk hx
    ∙ ap₂ ◌&&◌ (ap (bit d) (sym (add-zero (k * 8)))) (bit_ones 8 x hx) ∙ and-true (entry d k 0)
