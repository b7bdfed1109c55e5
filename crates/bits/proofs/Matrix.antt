-- The boolean product of two matrices, as it is computed: column by column of one against row by row of the other. Assumes nothing.
use mathlib.Core.Bool.{Bool, true, false, ◌&&◌, ◌||◌}
use mathlib.Core.Path.{◌≡◌, refl, sym, ap, ap₂, ◌∙◌, subst}
use Prim.Native.Nat.{ℕ, zero, suc, ◌+◌, ◌*◌, ◌/◌, ◌%◌, ◌^◌, ◌<◌}
use native.Mathlib.Nat.{mod-lt, add-mul, mul_right_comm, mul-le-mul, lt_of_le_of_lt, zero-add, zero-mul, one-mul, suc-mul, div-add-mod', div-lt_iff_lt-mul}
use native.Mathlib.Omega.{arith}
use lib.Dec.{eqb, lit<}
use mir.Syntax.{w64}
use mir.Val.{Fits}
use lib.Pow.{pow_pos, split, mod-mod-pow}
use lib.Bits.{bit_and, bit_or, and_block, and_mask, and_le_r, mask_lt, or_lt}
use lib.Arith.{digits_div, digits_mod}
use Rattle.bits.specs.Bit.{bit}
use Rattle.bits.specs.Matrix.{entry, some, multiplied}
use Rattle.bits.proofs.Bit.{bit_or_lem, bit_zero, bit_shr, bit_low, bit_lower, bit_upper, bit_ext, digit_cases, two_pos}
use Rattle.bits.proofs.Set.{bit_word, word_lt}

-- a one in each of m digits of n bits
unfoldable pub ones : (n m : ℕ) → ℕ
ones n zero = 0
ones n (suc m) = ones n m * 2 ^ n + 1

pub ones_8 : ones 8 8 ≡ 0x0101010101010101
unfolding ones
ones_8 = refl

-- one digit further
pub further : (n q e : ℕ) → suc q * n + e ≡ (q * n + e) + n
further n q e = omega (arith, suc-mul q n)

-- the lowest bit of each byte of a word, times r: r in the bytes whose lowest bit is set
outer_step : (a l r : ℕ) → bit_and a (l * 2 ^ 8 + 1) * r ≡ (bit_and (a / 2 ^ 8) l * r) * 2 ^ 8 + a % 2 * r
outer_step a l r =
    ap (λ n. bit_and n (l * 2 ^ 8 + 1) * r) (sym (split a 8))
    ∙ ap (λ n. n * r) (and_block 8 (a / 2 ^ 8) l (a % 2 ^ 8) 1 (mod-lt a (pow_pos 8)) (lit< tt))
    ∙ ap (λ n. (bit_and (a / 2 ^ 8) l * 2 ^ 8 + n) * r) (and_mask (a % 2 ^ 8) 1 ∙ mod-mod-pow a 7 1)
    ∙ add-mul (bit_and (a / 2 ^ 8) l * 2 ^ 8) (a % 2) r
    ∙ ap (λ n. n + a % 2 * r) (mul_right_comm (bit_and (a / 2 ^ 8) l) (2 ^ 8) r)

module _ (r : ℕ) (small : r < 2 ^ 8) where
  once_lt : (d : ℕ) → d < 2 → d * r < 2 ^ 8
  once_lt = digit_cases (λ d. d * r < 2 ^ 8) (rw (zero-mul r) (lit< tt)) (rw (one-mul r) small)

  once : (e d : ℕ) → d < 2 → bit (d * r) e ≡ eqb d 1 && bit r e
  once e = digit_cases (λ d. bit (d * r) e ≡ eqb d 1 && bit r e) (ap (λ n. bit n e) (zero-mul r) ∙ bit_zero e) (ap (λ n. bit n e) (one-mul r))

  pub outer : (m a q e : ℕ) → q < m → e < 8 → entry (bit_and a (ones 8 m) * r) q e ≡ bit a (q * 8) && bit r e
  unfolding ones bit
  outer zero a q e hq he = absurd (omega arith)
  outer (suc m) a zero e hq he =
      ap₂ bit (outer_step a (ones 8 m) r) (zero-add e)
      ∙ bit_lower (bit_and (a / 2 ^ 8) (ones 8 m) * r) (a % 2 * r) 8 e (once_lt (a % 2) (mod-lt a two_pos)) he
      ∙ once e (a % 2) (mod-lt a two_pos)
  outer (suc m) a (suc q) e hq he =
      ap₂ bit (outer_step a (ones 8 m) r) (further 8 q e)
      ∙ bit_upper (bit_and (a / 2 ^ 8) (ones 8 m) * r) (a % 2 * r) 8 (q * 8 + e) (once_lt (a % 2) (mod-lt a two_pos))
      ∙ outer m (a / 2 ^ 8) q e (omega arith) he
      ∙ ap (λ c. c && bit r e) (bit_shr a 8 (q * 8) ∙ ap (bit a) {x = q * 8 + 8} {y = suc q * 8} (omega arith))

-- what the code computes: column k of a, in the lowest bits of the bytes, times row k of b
abbrev pub met : (a b k : ℕ) → ℕ
met a b k = bit_and (a / 2 ^ k) 0x0101010101010101 * bit_and (b / 2 ^ (8 * k)) 255

unfoldable pub summed : ℕ → ℕ → ℕ → ℕ
summed a b zero = 0
summed a b (suc k) = bit_or (summed a b k) (met a b k)

row_at : (b k e : ℕ) → e < 8 → bit (bit_and (b / 2 ^ (8 * k)) 255) e ≡ entry b k e
row_at b k e he =
    ap (λ n. bit n e) (and_mask (b / 2 ^ (8 * k)) 8) ∙ bit_low (b / 2 ^ (8 * k)) 8 e he
    ∙ bit_shr b (8 * k) e ∙ ap (bit b) {x = e + 8 * k} {y = k * 8 + e} (omega arith)

met_at : (a b k q e : ℕ) → q < 8 → e < 8 → entry (met a b k) q e ≡ entry a q k && entry b k e
met_at a b k q e hq he =
    ap (λ n. entry (bit_and (a / 2 ^ k) n * bit_and (b / 2 ^ (8 * k)) 255) q e) (sym ones_8)
    ∙ outer (bit_and (b / 2 ^ (8 * k)) 255) (mask_lt (b / 2 ^ (8 * k)) 8) 8 (a / 2 ^ k) q e hq he
    ∙ ap₂ ◌&&◌ (bit_shr a k (q * 8)) (row_at b k e he)

-- the boolean product of the first k columns and rows
summed_at : (a b k q x : ℕ) → q < 8 → x < 8 → entry (summed a b k) q x ≡ some k (λ p. entry a q p && entry b p x)
unfolding summed
summed_at a b zero q x hq hx = bit_zero (q * 8 + x)
summed_at a b (suc k) q x hq hx =
    bit_or_lem (summed a b k) (met a b k) (q * 8 + x) ∙ ap₂ ◌||◌ (summed_at a b k q x hq hx) (met_at a b k q x hq hx)

-- each entry of the product
pub multiplied_at : (a b q x : ℕ) → q < 8 → x < 8 → entry (multiplied a b) q x ≡ some 8 (λ p. entry a q p && entry b p x)
unfolding multiplied
multiplied_at a b q x hq hx =
    bit_word 64 (λ i. some 8 (λ p. entry a (i / 8) p && entry b p (i % 8))) (q * 8 + x) (omega arith)
    ∙ ap₂ (λ q x. some 8 (λ p. entry a q p && entry b p x)) (digits_div q hx) (digits_mod q hx)

-- no product wraps
pub met_fits : (a b k : ℕ) → Fits w64 (met a b k)
met_fits a b k =
    record { fits = lt_of_le_of_lt (mul-le-mul (and_le_r (a / 2 ^ k) 0x0101010101010101) (and_le_r (b / 2 ^ (8 * k)) 255)) (lit< tt) }

pub product_lt : (a b : ℕ) → multiplied a b < 2 ^ 64
unfolding multiplied
product_lt a b = word_lt 64 (λ i. some 8 (λ p. entry a (i / 8) p && entry b p (i % 8)))

-- what is computed is the product
summed_lt : (a b k : ℕ) → summed a b k < 2 ^ 64
unfolding summed
summed_lt a b zero = lit< tt
summed_lt a b (suc k) = or_lt 64 (summed a b k) (met a b k) (summed_lt a b k) (met_fits a b k).fits

pub summed_is : (a b : ℕ) → summed a b 8 ≡ multiplied a b
summed_is a b = bit_ext 64 (summed a b 8) (multiplied a b) (summed_lt a b 8) (product_lt a b) same
  where
    same : (i : ℕ) → i < 64 → bit (summed a b 8) i ≡ bit (multiplied a b) i
    same i h =
        subst (λ n. bit (summed a b 8) n ≡ bit (multiplied a b) n) (div-add-mod' i 8)
        (let q : i / 8 < 8 = (div-lt_iff_lt-mul {k = 8} {y = 8} (lit< tt)).1 h in let x : i % 8 < 8 = mod-lt i {m = 8} (lit< tt) in
        summed_at a b 8 (i / 8) (i % 8) q x ∙ sym (multiplied_at a b (i / 8) (i % 8) q x))

-- a product with nothing is nothing
module _ (a b : ℕ) (apart : (q k x : ℕ) → entry a q k && entry b k x ≡ false) where
  none_to : (n q x : ℕ) → some n (λ k. entry a q k && entry b k x) ≡ false
  none_to zero q x = refl
  none_to (suc n) q x = rw (none_to n q x, apart q n x)

  nothing : 0 ≡ multiplied a b
  nothing = bit_ext 64 0 (multiplied a b) (lit< tt) (product_lt a b) same
    where
      same : (i : ℕ) → i < 64 → bit 0 i ≡ bit (multiplied a b) i
      same i h =
          subst (λ n. bit 0 n ≡ bit (multiplied a b) n) (div-add-mod' i 8)
          (let q : i / 8 < 8 = (div-lt_iff_lt-mul {k = 8} {y = 8} (lit< tt)).1 h in let x : i % 8 < 8 = mod-lt i {m = 8} (lit< tt) in
          bit_zero (i / 8 * 8 + i % 8) ∙ sym (multiplied_at a b (i / 8) (i % 8) q x ∙ none_to 8 (i / 8) (i % 8)))

pub none_left : (a b : ℕ) → a ≡ 0 → 0 ≡ multiplied a b
none_left a b e = nothing a b (λ q k x. ap (λ n. bit n (q * 8 + k) && entry b k x) e ∙ ap (λ c. c && entry b k x) (bit_zero (q * 8 + k)))

pub none_right : (a b : ℕ) → b ≡ 0 → 0 ≡ multiplied a b
none_right a b e = nothing a b (λ q k x. ap (λ n. entry a q k && bit n (k * 8 + x)) e ∙ ap (λ c. entry a q k && c) (bit_zero (k * 8 + x)) ∙ and_off (entry a q k))
  where
    and_off : (c : Bool) → c && false ≡ false
    and_off true = refl
    and_off false = refl
