-- The lowest set bit, and a number without it. Assumes nothing.
use mathlib.Core.Bool.{Bool, true, false, not, ◌&&◌}
use mathlib.Core.Path.{◌≡◌, refl, ap, ◌∙◌}
use Prim.Native.Nat.{ℕ, zero, suc, ◌+◌, ◌-◌, ◌*◌, ◌/◌, ◌%◌, ◌^◌, ◌<◌}
use native.Mathlib.Nat.{mod-lt, div-add-mod'}
use native.Mathlib.Omega.{arith}
use lib.Dec.{T, eqb, eqb-suc-suc, eqb-suc-zero}
use lib.Arith.{lt-one, digits_div, digits_mod}
use lib.Count.{count_trailing_zeros, under}
use lib.Bits.{bit_and, and_le_r}
use Rattle.bits.specs.Bit.{odd, bit}
use Rattle.bits.proofs.Bit.{bit_and_lem, digit_cases, two_pos, half_lt}

abbrev pub lowest : ℕ → ℕ
lowest d = count_trailing_zeros 64 d

-- the halves of a number and of the one before it
module _ (d : ℕ) (pos : 0 < d) where
  split2 : d / 2 * 2 + d % 2 ≡ d
  split2 = div-add-mod' d 2

  odd_half : d % 2 ≡ 1 → (d - 1) / 2 ≡ d / 2
  odd_half e =
      let x : d - 1 ≡ d / 2 * 2 + 0 = omega (arith, split2) in ap (λ n. n / 2) x ∙ digits_div (d / 2) two_pos

  odd_low : d % 2 ≡ 1 → (d - 1) % 2 ≡ 0
  odd_low e =
      let x : d - 1 ≡ d / 2 * 2 + 0 = omega (arith, split2) in ap (λ n. n % 2) x ∙ digits_mod (d / 2) two_pos

  even_half : d % 2 ≡ 0 → (d - 1) / 2 ≡ d / 2 - 1
  even_half e =
      let x : d - 1 ≡ (d / 2 - 1) * 2 + 1 = omega (arith, split2) in ap (λ n. n / 2) x ∙ digits_div (d / 2 - 1) {m = 2} (omega arith)

and_self : (b : Bool) → b && b ≡ b && true
and_self true = refl
and_self false = refl

and_none : (b : Bool) → b && false ≡ false
and_none true = refl
and_none false = refl

-- one step of the count
tz_odd : (w d : ℕ) → d % 2 ≡ 1 → count_trailing_zeros (suc w) d ≡ 0
unfolding count_trailing_zeros
tz_odd w d e = ap (λ n. under n (count_trailing_zeros w (d / 2))) e

tz_even : (w d : ℕ) → d % 2 ≡ 0 → count_trailing_zeros (suc w) d ≡ suc (count_trailing_zeros w (d / 2))
unfolding count_trailing_zeros
tz_even w d e = ap (λ n. under n (count_trailing_zeros w (d / 2))) e

by_digit : (P : Type 0) (d : ℕ) → (d % 2 ≡ 0 → P) → (d % 2 ≡ 1 → P) → P
by_digit P d z o = digit_cases (λ x. d % 2 ≡ x → P) z o (d % 2) (mod-lt d two_pos) refl

pub lowest_set : (w d : ℕ) → 0 < d → d < 2 ^ w → T (bit d (count_trailing_zeros w d))
unfolding bit
lowest_set zero d p h = absurd (omega (arith, lt-one h))
lowest_set (suc w) d p h =
    by_digit (T (bit d (count_trailing_zeros (suc w) d))) d
    (λ e. rw (tz_even w d e) (lowest_set w (d / 2) (omega (arith, split2 d p)) (half_lt w h)))
    (λ e. rw (tz_odd w d e) (rw e tt))

without : (w d i : ℕ) → 0 < d → d < 2 ^ w → bit d i && bit (d - 1) i ≡ bit d i && not (eqb i (count_trailing_zeros w d))
unfolding bit
without zero d i p h = absurd (omega (arith, lt-one h))
without (suc w) d zero p h =
    by_digit (odd d && odd (d - 1) ≡ odd d && not (eqb 0 (count_trailing_zeros (suc w) d))) d
    (λ e. rw e)
    (λ e. rw (tz_odd w d e, odd_low d p e))
without (suc w) d (suc i) p h =
    by_digit (bit (d / 2) i && bit ((d - 1) / 2) i ≡ bit (d / 2) i && not (eqb (suc i) (count_trailing_zeros (suc w) d))) d
    (λ e. rw (tz_even w d e, even_half d p e, eqb-suc-suc i (count_trailing_zeros w (d / 2))) (without w (d / 2) i (omega (arith, split2 d p)) (half_lt w h)))
    (λ e. rw (tz_odd w d e, odd_half d p e, eqb-suc-zero i) (and_self (bit (d / 2) i)))

-- what `d & (d - 1)` is
pub cleared : (w d i : ℕ) → 0 < d → d < 2 ^ w → bit (bit_and d (d - 1)) i ≡ bit d i && not (eqb i (count_trailing_zeros w d))
cleared w d i p h = bit_and_lem d (d - 1) i ∙ without w d i p h

pub cleared_less : (d : ℕ) → 0 < d → bit_and d (d - 1) < d
cleared_less d p = omega (arith, and_le_r d (d - 1))
