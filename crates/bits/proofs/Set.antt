-- Setting a bit, and the bits of a word that is given by them. Assumes nothing.
use mathlib.Core.Bool.{Bool, true, false, cond, ◌||◌}
use mathlib.Core.Path.{◌≡◌, refl, sym, ap, ap₂, ◌∙◌}
use Prim.Native.Nat.{ℕ, zero, suc, ◌+◌, ◌*◌, ◌/◌, ◌%◌, ◌^◌, ◌<◌}
use native.Mathlib.Nat.{pow-suc, mul-div_cancel, mul-mod_left, mod-eq_of_lt, zero-add, mul_comm, mul-one}
use native.Mathlib.Omega.{arith}
use native.Mathlib.Decide.{ℕ_discrete}
use lib.Dec.{lit<, eqb, eqb-suc-suc, eqb-zero-suc, eqb-suc-zero}
use lib.Pow.{pow-lt}
use lib.Bits.{bit_or}
use Rattle.bits.specs.Bit.{odd, bit, word}
use Rattle.bits.proofs.Bit.{bit_or_lem, bit_zero, bit_lower, bit_upper, bit_past, two_pos}

pub bit_pow : (k i : ℕ) → bit (2 ^ k) i ≡ eqb k i
unfolding bit
bit_pow zero zero = refl
bit_pow zero (suc i) = bit_zero i ∙ sym (eqb-zero-suc i)
bit_pow (suc k) zero = ap odd (pow-suc 2 k) ∙ ap (λ n. eqb n 1) (mul-mod_left (2 ^ k) 2) ∙ sym (eqb-suc-zero k)
bit_pow (suc k) (suc i) = ap (λ n. bit (n / 2) i) (pow-suc 2 k) ∙ ap (λ n. bit n i) (mul-div_cancel (2 ^ k) two_pos) ∙ bit_pow k i ∙ sym (eqb-suc-suc k i)

-- `1 << k`, in a word of n bits
pub one_shifted : (n k : ℕ) → k < n → (1 * 2 ^ k) % 2 ^ n ≡ 2 ^ k
one_shifted n k h = ap (λ m. m % 2 ^ n) (mul_comm 1 (2 ^ k) ∙ mul-one (2 ^ k)) ∙ mod-eq_of_lt (pow-lt h)

-- `x | 1 << k`
pub bit_set : (x n k i : ℕ) → k < n → bit (bit_or x ((1 * 2 ^ k) % 2 ^ n)) i ≡ bit x i || eqb k i
bit_set x n k i h = bit_or_lem x ((1 * 2 ^ k) % 2 ^ n) i ∙ ap (λ b. bit x i || b) (ap (λ m. bit m i) (one_shifted n k h) ∙ bit_pow k i)

one_times : (n : ℕ) → 2 ^ n ≡ 1 * 2 ^ n
one_times n = sym (mul_comm 1 (2 ^ n) ∙ mul-one (2 ^ n))

-- the bits of a word
pub word_lt : (n : ℕ) (f : ℕ → Bool) → word n f < 2 ^ n
unfolding word
word_lt zero f = lit< tt
word_lt (suc n) f = go (f n) (word_lt n f)
  where
    go : (b : Bool) → word n f < 2 ^ n → cond b (2 ^ n) 0 + word n f < 2 ^ suc n
    go true h = omega (arith, pow-suc 2 n)
    go false h = omega (arith, pow-suc 2 n)

pub bit_word : (n : ℕ) (f : ℕ → Bool) (i : ℕ) → i < n → bit (word n f) i ≡ f i
unfolding word bit
bit_word zero f i h = absurd (omega arith)
bit_word (suc n) f i h = go (bit_word n f i) (f n) refl (ℕ_discrete i n)
  where
    go : (i < n → bit (word n f) i ≡ f i) → (b : Bool) → f n ≡ b → Dec (i ≡ n) → bit (cond b (2 ^ n) 0 + word n f) i ≡ f i
    go k true e (yes r) =
        ap₂ (λ m j. bit (m + word n f) j) (one_times n) (r ∙ sym (zero-add n)) ∙ bit_upper 1 (word n f) n 0 (word_lt n f) ∙ sym (ap f r ∙ e)
    go k false e (yes r) = ap₂ bit (zero-add (word n f)) r ∙ bit_past (word n f) n n (word_lt n f) (omega arith) ∙ sym (ap f r ∙ e)
    go k true e (no r) = ap (λ m. bit (m + word n f) i) (one_times n) ∙ bit_lower 1 (word n f) n i (word_lt n f) (omega arith) ∙ k (omega arith)
    go k false e (no r) = ap (λ m. bit m i) (zero-add (word n f)) ∙ k (omega arith)
