-- What the operations of a word do to its bits. Assumes nothing.
use mathlib.Core.Bool.{Bool, true, false, not, ◌&&◌, ◌||◌}
use mathlib.Core.Path.{◌≡◌, refl, sym, ap, ap₂, ◌∙◌, subst}
use Prim.Native.Nat.{ℕ, zero, suc, ◌+◌, ◌-◌, ◌*◌, ◌/◌, ◌%◌, ◌^◌, ◌≤◌, ◌<◌}
use native.Mathlib.Nat.{mod-lt, zero-lt-suc, add-suc, add-zero, add_comm, div-one, div-add-mod'}
use native.Mathlib.Omega.{arith}
use native.Mathlib.Numerals.{add-one}
use lib.Dec.{T, eqb, lit<}
use lib.Arith.{digits_div, digits_mod, lt-one}
use lib.Pow.{pow_pos, high, low, shr-shr, shr_lt, field, mod-mod-pow, ones_split}
use lib.Bits.{bit_and, bit_or, bit_xor, and_shr, and_mod, or_shr, or_mod, xor_shr, xor_mod}
use Rattle.bits.specs.Bit.{odd, bit}

pub two_pos : 0 < 2
two_pos = zero-lt-suc 1

-- a digit is 0 or 1
pub digit_cases : (P : ℕ → Type 0) → P 0 → P 1 → (d : ℕ) → d < 2 → P d
digit_cases P p0 p1 zero h = p0
digit_cases P p0 p1 (suc zero) h = p1
digit_cases P p0 p1 (suc (suc d)) h = absurd (omega arith)

pub half_lt : {n : ℕ} (k : ℕ) → n < 2 ^ suc k → n / 2 < 2 ^ k
half_lt {n} k h = shr_lt k 1 (subst (λ (x : ℕ). n < 2 ^ x) (sym (add-one k)) h)

ones_suc : (k : ℕ) → 2 ^ suc k - 1 ≡ (2 ^ k - 1) * 2 + 1
ones_suc k = ap (λ n. 2 ^ n - 1) (sym (add-one k)) ∙ ones_split k 1

false_true : false ≡ true → ⊥
false_true e = subst T (sym e) tt

-- an operation that goes digit by digit
module _ (op : ℕ → ℕ → ℕ) (f : Bool → Bool → Bool)
    (op_shr : (a b k : ℕ) → op a b / 2 ^ k ≡ op (a / 2 ^ k) (b / 2 ^ k))
    (op-mod : (a b k : ℕ) → op a b % 2 ^ k ≡ op (a % 2 ^ k) (b % 2 ^ k))
    (digit : (x y : ℕ) → x < 2 → y < 2 → eqb (op x y) 1 ≡ f (eqb x 1) (eqb y 1)) where
  bit_op : (a b i : ℕ) → bit (op a b) i ≡ f (bit a i) (bit b i)
  unfolding bit
  bit_op a b zero = ap (λ x. eqb x 1) (op-mod a b 1) ∙ digit (a % 2) (b % 2) (mod-lt a two_pos) (mod-lt b two_pos)
  bit_op a b (suc i) = ap (λ x. bit x i) (op_shr a b 1) ∙ bit_op (a / 2) (b / 2) i

abbrev pub xor : Bool → Bool → Bool
xor true b = not b
xor false b = b

four : (P : ℕ → ℕ → Type 0) → P 0 0 → P 0 1 → P 1 0 → P 1 1 → (x y : ℕ) → x < 2 → y < 2 → P x y
four P a b c d x y hx hy =
    digit_cases (λ x. P x y) (digit_cases (λ y. P 0 y) a b y hy) (digit_cases (λ y. P 1 y) c d y hy) x hx

pub bit_and_lem : (a b i : ℕ) → bit (bit_and a b) i ≡ bit a i && bit b i
bit_and_lem = bit_op bit_and ◌&&◌ and_shr and_mod (four (λ x y. eqb (bit_and x y) 1 ≡ eqb x 1 && eqb y 1) refl refl refl refl)

pub bit_or_lem : (a b i : ℕ) → bit (bit_or a b) i ≡ bit a i || bit b i
bit_or_lem = bit_op bit_or ◌||◌ or_shr or_mod (four (λ x y. eqb (bit_or x y) 1 ≡ eqb x 1 || eqb y 1) refl refl refl refl)

pub bit_xor_lem : (a b i : ℕ) → bit (bit_xor a b) i ≡ xor (bit a i) (bit b i)
bit_xor_lem = bit_op bit_xor xor xor_shr xor_mod (four (λ x y. eqb (bit_xor x y) 1 ≡ xor (eqb x 1) (eqb y 1)) refl refl refl refl)

-- a shift down
pub bit_shr : (x k i : ℕ) → bit (x / 2 ^ k) i ≡ bit x (i + k)
unfolding bit
bit_shr x zero i = ap₂ bit (div-one x) (sym (add-zero i))
bit_shr x (suc k) i =
    ap (λ n. bit (x / 2 ^ n) i) (sym (add-one k) ∙ add_comm k 1) ∙ ap (λ n. bit n i) (sym (shr-shr x 1 k)) ∙ bit_shr (x / 2) k i
    ∙ ap (bit x) (sym (add-suc i k))

pub bit_zero : (i : ℕ) → bit 0 i ≡ false
unfolding bit
bit_zero zero = refl
bit_zero (suc i) = bit_zero i

-- the k low bits
pub bit_low : (x k i : ℕ) → i < k → bit (x % 2 ^ k) i ≡ bit x i
unfolding bit
bit_low x zero i h = absurd (omega arith)
bit_low x (suc k) zero h = ap (λ n. odd (x % 2 ^ n)) (sym (add-one k)) ∙ ap (λ n. eqb n 1) (mod-mod-pow x k 1)
bit_low x (suc k) (suc i) h =
    ap (λ n. bit (x % 2 ^ n / 2) i) (sym (add-one k)) ∙ ap (λ n. bit n i) (field x k 1) ∙ bit_low (x / 2) k i (omega arith)

-- bits past the end
pub bit_past : (x k i : ℕ) → x < 2 ^ k → k ≤ i → bit x i ≡ false
unfolding bit
bit_past x zero i h l = ap (λ n. bit n i) (lt-one h) ∙ bit_zero i
bit_past x (suc k) zero h l = absurd (omega arith)
bit_past x (suc k) (suc i) h l = bit_past (x / 2) k i (half_lt k h) (omega arith)

-- in two parts
pub bit_lower : (hi lo k i : ℕ) → lo < 2 ^ k → i < k → bit (hi * 2 ^ k + lo) i ≡ bit lo i
bit_lower hi lo k i h l = sym (bit_low (hi * 2 ^ k + lo) k i l) ∙ ap (λ n. bit n i) (low hi k h)

pub bit_upper : (hi lo k i : ℕ) → lo < 2 ^ k → bit (hi * 2 ^ k + lo) (i + k) ≡ bit hi i
bit_upper hi lo k i h = sym (bit_shr (hi * 2 ^ k + lo) k i) ∙ ap (λ n. bit n i) (high hi k h)

-- a shift up, in a word of n bits
pub bit_shl : (x n k i : ℕ) → i + k < n → bit ((x * 2 ^ k) % 2 ^ n) (i + k) ≡ bit x i
bit_shl x n k i h = bit_low (x * 2 ^ k) n (i + k) h ∙ ap (λ m. bit m (i + k)) (sym (add-zero (x * 2 ^ k))) ∙ bit_upper x 0 k i (pow_pos k)

pub bit_shl_below : (x n k i : ℕ) → k ≤ n → i < k → bit ((x * 2 ^ k) % 2 ^ n) i ≡ false
bit_shl_below x n k i h l =
    bit_low (x * 2 ^ k) n i (omega arith) ∙ ap (λ m. bit m i) (sym (add-zero (x * 2 ^ k))) ∙ bit_lower x 0 k i (pow_pos k) l ∙ bit_zero i

-- all ones
pub bit_ones : (k i : ℕ) → i < k → bit (2 ^ k - 1) i ≡ true
unfolding bit
bit_ones zero i h = absurd (omega arith)
bit_ones (suc k) zero h = ap odd (ones_suc k) ∙ ap (λ n. eqb n 1) (digits_mod (2 ^ k - 1) (lit< tt))
bit_ones (suc k) (suc i) h = ap (λ n. bit (n / 2) i) (ones_suc k) ∙ ap (λ n. bit n i) (digits_div (2 ^ k - 1) (lit< tt)) ∙ bit_ones k i (omega arith)

-- two numbers with the same bits are equal
pub bit_ext : (k x y : ℕ) → x < 2 ^ k → y < 2 ^ k → ((i : ℕ) → i < k → bit x i ≡ bit y i) → x ≡ y
unfolding bit
bit_ext zero x y hx hy e = lt-one hx ∙ sym (lt-one hy)
bit_ext (suc k) x y hx hy e =
    sym (div-add-mod' x 2)
    ∙ ap₂ (λ a b. a * 2 + b) (bit_ext k (x / 2) (y / 2) (half_lt k hx) (half_lt k hy) (λ i h. e (suc i) (omega arith)))
    (four (λ a b. eqb a 1 ≡ eqb b 1 → a ≡ b) (λ _. refl) (λ q. absurd (false_true q)) (λ q. absurd (false_true (sym q))) (λ _. refl)
    (x % 2) (y % 2) (mod-lt x two_pos) (mod-lt y two_pos) (e zero (omega arith)))
    ∙ div-add-mod' y 2
