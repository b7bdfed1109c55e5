-- Numbers by their bits, matrices by their entries, and lists gathered over the numbers below n. Assumes nothing.
use mathlib.Core.Bool.{Bool, true, false, ◌&&◌}
use mathlib.Core.List.{List, [], ◌∷◌, ◌++◌}
use mathlib.Core.Path.{◌≡◌, refl, sym, ap, ap₂, ◌∙◌}
use Prim.Native.Nat.{ℕ, zero, suc, ◌+◌, ◌*◌, ◌/◌, ◌%◌, ◌^◌, ◌<◌, ◌≤◌}
use native.Mathlib.Decide.{ℕ_discrete, dec_lt}
use native.Mathlib.Nat.{pow-suc}
use native.Mathlib.Omega.{arith}
use lib.Arith.{digits_div, digits_mod}
use lib.Dec.{ltb, lit<}
use lib.ListN.{length, get_or, replicate, get_or-append, get_or-eq_default}
use lib.Pow.{pow_mono}
use lib.Seq.{get_or_at, ext_get_or}
use borrow.Author.Tests.{lt-ltb, le-ltb, ltb-true}
use Rattle.product.specs.Lists.{up_to, each}
use Rattle.product.proofs.Lists.{over_suc, length_each, length_up_to}
use Rattle.bits.specs.Bit.{bit, word}
use Rattle.bits.specs.Matrix.{entry, mat}
use Rattle.bits.proofs.Bit.{bit_zero, bit_past, bit_ext}
use Rattle.bits.proofs.Set.{bit_word, word_lt}
use Rattle.steps.specs.Steps.{matrix}

below_pow : (n : ℕ) → n < 2 ^ n
below_pow zero = lit< tt
below_pow (suc n) = omega (arith, pow-suc 2 n, below_pow n)

-- two numbers with the same bits are equal
pub same_bits : (x y : ℕ) → ((i : ℕ) → bit x i ≡ bit y i) → x ≡ y
same_bits x y h = bit_ext (x + y) x y (below x (omega arith)) (below y (omega arith)) (λ i _. h i)
  where
    below : (z : ℕ) → z ≤ x + y → z < 2 ^ (x + y)
    below z l = omega (arith, below_pow z, pow_mono l)

-- every bit of a word
pub word_bits : (n : ℕ) (f : ℕ → Bool) (i : ℕ) → bit (word n f) i ≡ ltb i n && f i
word_bits n f i = go (dec_lt i n)
  where
    go : Dec (i < n) → bit (word n f) i ≡ ltb i n && f i
    go (yes l) = bit_word n f i l ∙ ap (λ b. b && f i) (sym (lt-ltb i n l))
    go (no l) = bit_past (word n f) n i (word_lt n f) (omega arith) ∙ ap (λ b. b && f i) (sym (le-ltb i n (omega arith)))

pub is_word : (n : ℕ) (f : ℕ → Bool) (x : ℕ) → ((i : ℕ) → bit x i ≡ ltb i n && f i) → x ≡ word n f
is_word n f x h = same_bits x (word n f) (λ i. h i ∙ sym (word_bits n f i))

-- the entries of a matrix that is given by them
pub matrix_at : (a : ℕ → ℕ → Bool) (q x : ℕ) → mat (matrix a) q x ≡ ltb q 8 && ltb x 8 && a q x
matrix_at a q x = go (ltb q 8) (ltb x 8) refl refl
  where
    go : (b c : Bool) → ltb q 8 ≡ b → ltb x 8 ≡ c → b && c && entry (matrix a) q x ≡ b && c && a q x
    go true true i j =
        let k : q < 8 = ltb-true q 8 i in
        let l : x < 8 = ltb-true x 8 j in
        bit_word 64 (λ i. a (i / 8) (i % 8)) (q * 8 + x) (omega arith) ∙ ap₂ a (digits_div q l) (digits_mod q l)
    go true false i j = refl
    go false c i j = refl

and_off : (a b : Bool) → a && b && false ≡ false
and_off true true = refl
and_off true false = refl
and_off false b = refl

pub zero_at : (q x : ℕ) → mat 0 q x ≡ false
zero_at q x = ap (λ b. ltb q 8 && ltb x 8 && b) (bit_zero (q * 8 + x)) ∙ and_off (ltb q 8) (ltb x 8)

-- what a gathered list has at each place
pub length_gathered : (n : ℕ) (f : ℕ → ℕ) → length (each (up_to n) f) ≡ n
length_gathered n f = length_each (up_to n) f ∙ length_up_to n

pub gathered_at : (n : ℕ) (f : ℕ → ℕ) (i : ℕ) → i < n → get_or (each (up_to n) f) i 0 ≡ f i
gathered_at zero f i l = absurd (omega arith)
gathered_at (suc n) f i l = ap (λ xs. get_or xs i 0) (over_suc n (λ i. f i ∷ [])) ∙ go (gathered_at n f i) (ℕ_discrete i n)
  where
    go : (i < n → get_or (each (up_to n) f) i 0 ≡ f i) → Dec (i ≡ n) → get_or (each (up_to n) f ++ f n ∷ []) i 0 ≡ f i
    go k (yes e) = rw e (get_or_at (each (up_to n) f) (f n) [] 0 n (length_gathered n f))
    go k (no e) = get_or-append (each (up_to n) f) (f n ∷ []) 0 i (omega (arith, length_gathered n f)) ∙ k (omega arith)

pub gathered_past : (n : ℕ) (f : ℕ → ℕ) (i : ℕ) → n ≤ i → get_or (each (up_to n) f) i 0 ≡ 0
gathered_past n f i l = get_or-eq_default (each (up_to n) f) 0 (omega (arith, length_gathered n f))

pub is_gathered : (n : ℕ) (f : ℕ → ℕ) (xs : List ℕ) → length xs ≡ n → ((i : ℕ) → i < n → get_or xs i 0 ≡ f i) → xs ≡ each (up_to n) f
is_gathered n f xs e h =
    ext_get_or 0 xs (each (up_to n) f) (e ∙ sym (length_gathered n f)) (λ i l. let k : i < n = omega arith in h i k ∙ sym (gathered_at n f i k))

pub zeros_at : (n i : ℕ) → ◌≡◌ {A = ℕ} (get_or (replicate n 0) i 0) 0
zeros_at zero i = refl
zeros_at (suc n) zero = refl
zeros_at (suc n) (suc i) = zeros_at n i
