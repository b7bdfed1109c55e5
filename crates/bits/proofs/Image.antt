-- Where a matrix leads from a set of states, as it is computed: the rows that it names, joined. Assumes nothing.
use mathlib.Core.Bool.{Bool, true, false, cond, ◌&&◌, ◌||◌, or_assoc, or-false}
use mathlib.Core.Path.{◌≡◌, refl, sym, ap, ap₂, ◌∙◌}
use Prim.Native.Nat.{ℕ, zero, suc, ◌+◌, ◌*◌, ◌/◌, ◌^◌, ◌<◌}
use native.Mathlib.Nat.{add-suc, add-zero, zero-add}
use native.Mathlib.Omega.{arith}
use native.Mathlib.Decide.{dec_lt}
use lib.Dec.{ltb, ltb→lt}
use borrow.Author.Tests.{lt-ltb}
use lib.Bits.{bit_and, bit_or, and_mask, mask_lt}
use Rattle.product.proofs.Lists.{and_left, and_right, same_truth}
use Rattle.bits.specs.Bit.{bit, word}
use Rattle.bits.specs.Matrix.{some, entry, mat, passed, image}
use Rattle.bits.proofs.Bit.{bit_and_lem, bit_or_lem, bit_low, bit_shr, bit_past, bit_ext}
use Rattle.bits.proofs.Set.{bit_word, word_lt}

or_both : (a b c d : Bool) → (a || b) || (c || d) ≡ (a || c) || (b || d)
or_both true b c d = refl
or_both false true true d = refl
or_both false true false d = refl
or_both false false c d = refl

some_more : (n m : ℕ) (f : ℕ → Bool) → some (n + m) f ≡ some n f || some m (λ k. f (n + k))
some_more n zero f = ap (λ i. some i f) (add-zero n) ∙ sym (or-false (some n f))
some_more n (suc m) f =
    ap (λ i. some i f) (add-suc n m) ∙ ap (λ b. b || f (n + m)) (some_more n m f) ∙ or_assoc (some n f) (some m (λ k. f (n + k))) (f (n + m))

some_both : (n : ℕ) (f g : ℕ → Bool) → some n f || some n g ≡ some n (λ k. f k || g k)
some_both zero f g = refl
some_both (suc n) f g = or_both (some n f) (f n) (some n g) (g n) ∙ ap (λ b. b || (f n || g n)) (some_both n f g)

some_same : (n : ℕ) (f g : ℕ → Bool) → ((k : ℕ) → k < n → f k ≡ g k) → some n f ≡ some n g
some_same zero f g e = refl
some_same (suc n) f g e = ap₂ ◌||◌ (some_same n f g (λ k h. e k (omega arith))) (e n (omega arith))

-- the rows from n on are joined to the first n
abbrev join : (n c : ℕ) → ℕ
join n c = bit_or c (c / 2 ^ (8 * n))

half : (n c x : ℕ) → some (n + n) (λ k. entry c k x) ≡ some n (λ k. entry (join n c) k x)
half n c x =
    some_more n n (λ k. entry c k x) ∙ some_both n (λ k. entry c k x) (λ k. entry c (n + k) x)
    ∙ some_same n (λ k. entry c k x || entry c (n + k) x) (λ k. entry (join n c) k x)
    (λ k _. sym (bit_or_lem c (c / 2 ^ (8 * n)) (k * 8 + x)
    ∙ ap (λ b. entry c k x || b) (bit_shr c (8 * n) (k * 8 + x) ∙ ap (bit c) {x = (k * 8 + x) + 8 * n} {y = (n + k) * 8 + x} (omega arith))))

-- what the code computes: eight rows, four, two, one
pub joined_is : (c : ℕ) → bit_and (join 1 (join 2 (join 4 c))) 255 ≡ word 8 (λ x. some 8 (λ k. entry c k x))
joined_is c = bit_ext 8 (bit_and all 255) (word 8 f) (mask_lt all 8) (word_lt 8 f) same
  where
    all : ℕ
    all = join 1 (join 2 (join 4 c))

    f : ℕ → Bool
    f x = some 8 (λ k. entry c k x)

    same : (x : ℕ) → x < 8 → bit (bit_and all 255) x ≡ bit (word 8 f) x
    same x h =
        ap (λ n. bit n x) (and_mask all 8) ∙ bit_low all 8 x h
        ∙ ap (bit all) (sym (zero-add x))
        ∙ sym (half 4 c x ∙ half 2 (join 4 c) x ∙ half 1 (join 2 (join 4 c)) x)
        ∙ sym (bit_word 8 f x h)

word_same : (n : ℕ) (f g : ℕ → Bool) → ((i : ℕ) → i < n → f i ≡ g i) → word n f ≡ word n g
unfolding word
word_same zero f g e = refl
word_same (suc n) f g e = ap₂ (λ b w. cond b (2 ^ n) 0 + w) (e n (omega arith)) (word_same n f g (λ i h. e i (omega arith)))

-- m has row k full where v has state k
pub through_is : (v b m : ℕ) → ((k x : ℕ) → k < 8 → x < 8 → entry m k x ≡ bit v k) → word 8 (λ x. some 8 (λ k. entry (bit_and m b) k x)) ≡ image v b
unfolding image passed
through_is v b m full =
    word_same 8 (λ x. some 8 (λ k. entry (bit_and m b) k x)) (passed v b) (λ x h.
    some_same 8 (λ k. entry (bit_and m b) k x) (λ k. mat v 0 k && mat b k x) (λ k l.
    bit_and_lem m b (k * 8 + x) ∙ ap (λ c. c && entry b k x) (full k x l h ∙ ap (bit v) (sym (zero-add k)))
    ∙ sym (ap₂ (λ c d. (c && entry v 0 k) && (c && d && entry b k x)) (lt-ltb k 8 l) (lt-ltb x 8 h))))

-- the bits of an image
pub image_at : (v b x : ℕ) → bit (image v b) x ≡ passed v b x
unfolding image passed
image_at v b x = go (dec_lt x 8)
  where
    go : Dec (x < 8) → bit (word 8 (passed v b)) x ≡ passed v b x
    go (yes h) = bit_word 8 (passed v b) x h
    go (no h) = bit_past (word 8 (passed v b)) 8 x (word_lt 8 (passed v b)) (omega arith) ∙ sym (none 8)
      where
        none : (n : ℕ) → some n (λ k. mat v 0 k && mat b k x) ≡ false
        none zero = refl
        none (suc n) = ap₂ ◌||◌ (none n) (same_truth (mat v 0 n && mat b n x) false
            (λ t. let u = and_right (ltb n 8) (ltb x 8) (and_left (ltb n 8 && ltb x 8) (entry b n x) (and_right (mat v 0 n) (mat b n x) t)) in
            absurd (let l = ltb→lt x 8 u in omega arith)) (λ t. absurd t))

pub image_lt : (v b : ℕ) → image v b < 2 ^ 8
unfolding image
image_lt v b = word_lt 8 (passed v b)
