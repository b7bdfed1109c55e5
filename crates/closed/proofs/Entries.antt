-- The entries of a product, of an image, and of what is included. Assumes nothing.
use mathlib.Core.Bool.{Bool, true, false, ◌&&◌, ◌||◌}
use mathlib.Core.Path.{◌≡◌, refl, sym, ap, ◌∙◌, subst, subst⁻¹}
use Prim.Native.Nat.{ℕ, ◌+◌, ◌*◌, ◌/◌, ◌%◌, ◌^◌, ◌<◌}
use native.Mathlib.Decide.{dec_lt}
use native.Mathlib.Nat.{mod-lt, div-add-mod', div-lt_iff_lt-mul, zero-add}
use native.Mathlib.Omega.{arith}
use lib.Bits.{bit_or}
use lib.Dec.{T, ltb, lit<, eqb→eq, ltb→lt, lt→ltb}
use borrow.Author.Tests.{eq-eqb}
use Rattle.product.proofs.Lists.{and_left, and_right, both, or_left, same_truth}
use Rattle.bits.specs.Bit.{bit}
use Rattle.bits.specs.Matrix.{entry, mat, multiplied, passed, image}
use Rattle.bits.proofs.Bit.{bit_or_lem, bit_past}
use Rattle.bits.proofs.Image.{image_at}
use Rattle.bits.proofs.Matrix.{multiplied_at}
use Rattle.bits.proofs.Some.{some_of, of_some}
use Rattle.steps.proofs.Words.{same_bits}
use Rattle.closed.specs.Closed.{included}

-- an entry is inside of the matrix
pub row_in : (m q x : ℕ) → T (mat m q x) → q < 8
row_in m q x t = ltb→lt q 8 (and_left (ltb q 8) (ltb x 8) (and_left (ltb q 8 && ltb x 8) (entry m q x) t))

pub column_in : (m q x : ℕ) → T (mat m q x) → x < 8
column_in m q x t = ltb→lt x 8 (and_right (ltb q 8) (ltb x 8) (and_left (ltb q 8 && ltb x 8) (entry m q x) t))

entry_of : (m q x : ℕ) → T (mat m q x) → T (entry m q x)
entry_of m q x t = and_right (ltb q 8 && ltb x 8) (entry m q x) t

mat_of : (m q x : ℕ) → q < 8 → x < 8 → T (entry m q x) → T (mat m q x)
mat_of m q x i j t = both (ltb q 8 && ltb x 8) (entry m q x) (both (ltb q 8) (ltb x 8) (lt→ltb q 8 i) (lt→ltb x 8 j)) t

-- of a product, by the state in the middle
module _ (a b q x : ℕ) where
  pub product_of : (k : ℕ) → T (mat a q k) → T (mat b k x) → T (mat (multiplied a b) q x)
  product_of k s t =
      let i = row_in a q k s in
      let j = column_in b k x t in
      mat_of (multiplied a b) q x i j (subst⁻¹ T (multiplied_at a b q x i j)
      (some_of 8 (λ k. entry a q k && entry b k x) k (row_in b k x t) (both (entry a q k) (entry b k x) (entry_of a q k s) (entry_of b k x t))))

  pub of_product : T (mat (multiplied a b) q x) → (k : ℕ) × T (mat a q k) × T (mat b k x)
  of_product t =
      let i = row_in (multiplied a b) q x t in
      let j = column_in (multiplied a b) q x t in
      let (k, l, u) = of_some 8 (λ k. entry a q k && entry b k x) (subst T (multiplied_at a b q x i j) (entry_of (multiplied a b) q x t)) in
      (k, mat_of a q k i l (and_left (entry a q k) (entry b k x) u), mat_of b k x l j (and_right (entry a q k) (entry b k x) u))

-- of an image
module _ (v b x : ℕ) where
  pub image_of : (k : ℕ) → T (mat v 0 k) → T (mat b k x) → T (mat (image v b) 0 x)
  unfolding passed
  image_of k s t =
      mat_of (image v b) 0 x (lit< tt) (column_in b k x t)
      (subst⁻¹ (λ n. T (bit (image v b) n)) (zero-add x) (subst⁻¹ T (image_at v b x)
      (some_of 8 (λ k. mat v 0 k && mat b k x) k (row_in b k x t) (both (mat v 0 k) (mat b k x) s t))))

  pub of_image : T (mat (image v b) 0 x) → (k : ℕ) × T (mat v 0 k) × T (mat b k x)
  unfolding passed
  of_image t =
      let (k, _, u) = of_some 8 (λ k. mat v 0 k && mat b k x) (subst T (image_at v b x) (subst (λ n. T (bit (image v b) n)) (zero-add x) (entry_of (image v b) 0 x t))) in
      (k, and_left (mat v 0 k) (mat b k x) u, and_right (mat v 0 k) (mat b k x) u)

-- what is in a is in b
module _ (a b : ℕ) where
  all_in : T (included a b) → (i : ℕ) → T (bit a i) → T (bit b i)
  unfolding included
  all_in t i s =
      subst T (sym (bit_or_lem a b i) ∙ ap (λ n. bit n i) (eqb→eq (bit_or a b) b t)) (or_left (bit a i) (bit b i) s)

  in_all : ((i : ℕ) → T (bit a i) → T (bit b i)) → T (included a b)
  unfolding included
  in_all k = rw (eq-eqb (bit_or a b) b (same_bits (bit_or a b) b (λ i. bit_or_lem a b i ∙ go i (bit a i) refl))) tt
    where
      go : (i : ℕ) (c : Bool) → bit a i ≡ c → c || bit b i ≡ bit b i
      go i true e = same_truth true (bit b i) (λ _. k i (rw e tt)) (λ _. tt)
      go i false e = refl

  pub entry_in : T (included a b) → (q x : ℕ) → T (mat a q x) → T (mat b q x)
  entry_in t q x s = mat_of b q x (row_in a q x s) (column_in a q x s) (all_in t (q * 8 + x) (entry_of a q x s))

  pub in_entries : a < 2 ^ 64 → ((q x : ℕ) → T (mat a q x) → T (mat b q x)) → T (included a b)
  in_entries h k = in_all λ i t. go i t (dec_lt i 64)
    where
      go : (i : ℕ) → T (bit a i) → Dec (i < 64) → T (bit b i)
      go i t (yes l) =
          let q : i / 8 < 8 = (div-lt_iff_lt-mul {k = 8} {y = 8} (lit< tt)).1 l in
          let x : i % 8 < 8 = mod-lt i {m = 8} (lit< tt) in
          subst (λ n. T (bit b n)) (div-add-mod' i 8)
          (entry_of b (i / 8) (i % 8) (k (i / 8) (i % 8) (mat_of a (i / 8) (i % 8) q x (subst⁻¹ (λ n. T (bit a n)) (div-add-mod' i 8) t))))
      go i t (no l) = absurd (subst T (bit_past a 64 i h (omega arith)) t)

  -- of a set of states
  pub in_row : a < 2 ^ 8 → ((x : ℕ) → T (mat a 0 x) → T (mat b 0 x)) → T (included a b)
  in_row h k = in_all λ i t. go i t (dec_lt i 8)
    where
      go : (i : ℕ) → T (bit a i) → Dec (i < 8) → T (bit b i)
      go i t (yes l) = subst (λ n. T (bit b n)) (zero-add i) (entry_of b 0 i (k i (mat_of a 0 i (lit< tt) l (subst⁻¹ (λ n. T (bit a n)) (zero-add i) t))))
      go i t (no l) = absurd (subst T (bit_past a 8 i h (omega arith)) t)
