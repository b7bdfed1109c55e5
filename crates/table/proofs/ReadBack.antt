-- A table that was laid out: how long its two arrays are, and that it is read back cell by cell. Assumes nothing.
use mathlib.Core.Bool.{Bool, true, false, cond, ◌&&◌}
use mathlib.Core.List.{List, [], ◌∷◌, ◌++◌, append_assoc, append-nil}
use mathlib.Core.Path.{◌≡◌, refl, sym, ap, ◌∙◌, fun_ext}
use Prim.Native.Nat.{ℕ, zero, suc, ◌+◌, ◌*◌, ◌<◌}
use native.Mathlib.Decide.{ℕ_discrete}
use native.Mathlib.Nat.{not-suc-le-zero, mul_assoc, add-mul}
use native.Mathlib.Omega.{arith}
use lib.Arith.{digits_lt}
use lib.Dec.{T, ltb, ltb→lt}
use lib.ListN.{length, get_or, get_or-append}
use lib.Seq.{get_or-append-add}
use Rattle.product.specs.Lists.{up_to, over, each}
use Rattle.product.specs.Facts.{Fact, head, triple}
use Rattle.product.specs.Table.{Table, absent}
use Rattle.product.proofs.Lists.{over_suc, length_over, length_each, length_up_to, and_left, and_right}
use Rattle.table.specs.Cells.{head_count, triple_count, view, heads_of, triples_of}

-- place j of part i, of n parts of w elements one after another
part : (f : ℕ → List ℕ) (w : ℕ) → ((i : ℕ) → length (f i) ≡ w) → (n : ℕ) (rest : List ℕ) (i j : ℕ) → i < n → j < w
    → get_or (over (up_to n) f ++ rest) (i * w + j) 0 ≡ get_or (f i) j 0
part f w h zero rest i j l k = absurd (not-suc-le-zero l)
part f w h (suc n) rest i j l k = rw (over_suc n f, append_assoc) (go (part f w h n (f n ++ rest) i j) (ℕ_discrete i n))
  where
    go : (i < n → j < w → get_or (over (up_to n) f ++ (f n ++ rest)) (i * w + j) 0 ≡ get_or (f i) j 0) → Dec (i ≡ n)
        → get_or (over (up_to n) f ++ (f n ++ rest)) (i * w + j) 0 ≡ get_or (f i) j 0
    go ih (no e) = ih (omega arith) k
    go ih (yes e) =
        let a : length (over (up_to n) f) ≡ n * w = length_over w (up_to n) f h ∙ ap (λ n. n * w) (length_up_to n) in
        rw (e, ← a) (get_or-append-add (over (up_to n) f) (f n ++ rest) j 0 ∙ get_or-append (f n) rest 0 j (omega (arith, h n)))

-- an element of a row
place : (f : ℕ → ℕ) (n i : ℕ) → i < n → get_or (each (up_to n) f) i 0 ≡ f i
place f n i l =
    let a : i * 1 + 0 ≡ i = omega arith in
    rw a at (rw append-nil at (part (λ i. f i ∷ []) 1 (λ _. refl) n [] i 0 l (omega arith)))

module _ (G Q : ℕ) (t : Table) where
  row_length : (q : ℕ) → length (each (up_to G) (λ g. t (head q g))) ≡ G
  row_length q = length_each (up_to G) (λ g. t (head q g)) ∙ length_up_to G

  ends_length : (q g : ℕ) → length (each (up_to Q) (λ e. t (triple q g e))) ≡ Q
  ends_length q g = length_each (up_to Q) (λ e. t (triple q g e)) ∙ length_up_to Q

  block_length : (q : ℕ) → length (over (up_to G) (λ g. each (up_to Q) (λ e. t (triple q g e)))) ≡ G * Q
  block_length q = length_over Q (up_to G) (λ g. each (up_to Q) (λ e. t (triple q g e))) (ends_length q) ∙ ap (λ n. n * Q) (length_up_to G)

  -- a cell for each fact
  pub length_heads : length (heads_of G Q t) ≡ head_count G Q
  length_heads = length_over G (up_to Q) (λ q. each (up_to G) (λ g. t (head q g))) row_length ∙ ap (λ n. n * G) (length_up_to Q)

  pub length_triples : length (triples_of G Q t) ≡ triple_count G Q
  length_triples =
      length_over (G * Q) (up_to Q) (λ q. over (up_to G) (λ g. each (up_to Q) (λ e. t (triple q g e)))) block_length
      ∙ ap (λ n. n * (G * Q)) (length_up_to Q) ∙ sym (mul_assoc Q G Q)

  head_laid : (rest : List ℕ) (q g : ℕ) → q < Q → g < G → get_or (heads_of G Q t ++ rest) (q * G + g) 0 ≡ t (head q g)
  head_laid rest q g i j = part (λ q. each (up_to G) (λ g. t (head q g))) G row_length Q rest q g i j ∙ place (λ g. t (head q g)) G g j

  triple_laid : (rest : List ℕ) (q g e : ℕ) → q < Q → g < G → e < Q → get_or (triples_of G Q t ++ rest) ((q * G + g) * Q + e) 0 ≡ t (triple q g e)
  triple_laid rest q g e i j k =
      let a : (q * G + g) * Q + e ≡ q * (G * Q) + (g * Q + e) = omega (arith, mul_assoc q G Q, add-mul (q * G) g Q) in
      rw a (part (λ q. over (up_to G) (λ g. each (up_to Q) (λ e. t (triple q g e)))) (G * Q) block_length Q rest q (g * Q + e) i (digits_lt j k)
      ∙ rw append-nil at (part (λ g. each (up_to Q) (λ e. t (triple q g e))) Q (ends_length q) G [] g e j k)
      ∙ place (λ e. t (triple q g e)) Q e k)

  -- the whole table, if it marks what is out of range as absent
  module _ (heads-out : (q g : ℕ) → (T (ltb q Q && ltb g G) → ⊥) → t (head q g) ≡ absent)
      (triples-out : (q g e : ℕ) → (T (ltb q Q && ltb g G && ltb e Q) → ⊥) → t (triple q g e) ≡ absent) where
    pick : (b : Bool) (x y : ℕ) → (T b → x ≡ y) → ((T b → ⊥) → y ≡ absent) → cond b x absent ≡ y
    pick true x y h k = h tt
    pick false x y h k = sym (k (λ z. z))

    pub read_back : (hs ts : List ℕ) → view G Q (heads_of G Q t ++ hs) (triples_of G Q t ++ ts) ≡ t
    read_back hs ts = fun_ext at
      where
        at : (f : Fact) → view G Q (heads_of G Q t ++ hs) (triples_of G Q t ++ ts) f ≡ t f
        at (head q g) = pick (ltb q Q && ltb g G) _ _
            (λ b. head_laid hs q g (ltb→lt q Q (and_left (ltb q Q) (ltb g G) b)) (ltb→lt g G (and_right (ltb q Q) (ltb g G) b)))
            (heads-out q g)
        at (triple q g e) = pick (ltb q Q && ltb g G && ltb e Q) _ _
            (λ b.
            let w : T (ltb q Q && ltb g G) = and_left (ltb q Q && ltb g G) (ltb e Q) b in
            triple_laid ts q g e (ltb→lt q Q (and_left (ltb q Q) (ltb g G) w)) (ltb→lt g G (and_right (ltb q Q) (ltb g G) w))
            (ltb→lt e Q (and_right (ltb q Q && ltb g G) (ltb e Q) b)))
            (triples-out q g e)
