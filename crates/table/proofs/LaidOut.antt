-- The arrays are their table laid out, with what lies past it; and cleared arrays are the table with nothing present. Assumes nothing.
use mathlib.Core.Bool.{Bool, true, false, cond, ◌&&◌}
use mathlib.Core.List.{List, [], ◌∷◌, ◌++◌}
use mathlib.Core.Path.{◌≡◌, refl, sym, ap, ap₂, ◌∙◌, fun_ext}
use Prim.Native.Nat.{ℕ, zero, suc, ◌+◌, ◌*◌, ◌<◌, ◌≤◌}
use native.Mathlib.Decide.{ℕ_discrete}
use native.Mathlib.Nat.{not-suc-le-zero, mul-le-mul_right, mul_assoc, add-mul}
use native.Mathlib.Omega.{arith}
use lib.Arith.{digits_lt}
use lib.Dec.{T, ltb, ltb→lt}
use lib.ListN.{length, get_or, take, drop, set, take-append-drop}
use lib.Seq.{take-add, drop-drop, drop-cons, drop-set-lt, get_or-set_same, get_or-set_other}
use Rattle.product.specs.Lists.{up_to, over, each}
use Rattle.product.specs.Facts.{Fact, head, triple}
use Rattle.product.specs.Table.{Table, absent}
use Rattle.product.proofs.Lists.{over_suc, and_left, and_right}
use Rattle.table.specs.Cells.{head_cell, triple_cell, view, cleared, heads_of, triples_of}
use Rattle.table.proofs.Cells.{head_inside, triple_inside, length_cleared}

-- n parts of w elements, one after another
blocks : (xs : List ℕ) (f : ℕ → List ℕ) (base w n : ℕ) → ((i : ℕ) → i < n → f i ≡ take w (drop (base + i * w) xs)) → over (up_to n) f ≡ take (n * w) (drop base xs)
blocks xs f base w zero h = let e : 0 * w ≡ 0 = omega arith in rw e
blocks xs f base w (suc n) h =
    let e : suc n * w ≡ n * w + w = omega arith in
    over_suc n f
    ∙ ap₂ ◌++◌ (blocks xs f base w n (λ i l. h i (omega arith))) (h n (omega arith) ∙ ap (take w) (sym (drop-drop (n * w) base xs)))
    ∙ rw e (sym (take-add (n * w) w (drop base xs)))

one : (xs : List ℕ) (k : ℕ) → k < length xs → get_or xs k 0 ∷ [] ≡ take 1 (drop k xs)
one xs k l = rw (drop-cons xs k 0 l)

-- a row of single cells
row : (xs : List ℕ) (f : ℕ → ℕ) (base n : ℕ) → base + n ≤ length xs → ((i : ℕ) → i < n → f i ≡ get_or xs (base + i) 0) → each (up_to n) f ≡ take n (drop base xs)
row xs f base n l h =
    let e : n * 1 ≡ n = omega arith in
    rw e at (blocks xs (λ i. f i ∷ []) base 1 n λ i k.
    let u : i * 1 ≡ i = omega arith in
    ap (λ x. x ∷ []) (h i k) ∙ rw u (one xs (base + i) (omega arith)))

-- a row more of w cells does not pass the last
row_in : (i n w : ℕ) → i < n → i * w + w ≤ n * w
row_in i n w l = omega (arith, mul-le-mul_right w l)

module _ (G Q : ℕ) (t : Table) (hs : List ℕ) (long : Q * G ≤ length hs) (is : (q g : ℕ) → q < Q → g < G → t (head q g) ≡ get_or hs (head_cell G q g) 0) where
  heads_front : heads_of G Q t ≡ take (Q * G) hs
  heads_front = blocks hs (λ q. each (up_to G) (λ g. t (head q g))) 0 G Q λ q i.
      let l : q * G + G ≤ Q * G = row_in q Q G i in
      let e : 0 + q * G ≡ q * G = omega arith in
      rw e (row hs (λ g. t (head q g)) (q * G) G (omega arith) (λ g j. is q g i j))

module _ (G Q : ℕ) (t : Table) (ts : List ℕ) (long : Q * G * Q ≤ length ts)
    (is : (q g e : ℕ) → q < Q → g < G → e < Q → t (triple q g e) ≡ get_or ts (triple_cell G Q q g e) 0) where
  triples_front : triples_of G Q t ≡ take (Q * G * Q) ts
  triples_front =
      let a : Q * (G * Q) ≡ Q * G * Q = sym (mul_assoc Q G Q) in
      rw a at (blocks ts (λ q. over (up_to G) (λ g. each (up_to Q) (λ e. t (triple q g e)))) 0 (G * Q) Q λ q i.
      blocks ts (λ g. each (up_to Q) (λ e. t (triple q g e))) (0 + q * (G * Q)) Q G λ g j.
      let b : 0 + q * (G * Q) + g * Q ≡ (q * G + g) * Q = place q g in
      let l : (q * G + g) * Q + Q ≤ Q * G * Q = row_in (q * G + g) (Q * G) Q (digits_lt i j) in
      rw b (row ts (λ e. t (triple q g e)) ((q * G + g) * Q) Q (omega arith) (λ e k. is q g e i j k)))
    where
      place : (q g : ℕ) → 0 + q * (G * Q) + g * Q ≡ (q * G + g) * Q
      place q g = omega (arith, mul_assoc q G Q, add-mul (q * G) g Q)

-- an array is the front of it that a table lays out, and the rest
pub heads_laid : (G Q : ℕ) (hs ts : List ℕ) (t : Table) → Q * G ≤ length hs → view G Q hs ts ≡ t → hs ≡ heads_of G Q t ++ drop (Q * G) hs
heads_laid G Q hs ts t l e =
    sym (take-append-drop (Q * G) hs)
    ∙ ap (λ xs. xs ++ drop (Q * G) hs) (sym (heads_front G Q t hs l λ q g i j. ap (λ u. u (head q g)) (sym e) ∙ rw (head_inside i j)))

pub triples_laid : (G Q : ℕ) (hs ts : List ℕ) (t : Table) → Q * G * Q ≤ length ts → view G Q hs ts ≡ t → ts ≡ triples_of G Q t ++ drop (Q * G * Q) ts
triples_laid G Q hs ts t l e =
    sym (take-append-drop (Q * G * Q) ts)
    ∙ ap (λ xs. xs ++ drop (Q * G * Q) ts) (sym (triples_front G Q t ts l λ q g f i j k. ap (λ u. u (triple q g f)) (sym e) ∙ rw (triple_inside i j k)))

-- a cleared cell
cleared_cell : (n : ℕ) (xs : List ℕ) (i : ℕ) → i < n → n ≤ length xs → get_or (cleared n xs) i 0 ≡ absent
unfolding cleared
cleared_cell zero xs i l h = absurd (not-suc-le-zero l)
cleared_cell (suc n) xs i l h = go (cleared_cell n xs i) (ℕ_discrete i n)
  where
    go : (i < n → n ≤ length xs → get_or (cleared n xs) i 0 ≡ absent) → Dec (i ≡ n) → get_or (set (cleared n xs) n absent) i 0 ≡ absent
    go ih (yes e) = rw e (get_or-set_same (cleared n xs) n absent 0 (omega (arith, length_cleared n xs)))
    go ih (no e) = get_or-set_other (cleared n xs) n i absent 0 e ∙ ih (omega arith) (omega arith)

pub cleared_view : (G Q : ℕ) (hs ts : List ℕ) → Q * G ≤ length hs → Q * G * Q ≤ length ts → view G Q (cleared (Q * G) hs) (cleared (Q * G * Q) ts) ≡ (λ _. absent)
cleared_view G Q hs ts l k = fun_ext at
  where
    pick : (b : Bool) (n : ℕ) → (T b → n ≡ absent) → cond b n absent ≡ absent
    pick true n h = h tt
    pick false n h = refl

    at : (f : Fact) → view G Q (cleared (Q * G) hs) (cleared (Q * G * Q) ts) f ≡ absent
    at (head q g) = pick (ltb q Q && ltb g G) _ λ t.
        cleared_cell (Q * G) hs (head_cell G q g) (digits_lt (ltb→lt q Q (and_left (ltb q Q) (ltb g G) t)) (ltb→lt g G (and_right (ltb q Q) (ltb g G) t))) l
    at (triple q g e) = pick (ltb q Q && ltb g G && ltb e Q) _ λ t.
        let u : T (ltb q Q && ltb g G) = and_left (ltb q Q && ltb g G) (ltb e Q) t in
        cleared_cell (Q * G * Q) ts (triple_cell G Q q g e)
        (digits_lt (digits_lt (ltb→lt q Q (and_left (ltb q Q) (ltb g G) u)) (ltb→lt g G (and_right (ltb q Q) (ltb g G) u)))
        (ltb→lt e Q (and_right (ltb q Q && ltb g G) (ltb e Q) t))) k

pub cleared_past_end : (n : ℕ) (xs : List ℕ) → drop n (cleared n xs) ≡ drop n xs
unfolding cleared
cleared_past_end n xs = from n n (omega arith)
  where
    from : (n k : ℕ) → n ≤ k → drop k (cleared n xs) ≡ drop k xs
    from zero k l = refl
    from (suc n) k l = drop-set-lt k (cleared n xs) n absent (omega arith) ∙ from n k (omega arith)
