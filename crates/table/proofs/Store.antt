-- A rank that is put into a cell is put into the table, and nothing else of the arrays changes. Assumes nothing.
use mathlib.Core.Bool.{Bool, true, false, cond, ◌&&◌}
use mathlib.Core.List.{List}
use mathlib.Core.Path.{◌≡◌, refl, sym, ap, ◌∙◌, subst, fun_ext}
use Prim.Native.Nat.{ℕ, ◌+◌, ◌*◌, ◌<◌, ◌≤◌, ◌/◌, ◌%◌}
use native.Mathlib.Nat.{lt_of_lt_of_le}
use lib.Arith.{digits_lt, digits_div, digits_mod}
use lib.Dec.{T, ltb, ltb→lt}
use borrow.Author.Tests.{lt-ltb}
use lib.ListN.{length, get_or, set, length-set, drop}
use lib.Seq.{get_or-set_same, get_or-set_other, drop-set-lt}
use Rattle.product.specs.Facts.{Fact, head, triple, same}
use Rattle.product.proofs.Lists.{and_left, and_right}
use Rattle.product.proofs.Rounds.{same_eq, same_refl}
use Rattle.table.specs.Cells.{head_cell, triple_cell, view, put_head, put_triple, store}
use Rattle.table.proofs.Cells.{head_inside, triple_inside}

-- two cells of a row of c, and two places of it
pub digits_row : {q q' c r r' : ℕ} → r < c → r' < c → q * c + r ≡ q' * c + r' → q ≡ q'
digits_row {q} {q'} {c} h h' e = sym (digits_div q h) ∙ ap (λ n. n / c) e ∙ digits_div q' h'

pub digits_place : (q q' : ℕ) {c r r' : ℕ} → r < c → r' < c → q * c + r ≡ q' * c + r' → r ≡ r'
digits_place q q' {c} h h' e = sym (digits_mod q h) ∙ ap (λ n. n % c) e ∙ digits_mod q' h'

module _ (G Q : ℕ) (hs ts : List ℕ) (long : Q * G * Q ≤ length ts) where
  set_triple : (q g e k : ℕ) → q < Q → g < G → e < Q
      → view G Q hs (set ts ((q * G + g) * Q + e) k) ≡ store (view G Q hs ts) (triple q g e) k
  set_triple q g e k i j l = fun_ext at
    where
      cell : ℕ
      cell = (q * G + g) * Q + e

      inside : cell < length ts
      inside = lt_of_lt_of_le (digits_lt (digits_lt i j) l) long

      at : (f : Fact) → view G Q hs (set ts ((q * G + g) * Q + e) k) f ≡ store (view G Q hs ts) (triple q g e) k f
      at (head q' g') = refl
      at (triple q' g' e') = go (same (triple q g e) (triple q' g' e')) refl
        where
          -- the cell itself
          here : view G Q hs (set ts ((q * G + g) * Q + e) k) (triple q g e) ≡ k
          here = rw (lt-ltb q Q i, lt-ltb g G j, lt-ltb e Q l) (get_or-set_same ts ((q * G + g) * Q + e) k 0 inside)

          -- another
          there : (b : Bool) → (T b → (q' < Q) × (g' < G) × (e' < Q)) → same (triple q g e) (triple q' g' e') ≡ false
              → cond b (get_or (set ts ((q * G + g) * Q + e) k) ((q' * G + g') * Q + e') 0) 65535 ≡ cond b (get_or ts ((q' * G + g') * Q + e') 0) 65535
          there false h x = refl
          there true h x =
              let (i', j', l') = h tt in
              get_or-set_other ts ((q * G + g) * Q + e) ((q' * G + g') * Q + e') k 0 λ y.
              let z : q' * G + g' ≡ q * G + g = digits_row l' l y in
              let u : q' ≡ q = digits_row j' j z in
              let v : g' ≡ g = digits_place q' q j' j z in
              let w : e' ≡ e = digits_place (q' * G + g') (q * G + g) l' l y in
              let f : triple q' g' e' ≡ triple q g e = cc in
              subst T x (subst (λ d. T (same (triple q g e) d)) (sym f) (same_refl (triple q g e)))

          go : (b : Bool) → same (triple q g e) (triple q' g' e') ≡ b
              → view G Q hs (set ts ((q * G + g) * Q + e) k) (triple q' g' e') ≡ cond b k (view G Q hs ts (triple q' g' e'))
          go true x = subst (λ d. view G Q hs (set ts ((q * G + g) * Q + e) k) d ≡ k) (same_eq (triple q g e) (triple q' g' e') (rw x tt)) here
          go false x = there (ltb q' Q && ltb g' G && ltb e' Q)
              (λ t. (
                ltb→lt q' Q (and_left (ltb q' Q) (ltb g' G) (and_left (ltb q' Q && ltb g' G) (ltb e' Q) t)),
                ltb→lt g' G (and_right (ltb q' Q) (ltb g' G) (and_left (ltb q' Q && ltb g' G) (ltb e' Q) t)),
                ltb→lt e' Q (and_right (ltb q' Q && ltb g' G) (ltb e' Q) t),
              )) x

module _ (G Q : ℕ) (hs ts : List ℕ) (long : Q * G ≤ length hs) where
  set_head : (q g k : ℕ) → q < Q → g < G → view G Q (set hs (q * G + g) k) ts ≡ store (view G Q hs ts) (head q g) k
  set_head q g k i j = fun_ext at
    where
      at : (f : Fact) → view G Q (set hs (q * G + g) k) ts f ≡ store (view G Q hs ts) (head q g) k f
      at (triple q' g' e') = refl
      at (head q' g') = go (same (head q g) (head q' g')) refl
        where
          here : view G Q (set hs (q * G + g) k) ts (head q g) ≡ k
          here = rw (lt-ltb q Q i, lt-ltb g G j) (get_or-set_same hs (q * G + g) k 0 (lt_of_lt_of_le (digits_lt i j) long))

          there : (b : Bool) → (T b → (q' < Q) × (g' < G)) → same (head q g) (head q' g') ≡ false
              → cond b (get_or (set hs (q * G + g) k) (q' * G + g') 0) 65535 ≡ cond b (get_or hs (q' * G + g') 0) 65535
          there false h x = refl
          there true h x =
              let (i', j') = h tt in
              get_or-set_other hs (q * G + g) (q' * G + g') k 0 λ y.
              let u : q' ≡ q = digits_row j' j y in
              let v : g' ≡ g = digits_place q' q j' j y in
              let f : head q' g' ≡ head q g = cc in
              subst T x (subst (λ d. T (same (head q g) d)) (sym f) (same_refl (head q g)))

          go : (b : Bool) → same (head q g) (head q' g') ≡ b → view G Q (set hs (q * G + g) k) ts (head q' g') ≡ cond b k (view G Q hs ts (head q' g'))
          go true x = subst (λ d. view G Q (set hs (q * G + g) k) ts d ≡ k) (same_eq (head q g) (head q' g') (rw x tt)) here
          go false x = there (ltb q' Q && ltb g' G) (λ t. (ltb→lt q' Q (and_left (ltb q' Q) (ltb g' G) t), ltb→lt g' G (and_right (ltb q' Q) (ltb g' G) t))) x

module _ {G Q q g : ℕ} (i : q < Q) (j : g < G) (n : ℕ) (hs : List ℕ) where
  pub store_head : (ts : List ℕ) → Q * G ≤ length hs → view G Q (put_head G Q hs q g n) ts ≡ store (view G Q hs ts) (head q g) n
  store_head ts long = rw (head_inside i j) (set_head G Q hs ts long q g n i j)

  pub past_head : drop (Q * G) (put_head G Q hs q g n) ≡ drop (Q * G) hs
  past_head = rw (head_inside i j) (drop-set-lt (Q * G) hs (head_cell G q g) n (digits_lt i j))

  pub length_head : length (put_head G Q hs q g n) ≡ length hs
  length_head = rw (head_inside i j) (length-set hs (head_cell G q g) n)

module _ {G Q q g e : ℕ} (i : q < Q) (j : g < G) (k : e < Q) (n : ℕ) (ts : List ℕ) where
  pub store_triple : (hs : List ℕ) → Q * G * Q ≤ length ts → view G Q hs (put_triple G Q ts q g e n) ≡ store (view G Q hs ts) (triple q g e) n
  store_triple hs long = rw (triple_inside i j k) (set_triple G Q hs ts long q g e n i j k)

  pub past_triple : drop (Q * G * Q) (put_triple G Q ts q g e n) ≡ drop (Q * G * Q) ts
  past_triple = rw (triple_inside i j k) (drop-set-lt (Q * G * Q) ts (triple_cell G Q q g e) n (digits_lt (digits_lt i j) k))

  pub length_triple : length (put_triple G Q ts q g e n) ≡ length ts
  length_triple = rw (triple_inside i j k) (length-set ts (triple_cell G Q q g e) n)
