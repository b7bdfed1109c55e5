-- The place of a fact, from what was tested and told; and what is read and put there. Assumes nothing.
use mathlib.Core.Bool.{Bool, true, false, cond, ◌&&◌}
use mathlib.Core.List.{List}
use mathlib.Core.Path.{◌≡◌, refl, sym, ap, ◌∙◌}
use Prim.Native.Nat.{ℕ, ◌+◌, ◌*◌, ◌<◌, ◌≤◌}
use native.Mathlib.Omega.{arith}
use lib.Dec.{ltb, ltb→lt}
use lib.ListN.{length, get_or, set, get_or-eq_default}
use lib.Seq.{set_out}
use borrow.Author.Tests.{lt-ltb, le-ltb}
use Rattle.product.specs.Facts as product
use Rattle.product.specs.Facts.{head, triple}
use Rattle.product.specs.Table.{absent}
use Rattle.product.proofs.Lists.{and_left, and_right}
use Rattle.table.specs.declared.Fact.{Fact}
use Rattle.std.specs.Prelude.{Option, Some, None, is_some}
use Rattle.table.specs.Cells.{head_cell, view}
use Rattle.table.specs.Places.{fact_of, as_fact, place, inside, cell_of, place_of, read_at, put_at, put_in}
use Rattle.table.proofs.Bytes.{cell_small}

-- the place r that was told
told_inside : (b : Bool) (k : ℕ) {r : Option ℕ} {i : ℕ} → r ≡ place b k → r ≡ Some i → (b ≡ true) × (i ≡ k)
told_inside true k {i = i} e h = (refl, cc)
told_inside false k e h = absurd cc

told_outside : (b : Bool) (k : ℕ) {r : Option ℕ} → r ≡ place b k → r ≡ None → b ≡ false
told_outside true k e h = cc
told_outside false k e h = refl

-- a head's, by the tests
module _ (G Q q g : ℕ) where
  pub head_state : Q ≤ q → None ≡ place_of G Q (head q g)
  head_state l = rw (le-ltb q Q l)

  pub head_symbol : q < Q → G ≤ g → None ≡ place_of G Q (head q g)
  head_symbol i l = rw (lt-ltb q Q i, le-ltb g G l)

  pub head_cell_lem : q < Q → g < G → Some (q * G + g) ≡ place_of G Q (head q g)
  head_cell_lem i j = rw (lt-ltb q Q i, lt-ltb g G j)

  -- and a triple's, by the place of its row
  module _ {r : Option ℕ} (row : r ≡ place_of G Q (head q g)) (e : ℕ) where
    pub triple_row : r ≡ None → None ≡ place_of G Q (triple q g e)
    triple_row h = rw (told_outside (ltb q Q && ltb g G) (head_cell G q g) row h)

    module _ {i : ℕ} (h : r ≡ Some i) where
      is_inside : (ltb q Q && ltb g G) ≡ true
      is_inside = (told_inside (ltb q Q && ltb g G) (head_cell G q g) row h).0

      cell_is : i ≡ head_cell G q g
      cell_is = (told_inside (ltb q Q && ltb g G) (head_cell G q g) row h).1

      pub triple_end : Q ≤ e → None ≡ place_of G Q (triple q g e)
      triple_end l = rw (is_inside, le-ltb e Q l)

      pub triple_cell : e < Q → Some (i * Q + e) ≡ place_of G Q (triple q g e)
      triple_cell l = rw (is_inside, lt-ltb e Q l, ← cell_is)

      -- its number does not wrap
      pub triple_small : G < 256 → Q < 256 → e < Q → i * Q + e ≤ 65280 * 255 + 255
      triple_small k l m =
          let a : q < Q = ltb→lt q Q (and_left (ltb q Q) (ltb g G) (rw is_inside tt)) in
          let b : g < G = ltb→lt g G (and_right (ltb q Q) (ltb g G) (rw is_inside tt)) in
          let few : i ≤ 65280 = omega (arith, cell_is, cell_small {a = q} {b = G} {c = g} 255 (omega arith) k (omega arith)) in
          cell_small {a = i} {b = Q} {c = e} 65280 few l (omega arith)

-- what is read
pub read_nowhere : (xs : List ℕ) {r : Option ℕ} → r ≡ None → absent ≡ read_at xs r
read_nowhere xs h = rw h

module _ (xs : List ℕ) {r : Option ℕ} {i : ℕ} (h : r ≡ Some i) where
  pub read_past : length xs ≤ i → 0 ≡ read_at xs r
  read_past l = rw h (sym (get_or-eq_default xs 0 l))

  pub read_cell : get_or xs i 0 ≡ read_at xs r
  read_cell = rw h

  -- and put
  pub put_past : (n : ℕ) → length xs ≤ i → xs ≡ put_at xs r n
  put_past n l = rw h (sym (set_out xs i n l))

  pub put_cell : (n : ℕ) → set xs i n ≡ put_at xs r n
  put_cell n = rw h

pub put_nowhere : (xs : List ℕ) {r : Option ℕ} (n : ℕ) → r ≡ None → xs ≡ put_at xs r n
put_nowhere xs n h = rw h

-- at the place r of a fact, as the definitions have it
module _ (G Q : ℕ) (xs : List ℕ) where
  reads : (b : Bool) (k : ℕ) → read_at xs (place b k) ≡ cond b (get_or xs k 0) absent
  reads true k = refl
  reads false k = refl

  puts : (b : Bool) (k n : ℕ) → put_at xs (place b k) n ≡ cond b (set xs k n) xs
  puts true k n = refl
  puts false k n = refl

  pub fact_read : (f : product.Fact) {r : Option ℕ} → r ≡ place_of G Q f → {n : ℕ} → n ≡ read_at xs r → n ≡ view G Q xs xs f
  fact_read (head q g) at e = e ∙ ap (read_at xs) at ∙ reads (inside G Q (head q g)) (cell_of G Q (head q g))
  fact_read (triple q g x) at e = e ∙ ap (read_at xs) at ∙ reads (inside G Q (triple q g x)) (cell_of G Q (triple q g x))

  pub fact_put : (f : product.Fact) {r : Option ℕ} → r ≡ place_of G Q f → (n : ℕ) {ys : List ℕ} → ys ≡ put_at xs r n → ys ≡ put_in G Q xs f n
  fact_put (head q g) at n e = e ∙ ap (λ r. put_at xs r n) at ∙ puts (inside G Q (head q g)) (cell_of G Q (head q g)) n
  fact_put (triple q g x) at n e = e ∙ ap (λ r. put_at xs r n) at ∙ puts (inside G Q (triple q g x)) (cell_of G Q (triple q g x)) n

-- a fact that is in range has a place
pub has_place : (G Q : ℕ) (f : product.Fact) {r : Option ℕ} → r ≡ place_of G Q f → inside G Q f ≡ is_some r
has_place G Q f at = go (inside G Q f) ∙ ap is_some (sym at)
  where
    go : (b : Bool) → b ≡ is_some (place b (cell_of G Q f))
    go true = refl
    go false = refl

-- the theory's fact in the code and back
pub fact_back : (f : product.Fact) → fact_of (as_fact f) ≡ f
fact_back (head q g) = refl
fact_back (triple q g e) = refl
