-- One bit of a matrix stamped, and then the rest. Assumes nothing.
use mathlib.Core.Bool.{Bool, true, false, cond, ◌&&◌, and-true}
use mathlib.Core.List.{List, []}
use mathlib.Core.Path.{◌≡◌, refl, sym, ap, ap₂, ◌∙◌, subst, subst⁻¹, fun_ext}
use Prim.Native.Nat.{ℕ, ◌+◌, ◌*◌, ◌/◌, ◌%◌, ◌^◌, ◌<◌, ◌≤◌}
use native.Mathlib.Nat.{div-add-mod', mod-lt, zero-lt-suc, zero-add, div-lt_iff_lt-mul, mul_comm, mul_assoc, add-mul}
use native.Mathlib.Omega.{arith}
use native.Mathlib.Decide.{ℕ_discrete, dec_lt}
use lib.Arith.{digits_lt, digits_div, digits_mod}
use lib.Dec.{T, eqb, ltb}
use borrow.Author.Tests.{eqb-true, eqb-false, eq-eqb, ne_eqb, ltb-true, ltb-false, lt-ltb}
use lib.ListN.{length, drop, set}
use Rattle.product.specs.Facts.{Fact, head, triple}
use Rattle.product.specs.Table.{Table}
use Rattle.table.specs.declared.Size.{Size}
use Rattle.table.specs.Cells.{store, triple_cell, put_head, put_triple}
use Rattle.table.proofs.Cells.{triple_inside}
use Rattle.table.proofs.Store.{store_head, past_head, length_head, store_triple, past_triple, length_triple}
use Rattle.product.proofs.Lists.{T_true}
use Rattle.bits.specs.Bit.{bit}
use Rattle.bits.proofs.Bit.{bit_zero, bit_past}
use Rattle.bits.specs.Matrix.{entry, mat}
use Rattle.bits.specs.Ones.{Lowest}
use Rattle.bits.proofs.Some.{bit_taken, bits_left, left_in}
use Rattle.decide.specs.Stamp.{Sort, of_heads, of_triples, view_of, cells_of, Became, alone, named, ranked, Stamps}

-- the triples of symbol g that stand in the matrix d, and the heads that stand in the row d
abbrev stamped : (k g d : ℕ) → Table → Table
stamped k g d t (head q g') = t (head q g')
stamped k g d t (triple q g' e) = cond (eqb g' g && ltb e 8 && entry d q e) k (t (triple q g' e))

abbrev stamped_heads : (k g d : ℕ) → Table → Table
stamped_heads k g d t (head q g') = cond (eqb g' g && bit d q) k (t (head q g'))
stamped_heads k g d t (triple q g' e) = t (triple q g' e)

by : {A : Type 0} (b : Bool) → (b ≡ true → A) → (b ≡ false → A) → A
by true f g = f refl
by false f g = g refl

and_right_false : (a : Bool) → a && false ≡ false
and_right_false true = refl
and_right_false false = refl

eight : 0 < 8
eight = zero-lt-suc 7

module _ (k g : ℕ) {d low d' : ℕ} (taken : Lowest d low d') (t : Table) where
  there : bit d low ≡ true
  there = T_true (bit d low) (bit_taken taken)

  -- what the store and the rest give a triple of g
  cell : (q e x : ℕ) → e < 8
      → cond (entry d q e) k x ≡ cond (entry d' q e) k (cond (eqb (low / 8) q && eqb (low % 8) e) k x)
  cell q e x he =
      rw (bits_left taken (q * 8 + e))
      (by (eqb (q * 8 + e) low)
      (λ y.
      let z : q * 8 + e ≡ low = eqb-true (q * 8 + e) low y in
      let a : low / 8 ≡ q = ap (λ n. n / 8) (sym z) ∙ digits_div q he in
      let b : low % 8 ≡ e = ap (λ n. n % 8) (sym z) ∙ digits_mod q he in
      let s : bit d (q * 8 + e) ≡ true = ap (bit d) z ∙ there in
      rw (y, s, eq-eqb (low / 8) q a, eq-eqb (low % 8) e b))
      (λ y.
      let n : (q * 8 + e ≡ low) → ⊥ = eqb-false (q * 8 + e) low y in
      rw (y, other q e x he n) (go (bit d (q * 8 + e)) x)))
    where
      other : (q e x : ℕ) → e < 8 → ((q * 8 + e ≡ low) → ⊥) → (eqb (low / 8) q && eqb (low % 8) e) ≡ false
      other q e x he n =
          by (eqb (low / 8) q)
          (λ u. rw u (ne_eqb (low % 8) e (λ v. n (ap₂ (λ a b. a * 8 + b) (sym (eqb-true (low / 8) q u)) (sym v) ∙ div-add-mod' low 8))))
          (λ u. rw u)

      go : (b : Bool) (x : ℕ) → cond b k x ≡ cond (b && true) k x
      go true x = refl
      go false x = refl

  stamp_step : stamped k g d t ≡ stamped k g d' (store t (triple (low / 8) g (low % 8)) k)
  stamp_step = fun_ext at
    where
      at : (f : Fact) → stamped k g d t f ≡ stamped k g d' (store t (triple (low / 8) g (low % 8)) k) f
      at (head q g') = refl
      at (triple q g' e) =
          by (eqb g' g)
          (λ u. by (ltb e 8)
          (λ v. rw (u, v, eq-eqb g g' (sym (eqb-true g' g u)), and-true (eqb (low / 8) q)) (cell q e (t (triple q g' e)) (ltb-true e 8 v)))
          (λ v. rw (u, v, ne_eqb (low % 8) e (λ x. omega (arith, ltb-false e 8 v, mod-lt low eight)), and_right_false (eqb (low / 8) q && eqb g g'))))
          (λ u. rw (u, ne_eqb g g' (λ x. eqb-false g' g u (sym x)), and_right_false (eqb (low / 8) q)))

  -- a head
  head_cell_lem : (q x : ℕ) → cond (bit d q) k x ≡ cond (bit d' q) k (cond (eqb low q) k x)
  head_cell_lem q x =
      rw (bits_left taken q)
      (by (eqb q low)
      (λ y.
      let z : q ≡ low = eqb-true q low y in
      let s : bit d q ≡ true = ap (bit d) z ∙ there in
      rw (y, s, eq-eqb low q (sym z)))
      (λ y. rw (y, ne_eqb low q (λ z. eqb-false q low y (sym z))) (go (bit d q))))
    where
      go : (b : Bool) → cond b k x ≡ cond (b && true) k x
      go true = refl
      go false = refl

  heads_step : stamped_heads k g d t ≡ stamped_heads k g d' (store t (head low g) k)
  heads_step = fun_ext at
    where
      at : (f : Fact) → stamped_heads k g d t f ≡ stamped_heads k g d' (store t (head low g) k) f
      at (triple q g' e) = refl
      at (head q g') =
          by (eqb g' g)
          (λ u. rw (u, eq-eqb g g' (sym (eqb-true g' g u)), and-true (eqb low q)) (head_cell_lem q (t (head q g'))))
          (λ u. rw (u, ne_eqb g g' (λ x. eqb-false g' g u (sym x)), and_right_false (eqb low q)))

heads_none : (k g : ℕ) (t : Table) → stamped_heads k g 0 t ≡ t
heads_none k g t = fun_ext at
  where
    at : (f : Fact) → stamped_heads k g 0 t f ≡ t f
    at (head q g') = rw (bit_zero q, and_right_false (eqb g' g))
    at (triple q g' e) = refl

stamp_none : (k g : ℕ) (t : Table) → stamped k g 0 t ≡ t
stamp_none k g t = fun_ext at
  where
    at : (f : Fact) → stamped k g 0 t f ≡ t f
    at (head q g') = refl
    at (triple q g' e) = rw (bit_zero (q * 8 + e), and_right_false (eqb g' g && ltb e 8))

-- no bit past the word
abbrev pub Word : ℕ → Type 0
Word d = (i : ℕ) → T (bit d i) → i < 64

pub word : (d : ℕ) → d < 2 ^ 64 → Word d
word d small i t = go (dec_lt i 64)
  where
    go : Dec (i < 64) → i < 64
    go (yes l) = l
    go (no l) = absurd (subst T (bit_past d 64 i small (omega arith)) t)

past : (d : ℕ) → Word d → (i : ℕ) → 64 ≤ i → bit d i ≡ false
past d k i l = go (bit d i) refl
  where
    go : (b : Bool) → bit d i ≡ b → b ≡ false
    go false x = refl
    go true x = let j : i < 64 = k i (rw x tt) in absurd (omega arith)

-- a bit of a word as an entry
pub as_entry : (d i : ℕ) → i < 64 → T (bit d i) → T (mat d (i / 8) (i % 8))
as_entry d i l t =
    rw (lt-ltb (i / 8) 8 ((div-lt_iff_lt-mul eight).1 (omega arith)), lt-ltb (i % 8) 8 (mod-lt i eight))
    (subst⁻¹ (λ j. T (bit d j)) (div-add-mod' i 8) t)

eqb_flip : (g g' : ℕ) → eqb g' g ≡ eqb g g'
eqb_flip g g' = go (ℕ_discrete g g')
  where
    go : Dec (g ≡ g') → eqb g' g ≡ eqb g g'
    go (yes x) = eq-eqb g' g (sym x) ∙ sym (eq-eqb g g' x)
    go (no x) = ne_eqb g' g (λ y. x (sym y)) ∙ sym (ne_eqb g g' x)

stamped_is : (k g d : ℕ) → Word d → (t : Table) → stamped k g d t ≡ ranked k (named of_triples (alone g d)) t
stamped_is k g d small t = fun_ext at
  where
    off : (a b : Bool) → a && b && false ≡ a && false
    off true true = refl
    off true false = refl
    off false b = refl

    assoc : (a b c : Bool) → a && b && c ≡ a && (b && c)
    assoc true b c = refl
    assoc false b c = refl

    same : (q g' x : ℕ) (b : Bool) → ltb q 8 ≡ b → eqb g g' && ltb x 8 && entry d q x ≡ eqb g g' && (b && ltb x 8 && entry d q x)
    same q g' x true y = assoc (eqb g g') (ltb x 8) (entry d q x)
    same q g' x false y =
        ap (λ c. eqb g g' && ltb x 8 && c) (past d small (q * 8 + x) (omega (arith, ltb-false q 8 y))) ∙ off (eqb g g') (ltb x 8)

    at : (f : Fact) → stamped k g d t f ≡ ranked k (named of_triples (alone g d)) t f
    at (head q g') = refl
    at (triple q g' x) =
        ap (λ c. cond (c && ltb x 8 && entry d q x) k (t (triple q g' x))) (eqb_flip g g')
        ∙ ap (λ c. cond c k (t (triple q g' x))) (same q g' x (ltb q 8) refl)

heads_are : (k g d : ℕ) → ((i : ℕ) → T (bit d i) → i < 8) → (t : Table) → stamped_heads k g d t ≡ ranked k (named of_heads (alone g d)) t
heads_are k g d small t = fun_ext at
  where
    assoc : (a b : Bool) → (T b → T a) → b ≡ a && b
    assoc true b h = refl
    assoc false true h = absurd (h tt)
    assoc false false h = refl

    at : (f : Fact) → stamped_heads k g d t f ≡ ranked k (named of_heads (alone g d)) t f
    at (triple q g' x) = refl
    at (head q g') =
        ap (λ c. cond (c && bit d q) k (t (head q g'))) (eqb_flip g g')
        ∙ ap (λ c. cond (eqb g g' && c) k (t (head q g')))
        (assoc (ltb q 8) (bit d q) (λ u. subst⁻¹ T (lt-ltb q 8 (small q u)) tt) ∙ ap (λ n. ltb q 8 && bit d n) (sym (zero-add q)))

abbrev stamped_of : Sort → (k g d : ℕ) → Table → Table
stamped_of of_heads = stamped_heads
stamped_of of_triples = stamped

-- what is left to stamp, with the table as it is, makes what was asked
pub record Left (s : Sort) (z : Size) (k g b : ℕ) (xs₀ : List ℕ) (d : ℕ) (xs : List ℕ) : Type 0 where
  pub part : (i : ℕ) → T (bit d i) → T (bit b i)
  pub is : stamped_of s k g d (view_of s z xs) ≡ stamped_of s k g b (view_of s z xs₀)
  pub as_long : length xs ≡ length xs₀
  pub past : drop (cells_of s z) xs ≡ drop (cells_of s z) xs₀

pub left_first : (s : Sort) (z : Size) (k g b : ℕ) (xs₀ : List ℕ) → {d : ℕ} → d ≡ b → Left s z k g b xs₀ d xs₀
left_first s z k g b xs₀ e = rw e (record { part = λ i t. t; is = refl; as_long = refl; past = refl })

module _ (z : Size) (k g b : ℕ) (xs₀ : List ℕ) where
  module _ (h : Stamps of_triples z g b xs₀) where
    -- the next cell, counted from the first of the symbol
    module _ {first row : ℕ} (first-is : first ≡ g * z.states) (row_is : row ≡ z.states * z.symbols) {d i d' : ℕ} (xs : List ℕ) (t : Lowest d i d') (l : Left of_triples z k g b xs₀ d xs) where
      inside : (i / 8 < z.states) × (i % 8 < z.states)
      inside = h.inside i (l.part i (bit_taken t))

      long : z.states * z.symbols * z.states ≤ length xs
      long = omega (arith, h.long, l.as_long)

      cell_is : first + i / 8 * row + i % 8 ≡ triple_cell z.symbols z.states (i / 8) g (i % 8)
      cell_is = omega (arith, first-is, ap (λ r. i / 8 * r) (row_is ∙ mul_comm z.states z.symbols), mul_assoc (i / 8) z.symbols z.states, add-mul (i / 8 * z.symbols) g z.states)

      pub cell_in : first + i / 8 * row + i % 8 < length xs
      cell_in = omega (arith, cell_is, digits_lt (digits_lt inside.0 h.symbol) inside.1, long)

      put_is : set xs (first + i / 8 * row + i % 8) k ≡ put_triple z.symbols z.states xs (i / 8) g (i % 8) k
      put_is = rw (triple_inside inside.0 h.symbol inside.1) (ap (λ n. set xs n k) cell_is)

      pub triples_next : Left of_triples z k g b xs₀ d' (set xs (first + i / 8 * row + i % 8) k)
      triples_next =
          let (u, v) = inside in
          subst⁻¹ (Left of_triples z k g b xs₀ d') put_is
          record {
            part = λ j w. l.part j (left_in t j w);
            is = ap (stamped k g d') (store_triple u h.symbol v k xs [] long) ∙ sym (stamp_step k g t (view_of of_triples z xs)) ∙ l.is;
            as_long = length_triple u h.symbol v k xs ∙ l.as_long;
            past = past_triple u h.symbol v k xs ∙ l.past;
          }

    pub triples_last : b < 2 ^ 64 → (d : ℕ) (xs : List ℕ) → d ≡ 0 → Left of_triples z k g b xs₀ d xs
        → Became of_triples z xs₀ (ranked k (named of_triples (alone g b)) (view_of of_triples z xs₀)) xs
    triples_last s d xs e l = record {
      is = sym (stamp_none k g (view_of of_triples z xs)) ∙ ap (λ n. stamped k g n (view_of of_triples z xs)) (sym e) ∙ l.is ∙ stamped_is k g b (word b s) (view_of of_triples z xs₀);
      as_long = l.as_long;
      past = l.past;
    }

  module _ (h : Stamps of_heads z g b xs₀) where
    pub heads_next : {d i d' : ℕ} (xs xs' : List ℕ) → Lowest d i d' → Left of_heads z k g b xs₀ d xs → xs' ≡ put_head z.symbols z.states xs i g k
        → Left of_heads z k g b xs₀ d' xs'
    heads_next {d} {i} {d'} xs xs' t l w =
        let (_, u) = h.inside i (l.part i (bit_taken t)) in
        let long : z.states * z.symbols ≤ length xs = omega (arith, h.long, l.as_long) in
        subst⁻¹ (Left of_heads z k g b xs₀ d') w
        record {
          part = λ j w. l.part j (left_in t j w);
          is = ap (stamped_heads k g d') (store_head u h.symbol k xs [] long) ∙ sym (heads_step k g t (view_of of_heads z xs)) ∙ l.is;
          as_long = length_head u h.symbol k xs ∙ l.as_long;
          past = past_head u h.symbol k xs ∙ l.past;
        }

    pub heads_last : (d : ℕ) (xs : List ℕ) → d ≡ 0 → Left of_heads z k g b xs₀ d xs
        → Became of_heads z xs₀ (ranked k (named of_heads (alone g b)) (view_of of_heads z xs₀)) xs
    heads_last d xs e l = record {
      is = sym (heads_none k g (view_of of_heads z xs)) ∙ ap (λ n. stamped_heads k g n (view_of of_heads z xs)) (sym e) ∙ l.is
          ∙ heads_are k g b (λ i t. (h.inside i t).0) (view_of of_heads z xs₀);
      as_long = l.as_long;
      past = l.past;
    }
