-- The matrices of the facts, cell by cell, row by row and symbol by symbol. Assumes nothing.
use mathlib.Core.Bool.{Bool, true, false, cond, not, ◌&&◌, ◌||◌}
use mathlib.Core.List.{List}
use mathlib.Core.Path.{◌≡◌, refl, sym, ap, ◌∙◌, subst, subst⁻¹, fun_ext}
use Prim.Native.Nat.{ℕ, ◌+◌, ◌-◌, ◌*◌, ◌/◌, ◌%◌, ◌^◌, ◌<◌, ◌≤◌}
use native.Mathlib.Decide.{ℕ_discrete, dec_lt}
use native.Mathlib.Nat.{mod-lt, mul-one, add_comm, le_trans, mul-le-mul_left, mul-le-mul_right}
use native.Mathlib.Numerals.{add-one}
use native.Mathlib.Omega.{arith}
use lib.Arith.{digits_lt, digits_div, digits_mod}
use lib.Bits.{bit_or}
use lib.Dec.{T, eqb, ltb, eqb→eq, ltb→lt, lt→ltb, eqb_refl}
use lib.ListN.{length, get_or, set}
use lib.Pow.{pow_pos}
use lib.Seq.{get_or-set_same, get_or-set_other}
use borrow.Author.Tests.{eq-eqb, ne_eqb, lt-ltb}
use Rattle.product.specs.Table.{absent}
use Rattle.product.proofs.Lists.{and_left, and_right, both, same_truth}
use Rattle.bits.specs.Bit.{bit}
use Rattle.bits.specs.Matrix.{entry, mat, some}
use Rattle.bits.proofs.Bit.{bit_zero, bit_or_lem, bit_past, bit_shl, bit_shl_below}
use Rattle.bits.proofs.Set.{bit_set}
use Rattle.bits.proofs.Some.{some_of, of_some}
use Rattle.table.specs.Cells.{head_count, triple_count, head_cell, triple_cell, head_in, triple_in}
use Rattle.recheck.specs.Rows.{present, InCells}

or_false : (b : Bool) → b ≡ b || false
or_false true = refl
or_false false = refl

or_assoc : (a b c : Bool) → (a || b) || c ≡ a || (b || c)
or_assoc true b c = refl
or_assoc false b c = refl

-- one cell
module _ (m cell k : ℕ) where
  pub cell_absent : cell ≡ absent → (i : ℕ) → bit m i ≡ bit m i || (not (eqb cell absent) && eqb k i)
  cell_absent e i = rw (eq-eqb cell absent e) (or_false (bit m i))

  pub cell_present : (cell ≡ absent → ⊥) → k < 64 → (i : ℕ) → bit (bit_or m ((1 * 2 ^ k) % 2 ^ 64)) i ≡ bit m i || (not (eqb cell absent) && eqb k i)
  cell_present n l i = rw (ne_eqb cell absent n) (bit_set m 64 k i l)

-- a row
module _ (m : ℕ) (cells : List ℕ) (at apart k : ℕ) where
  abbrev pub Rowed : (n r : ℕ) → Type 0
  Rowed n r = (i : ℕ) → bit r i ≡ bit m i || present cells at apart k n i

  pub rowed_none : Rowed 0 m
  unfolding present
  rowed_none i = or_false (bit m i)

  pub rowed_more : (e r r' : ℕ) → Rowed e r → ((i : ℕ) → bit r' i ≡ bit r i || (not (eqb (get_or cells (at + e * apart) 0) absent) && eqb (k + e) i)) → Rowed (e + 1) r'
  unfolding present
  rowed_more e r r' a b i =
      rw add-one (b i ∙ ap (λ z. z || (not (eqb (get_or cells (at + e * apart) 0) absent) && eqb (k + e) i)) (a i)
      ∙ or_assoc (bit m i) (some e (λ e. not (eqb (get_or cells (at + e * apart) 0) absent) && eqb (k + e) i)) (not (eqb (get_or cells (at + e * apart) 0) absent) && eqb (k + e) i))

  pub rowed_all : (n e r : ℕ) → e ≡ n → Rowed e r → Rowed n r
  rowed_all n e r y = subst (λ e. Rowed e r) y

-- a row that begins at bit 0: in an empty word, and then moved up by k
module _ (cells : List ℕ) (at apart n : ℕ) where
  pub rowed_alone : (r : ℕ) → Rowed 0 cells at apart 0 n r → (i : ℕ) → bit r i ≡ present cells at apart 0 n i
  rowed_alone r h i = h i ∙ ap (λ b. b || present cells at apart 0 n i) (bit_zero i)

  abbrev there : ℕ → Bool
  there e = not (eqb (get_or cells (at + e * apart) 0) absent)

  within : (k i : ℕ) → present cells at apart 0 n i ≡ present cells at apart k n (i + k)
  unfolding present
  within k i = ap (some n) (fun_ext (λ e. ap (λ b. there e && b) (go e (ℕ_discrete (0 + e) i))))
    where
      go : (e : ℕ) → Dec (0 + e ≡ i) → eqb (0 + e) i ≡ eqb (k + e) (i + k)
      go e (yes y) = eq-eqb (0 + e) i y ∙ sym (eq-eqb (k + e) (i + k) (omega arith))
      go e (no y) = ne_eqb (0 + e) i y ∙ sym (ne_eqb (k + e) (i + k) (λ z. y (omega arith)))

  outside : (k i : ℕ) → ((e : ℕ) → e < n → k + e ≡ i → ⊥) → false ≡ present cells at apart k n i
  unfolding present
  outside k i none = same_truth false (present cells at apart k n i) (λ t. absurd t) to
    where
      to : T (present cells at apart k n i) → T false
      to t =
          let (e, l, u) = of_some n (λ e. there e && eqb (k + e) i) t in
          none e l (eqb→eq (k + e) i (and_right (there e) (eqb (k + e) i) u))

  row_moved : (k r : ℕ) → k + n ≤ 64 → ((i : ℕ) → bit r i ≡ present cells at apart 0 n i) → (i : ℕ) → bit ((r * 2 ^ k) % 2 ^ 64) i ≡ present cells at apart k n i
  row_moved k r few h i = go (dec_lt i k) (dec_lt i 64)
    where
      go : Dec (i < k) → Dec (i < 64) → bit ((r * 2 ^ k) % 2 ^ 64) i ≡ present cells at apart k n i
      go (yes l) d = bit_shl_below r 64 k i (omega arith) l ∙ outside k i (λ e j y. omega arith)
      go (no l) (yes d) =
          let y : i - k + k ≡ i = omega arith in
          subst (λ i. bit ((r * 2 ^ k) % 2 ^ 64) i ≡ present cells at apart k n i) y
          (bit_shl r 64 k (i - k) (omega arith) ∙ h (i - k) ∙ within k (i - k))
      go (no l) (no d) = bit_past ((r * 2 ^ k) % 2 ^ 64) 64 i (mod-lt (r * 2 ^ k) (pow_pos 64)) (omega arith) ∙ outside k i (λ e j y. omega arith)

  pub rowed_moved : (m k r : ℕ) → k + n ≤ 64 → ((i : ℕ) → bit r i ≡ present cells at apart 0 n i) → Rowed m cells at apart k n (bit_or m ((r * 2 ^ k) % 2 ^ 64))
  rowed_moved m k r few h i = bit_or_lem m ((r * 2 ^ k) % 2 ^ 64) i ∙ ap (λ b. bit m i || b) (row_moved k r few h i)

-- a fact that is present is in range
pub triple_in_lem : (G Q : ℕ) (ts : List ℕ) (q g e : ℕ) → T (not (eqb (triple_in G Q ts q g e) absent)) → (q < Q) × (e < Q)
triple_in_lem G Q ts q g e t = go (ltb q Q) (ltb g G) (ltb e Q) refl refl t
  where
    go : (a b c : Bool) → ltb q Q ≡ a → ltb e Q ≡ c → T (not (eqb (cond (a && b && c) (get_or ts (triple_cell G Q q g e) 0) absent) absent)) → (q < Q) × (e < Q)
    go true true true x y t = (ltb→lt q Q (rw x tt), ltb→lt e Q (rw y tt))
    go false b c x y t = elim t [ ]
    go true false c x y t = elim t [ ]
    go true true false x y t = elim t [ ]

head_in_lem : (G Q : ℕ) (hs : List ℕ) (q g : ℕ) → T (not (eqb (head_in G Q hs q g) absent)) → q < Q
head_in_lem G Q hs q g t = go (ltb q Q) (ltb g G) refl t
  where
    go : (a b : Bool) → ltb q Q ≡ a → T (not (eqb (cond (a && b) (get_or hs (head_cell G q g) 0) absent) absent)) → q < Q
    go true true x t = ltb→lt q Q (rw x tt)
    go false b x t = elim t [ ]
    go true false x t = elim t [ ]

-- where the cells of a table lie: a row of triples, and all heads of a symbol
module _ (G Q : ℕ) (few : Q ≤ 8) (g : ℕ) (l : g < G) where
  pub triples_inside : (cells : ℕ) → triple_count G Q ≤ cells → (q : ℕ) → q < Q → InCells cells ((q * G + g) * Q) 1 (q * 8) Q
  triples_inside cells long q i = record {
    inside = λ e k. omega (arith, mul-one e, digits_lt {q = q * G + g} {m = Q * G} {r = e} {c = Q} (digits_lt i l) k);
    few = omega arith;
  }

  pub heads_inside : (cells : ℕ) → head_count G Q ≤ cells → InCells cells g G 0 Q
  heads_inside cells long = record { inside = λ q i. omega (arith, digits_lt {q = q} {m = Q} {r = g} {c = G} i l); few = omega arith }

-- the number of a row's first cell does not wrap
pub small_place : (G Q q g : ℕ) → G < 256 → Q ≤ 8 → q < Q → g < G → (q * G ≤ 8 * 255) × ((q * G + g) * Q ≤ (8 * 255 + 255) * 8)
small_place G Q q g i j k l =
    let a : q ≤ 8 = omega arith in
    let b : G ≤ 255 = omega arith in
    let d : q * G ≤ 8 * 255 = le_trans (mul-le-mul_right G a) (mul-le-mul_left 8 b) in
    let e : q * G + g ≤ 8 * 255 + 255 = omega arith in
    (d, le_trans (mul-le-mul_right Q e) (mul-le-mul_left (8 * 255 + 255) j))

-- the triples of symbol g are the rows of its states
module _ (G Q : ℕ) (ts : List ℕ) (g : ℕ) where
  abbrev pub Matrixed : (n m : ℕ) → Type 0
  Matrixed n m = (i : ℕ) → bit m i ≡ some n (λ q. present ts ((q * G + g) * Q) 1 (q * 8) Q i)

  pub matrixed_none : Matrixed 0 0
  matrixed_none i = bit_zero i

  pub matrixed_more : (q m m' : ℕ) → Matrixed q m → Rowed m ts ((q * G + g) * Q) 1 (q * 8) Q m' → Matrixed (q + 1) m'
  matrixed_more q m m' a b i = rw add-one (b i ∙ ap (λ z. z || present ts ((q * G + g) * Q) 1 (q * 8) Q i) (a i))

  abbrev cell : (q e : ℕ) → Bool
  cell q e = not (eqb (get_or ts ((q * G + g) * Q + e * 1) 0) absent)

  abbrev row : (i q : ℕ) → Bool
  row i q = some Q (λ e. cell q e && eqb (q * 8 + e) i)

  -- its matrix has the triples that are present
  abbrev pub Triples : (m : ℕ) → Type 0
  Triples m = (q e : ℕ) → mat m q e ≡ not (eqb (triple_in G Q ts q g e) absent)

  cell_is : g < G → (q e : ℕ) → q < Q → e < Q → not (eqb (triple_in G Q ts q g e) absent) ≡ cell q e
  cell_is l q e i j = rw (lt-ltb q Q i, lt-ltb g G l, lt-ltb e Q j, mul-one e)

  pub triples_are : Q ≤ 8 → g < G → (n m : ℕ) → n ≡ Q → Matrixed n m → Triples m
  unfolding present
  triples_are few l n m n-is h q e = same_truth (mat m q e) (not (eqb (triple_in G Q ts q g e) absent)) to from
    where
      to : T (mat m q e) → T (not (eqb (triple_in G Q ts q g e) absent))
      to t =
          let j : e < 8 = ltb→lt e 8 (and_right (ltb q 8) (ltb e 8) (and_left (ltb q 8 && ltb e 8) (entry m q e) t)) in
          let u : T (some Q (row (q * 8 + e))) = subst (λ n. T (some n (row (q * 8 + e)))) n-is (subst T (h (q * 8 + e)) (and_right (ltb q 8 && ltb e 8) (entry m q e) t)) in
          let (q₁, a, v) = of_some Q (row (q * 8 + e)) u in
          let (e₁, b, w) = of_some Q (λ e₁. cell q₁ e₁ && eqb (q₁ * 8 + e₁) (q * 8 + e)) v in
          let y : q₁ * 8 + e₁ ≡ q * 8 + e = eqb→eq (q₁ * 8 + e₁) (q * 8 + e) (and_right (cell q₁ e₁) (eqb (q₁ * 8 + e₁) (q * 8 + e)) w) in
          let k : e₁ < 8 = omega arith in
          let x : q₁ ≡ q = sym (digits_div q₁ k) ∙ ap (λ n. n / 8) y ∙ digits_div q j in
          let z : e₁ ≡ e = sym (digits_mod q₁ k) ∙ ap (λ n. n % 8) y ∙ digits_mod q j in
          subst (λ e. T (not (eqb (triple_in G Q ts q g e) absent))) z
          (subst (λ q. T (not (eqb (triple_in G Q ts q g e₁) absent))) x
          (subst⁻¹ T (cell_is l q₁ e₁ a b) (and_left (cell q₁ e₁) (eqb (q₁ * 8 + e₁) (q * 8 + e)) w)))

      from : T (not (eqb (triple_in G Q ts q g e) absent)) → T (mat m q e)
      from t =
          let (i, j) = triple_in_lem G Q ts q g e t in
          both (ltb q 8 && ltb e 8) (entry m q e) (both (ltb q 8) (ltb e 8) (lt→ltb q 8 (omega arith)) (lt→ltb e 8 (omega arith)))
          (subst⁻¹ T (h (q * 8 + e)) (subst⁻¹ (λ n. T (some n (row (q * 8 + e)))) n-is
          (some_of Q (row (q * 8 + e)) q i
          (some_of Q (λ e₁. cell q e₁ && eqb (q * 8 + e₁) (q * 8 + e)) e j
          (both (cell q e) (eqb (q * 8 + e) (q * 8 + e)) (subst T (cell_is l q e i j) t) (eqb_refl (q * 8 + e)))))))

-- and its heads are one row
module _ (G Q : ℕ) (hs : List ℕ) (g : ℕ) where
  abbrev pub Heads : (m : ℕ) → Type 0
  Heads m = (q : ℕ) → mat m 0 q ≡ not (eqb (head_in G Q hs q g) absent)

  abbrev top : ℕ → Bool
  top q = not (eqb (get_or hs (g + q * G) 0) absent)

  abbrev tops : ℕ → Bool
  tops i = some Q (λ q. top q && eqb (0 + q) i)

  top_is : g < G → (q : ℕ) → q < Q → not (eqb (head_in G Q hs q g) absent) ≡ top q
  top_is l q i = rw (lt-ltb q Q i, lt-ltb g G l, add_comm (q * G) g)

  pub heads_are : Q ≤ 8 → g < G → (m : ℕ) → Rowed 0 hs g G 0 Q m → Heads m
  unfolding present
  heads_are few l m h q = same_truth (mat m 0 q) (not (eqb (head_in G Q hs q g) absent)) to from
    where
      bits : bit m (0 * 8 + q) ≡ tops (0 * 8 + q)
      bits = rowed_alone hs g G Q m h (0 * 8 + q)

      to : T (mat m 0 q) → T (not (eqb (head_in G Q hs q g) absent))
      to t =
          let (e, a, v) = of_some Q (λ e. top e && eqb (0 + e) (0 * 8 + q)) (subst T bits (and_right (ltb 0 8 && ltb q 8) (entry m 0 q) t)) in
          let y : 0 + e ≡ 0 * 8 + q = eqb→eq (0 + e) (0 * 8 + q) (and_right (top e) (eqb (0 + e) (0 * 8 + q)) v) in
          let z : e ≡ q = omega arith in
          subst (λ q. T (not (eqb (head_in G Q hs q g) absent))) z (subst⁻¹ T (top_is l e a) (and_left (top e) (eqb (0 + e) (0 * 8 + q)) v))

      from : T (not (eqb (head_in G Q hs q g) absent)) → T (mat m 0 q)
      from t =
          let i = head_in_lem G Q hs q g t in
          both (ltb 0 8 && ltb q 8) (entry m 0 q) (lt→ltb q 8 (omega arith))
          (subst⁻¹ T bits
          (some_of Q (λ e. top e && eqb (0 + e) (0 * 8 + q)) q i
          (both (top q) (eqb (0 + q) (0 * 8 + q)) (subst T (top_is l q i) t) (rw (eq-eqb (0 + q) (0 * 8 + q) (omega arith)) tt))))

-- one number more is stored
module _ (P : (c m : ℕ) → Type 0) where
  pub stored : (xs : List ℕ) (g m : ℕ) → g < length xs → ((c : ℕ) → c < g → P c (get_or xs c 0)) → P g m → (c : ℕ) → c < g + 1 → P c (get_or (set xs g m) c 0)
  stored xs g m l k p c i = go (ℕ_discrete c g)
    where
      go : Dec (c ≡ g) → P c (get_or (set xs g m) c 0)
      go (yes e) = subst⁻¹ (λ c. P c (get_or (set xs g m) c 0)) e (subst⁻¹ (P g) (get_or-set_same xs g m 0 l) p)
      go (no e) = subst⁻¹ (P c) (get_or-set_other xs g c m 0 e) (k c (omega arith))
