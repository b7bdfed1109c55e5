-- Entries taken in: none, those of one matrix, and some after others. Assumes nothing.
use mathlib.Core.Bool.{Bool, true, false, cond, not, ◌&&◌, ◌||◌}
use mathlib.Core.List.{List}
use mathlib.Core.Logic.{◌⊎◌, inl, inr}
use mathlib.Core.Path.{◌≡◌, refl, sym, ap, ◌∙◌, subst, subst⁻¹, fun_ext}
use Prim.Native.Nat.{ℕ, ◌+◌, ◌*◌, ◌/◌, ◌%◌, ◌^◌, ◌<◌}
use native.Mathlib.Nat.{div-add-mod', mod-lt, zero-lt-suc}
use native.Mathlib.Omega.{arith}
use native.Mathlib.Decide.{ℕ_discrete}
use lib.Dec.{T, eqb, ltb, eqb→eq, ltb→lt}
use borrow.Author.Tests.{eq-eqb, ne_eqb, lt-ltb}
use lib.Bits.{bit_or, bit_xor}
use lib.ListN.{length, length-set, get_or, set}
use lib.Seq.{get_or-set_same, get_or-set_other}
use Rattle.product.specs.Facts.{Fact, head, triple}
use Rattle.product.specs.Table.{Table}
use Rattle.product.proofs.Lists.{and_left, and_right, both, or_left, or_right, or_cases}
use Rattle.table.specs.declared.Size.{Size}
use Rattle.bits.specs.Bit.{bit}
use Rattle.bits.proofs.Bit.{bit_or_lem, bit_xor_lem, bit_zero, xor}
use Rattle.bits.proofs.Set.{bit_pow, one_shifted}
use Rattle.bits.specs.Matrix.{entry, mat, mats}
use Rattle.bits.proofs.Some.{has_bit}
use Rattle.decide.specs.Stamp.{Sort, of_heads, of_triples, view_of, Became, Entries, alone, named, ranked, Inside, Stamps}
use Rattle.decide.specs.Take.{Took, Room, Within, Fits, Gained}
use Rattle.decide.proofs.Gathered.{mat_or, mat_none}
use Rattle.decide.proofs.Members.{or_false}
use Rattle.decide.proofs.Stamped.{Word, word, as_entry}

-- an entry, with its row and column in range
pub mat_in : (m q x : ℕ) → q < 8 → x < 8 → mat m q x ≡ entry m q x
mat_in m q x hq hx = rw (lt-ltb q 8 hq, lt-ltb x 8 hx)

pub mat_lt : (m q x : ℕ) → T (mat m q x) → (q < 8) × (x < 8) × T (entry m q x)
mat_lt m q x t =
    let u : T (ltb q 8 && ltb x 8) = and_left (ltb q 8 && ltb x 8) (entry m q x) t in
    (ltb→lt q 8 (and_left (ltb q 8) (ltb x 8) u), ltb→lt x 8 (and_right (ltb q 8) (ltb x 8) u), and_right (ltb q 8 && ltb x 8) (entry m q x) t)

-- nothing taken in
module _ (s : Sort) (z : Size) (k : ℕ) (m : Entries) (e ts : List ℕ) (none : (g q x : ℕ) → T (m g q x) → T (mats e g q x)) where
  held : (a b : Bool) → (T b → T a) → a ≡ a || b
  held true b h = refl
  held false true h = absurd (h tt)
  held false false h = refl

  never : (a b : Bool) → (T b → T a) → b && not a ≡ false
  never true true h = refl
  never true false h = refl
  never false true h = absurd (h tt)
  never false false h = refl

  pub took_none : Took s z k m e ts 0 e ts
  took_none = record {
    as_long = refl;
    entries = λ g q x. held (mats e g q x) (m g q x) (none g q x);
    table = record { is = fun_ext (at s); as_long = refl; past = refl };
    quiet = λ g _ q x t. none g q x t;
    fresh = λ g t. absurd (subst T (bit_zero g) t);
  }
    where
      at : (s : Sort) (f : Fact) → view_of s z ts f ≡ ranked k (named s (λ g q x. m g q x && not (mats e g q x))) (view_of s z ts) f
      at of_heads (head q g) = rw (never (mats e g 0 q) (m g 0 q) (none g 0 q))
      at of_heads (triple q g x) = refl
      at of_triples (head q g) = refl
      at of_triples (triple q g x) = rw (never (mats e g q x) (m g q x) (none g q x))

-- some after others
module _ {s : Sort} {z : Size} {k : ℕ} {m m' : Entries} {e ts e' ts' e'' ts'' : List ℕ} {w w' : ℕ} (a : Took s z k m e ts w e' ts') (b : Took s z k m' e' ts' w' e'' ts'') where
  abbrev either : Entries
  either g q x = m g q x || m' g q x

  assoc : (a b c : Bool) → (a || b) || c ≡ a || (b || c)
  assoc true b c = refl
  assoc false b c = refl

  cells : (a b c : Bool) (n : ℕ) → cond (c && not (a || b)) k (cond (b && not a) k n) ≡ cond ((b || c) && not a) k n
  cells true true true n = refl
  cells true true false n = refl
  cells true false true n = refl
  cells true false false n = refl
  cells false true true n = refl
  cells false true false n = refl
  cells false false true n = refl
  cells false false false n = refl

  off_left : (a b : Bool) → a || b ≡ false → a ≡ false
  off_left false b x = refl
  off_left true b x = absurd (subst T x tt)

  off_right : (a b : Bool) → a || b ≡ false → b ≡ false
  off_right false b x = x
  off_right true b x = absurd (subst T x tt)

  not_left : (a b : Bool) → T (not (a || b)) → T (not a)
  not_left false b t = tt
  not_left true b t = elim t [ ]

  pub took_then : Took s z k either e ts (bit_or w w') e'' ts''
  took_then = record {
    as_long = b.as_long ∙ a.as_long;
    entries = λ g q x. b.entries g q x ∙ ap (λ c. c || m' g q x) (a.entries g q x) ∙ assoc (mats e g q x) (m g q x) (m' g q x);
    table = record {
      is = b.table.is ∙ ap (ranked k (named s (λ g q x. m' g q x && not (mats e' g q x)))) a.table.is ∙ fun_ext (at s (view_of s z ts));
      as_long = b.table.as_long ∙ a.table.as_long;
      past = b.table.past ∙ a.table.past;
    };
    quiet = λ g x q y t. still g x q y (or_cases (m g q y) (m' g q y) t);
    fresh = λ g t. some_new g (or_cases (bit w g) (bit w' g) (subst T (bit_or_lem w w' g) t));
  }
    where
      one : (n g q x : ℕ) → cond (m' g q x && not (mats e' g q x)) k (cond (m g q x && not (mats e g q x)) k n) ≡ cond (either g q x && not (mats e g q x)) k n
      one n g q x =
          ap (λ c. cond (m' g q x && not c) k (cond (m g q x && not (mats e g q x)) k n)) (a.entries g q x)
          ∙ cells (mats e g q x) (m g q x) (m' g q x) n

      at : (s : Sort) (t : Table) (f : Fact)
          → ranked k (named s (λ g q x. m' g q x && not (mats e' g q x))) (ranked k (named s (λ g q x. m g q x && not (mats e g q x))) t) f
          ≡ ranked k (named s (λ g q x. either g q x && not (mats e g q x))) t f
      at of_heads t (head q g) = one (t (head q g)) g 0 q
      at of_heads t (triple q g x) = refl
      at of_triples t (head q g) = refl
      at of_triples t (triple q g x) = one (t (triple q g x)) g q x

      still : (g : ℕ) → bit (bit_or w w') g ≡ false → (q y : ℕ) → T (m g q y) ⊎ T (m' g q y) → T (mats e g q y)
      still g x q y (inl t) = a.quiet g (off_left (bit w g) (bit w' g) (sym (bit_or_lem w w' g) ∙ x)) q y t
      still g x q y (inr t) =
          go (or_cases (mats e g q y) (m g q y) (subst T (a.entries g q y) (b.quiet g (off_right (bit w g) (bit w' g) (sym (bit_or_lem w w' g) ∙ x)) q y t)))
        where
          go : T (mats e g q y) ⊎ T (m g q y) → T (mats e g q y)
          go (inl u) = u
          go (inr u) = a.quiet g (off_left (bit w g) (bit w' g) (sym (bit_or_lem w w' g) ∙ x)) q y u

      some_new : (g : ℕ) → T (bit w g) ⊎ T (bit w' g) → (q : ℕ) × (x : ℕ) × T (either g q x) × T (not (mats e g q x))
      some_new g (inl t) = let (q, x, u, v) = a.fresh g t in (q, x, or_left (m g q x) (m' g q x) u, v)
      some_new g (inr t) =
          let (q, x, u, v) = b.fresh g t in
          (q, x, or_right (m g q x) (m' g q x) u, not_left (mats e g q x) (m g q x) (subst (λ c. T (not c)) (a.entries g q x) v))

pub room_after : {s : Sort} {z : Size} {k : ℕ} {m : Entries} {e ts e' ts' : List ℕ} {w : ℕ} → Took s z k m e ts w e' ts' → Room s z e ts → Room s z e' ts'
room_after a r = record { few = r.few; matrices = a.as_long ∙ r.matrices; long = omega (arith, r.long, a.table.as_long) }

-- the matrix of one symbol
eight : 0 < 8
eight = zero-lt-suc 7

module _ (s : Sort) (z : Size) (k g m : ℕ) (small : m < 2 ^ 64) (e ts : List ℕ) where
  abbrev old : ℕ
  old = get_or e g 0

  abbrev new : ℕ
  new = bit_xor (bit_or (get_or e g 0) m) (get_or e g 0)

  only : (a b : Bool) → xor (a || b) a ≡ b && not a
  only true true = refl
  only true false = refl
  only false true = refl
  only false false = refl

  new_bit : (i : ℕ) → bit new i ≡ bit m i && not (bit old i)
  new_bit i = bit_xor_lem (bit_or old m) old i ∙ ap (λ b. xor b (bit old i)) (bit_or_lem old m i) ∙ only (bit old i) (bit m i)

  of_new : (i : ℕ) → T (bit new i) → T (bit m i)
  of_new i t = and_left (bit m i) (not (bit old i)) (subst T (new_bit i) t)

  new_word : Word new
  new_word i t = word m small i (of_new i t)

  spread : (a b c d : Bool) → a && b && (c && not d) ≡ (a && b && c) && not (a && b && d)
  spread true true c d = refl
  spread true false c d = refl
  spread false b c d = refl

  new_at : (q x : ℕ) → mat new q x ≡ mat m q x && not (mat old q x)
  new_at q x = ap (λ b. ltb q 8 && ltb x 8 && b) (new_bit (q * 8 + x)) ∙ spread (ltb q 8) (ltb x 8) (entry m q x) (entry old q x)

  module _ (r : Room s z e ts) (f : Fits s z g m) where
    in_e : g < length e
    in_e = omega (arith, f.small, r.matrices)

    placed : (s : Sort) (i : ℕ) → Within s z g (i / 8) (i % 8) → (g < z.symbols) × Inside s z i
    placed of_triples i (a, b, c) = (a, (b, c))
    placed of_heads i (a, b, c) =
        let d : i % 8 ≡ i = omega (arith, b, div-add-mod' i 8) in
        (a, (omega (arith, mod-lt i eight), omega arith))

    within : (i : ℕ) → T (bit new i) → (g < z.symbols) × Inside s z i
    within i t = let u = of_new i t in placed s i (f.inside (i / 8) (i % 8) (as_entry m i (word m small i u) u))

    entry_is : (g' q x : ℕ) → Dec (g ≡ g') → mats (set e g (bit_or (get_or e g 0) m)) g' q x ≡ mats e g' q x || alone g m g' q x
    entry_is g' q x (yes y) =
        subst (λ g'. mats (set e g (bit_or (get_or e g 0) m)) g' q x ≡ mats e g' q x || alone g m g' q x) y
        (rw (eq-eqb g g refl) (ap (λ n. mat n q x) (get_or-set_same e g (bit_or old m) 0 in_e) ∙ mat_or old m q x))
    entry_is g' q x (no y) =
        rw (ne_eqb g g' y) (ap (λ n. mat n q x) (get_or-set_other e g g' (bit_or old m) 0 (λ v. y (sym v))) ∙ or_false (mats e g' q x))

    -- no bit is new
    none_new : new ≡ 0 → Took s z k (alone g m) e ts 0 (set e g (bit_or (get_or e g 0) m)) ts
    none_new zero-new = record { as_long = length-set e g (bit_or old m); entries = λ g' q x. entry_is g' q x (ℕ_discrete g g'); table = t.table; quiet = t.quiet; fresh = t.fresh }
      where
        covered : (a b : Bool) → b && not a ≡ false → T b → T a
        covered true b x u = tt
        covered false true x u = subst T x tt
        covered false false x u = elim u [ ]

        nothing : (g' q x : ℕ) → T (alone g m g' q x) → T (mats e g' q x)
        nothing g' q x u =
            subst (λ g. T (mats e g q x)) (eqb→eq g g' (and_left (eqb g g') (mat m q x) u))
            (covered (mat old q x) (mat m q x) (sym (new_at q x) ∙ mat_none new q x zero-new) (and_right (eqb g g') (mat m q x) u))

        t : Took s z k (alone g m) e ts 0 e ts
        t = took_none s z k (alone g m) e ts nothing

    -- some bit is new
    module _ (changed : new ≡ 0 → ⊥) where
      new_some : (i : ℕ) × T (bit new i)
      new_some = has_bit new changed

      stamps_new : Stamps s z g (bit_xor (bit_or (get_or e g 0) m) (get_or e g 0)) ts
      stamps_new = record { long = r.long; symbol = let (i, t) = new_some in (within i t).0; inside = λ i t. (within i t).1 }

      set_bit : (x : ℕ) → bit ((1 * 2 ^ g) % 2 ^ 64) x ≡ eqb g x
      set_bit x = ap (λ n. bit n x) (one_shifted 64 g (omega (arith, f.small))) ∙ bit_pow g x

      some_new : {ts' : List ℕ} → Became s z ts (ranked k (named s (alone g (bit_xor (bit_or (get_or e g 0) m) (get_or e g 0)))) (view_of s z ts)) ts'
          → Took s z k (alone g m) e ts ((1 * 2 ^ g) % 2 ^ 64) (set e g (bit_or (get_or e g 0) m)) ts'
      some_new {ts'} b = record {
        as_long = length-set e g (bit_or old m);
        entries = λ g' q x. entry_is g' q x (ℕ_discrete g g');
        table = record { is = b.is ∙ fun_ext (at s); as_long = b.as_long; past = b.past };
        quiet = λ g' y q x t. absurd (subst T (sym (set_bit g') ∙ y) (and_left (eqb g g') (mat m q x) t));
        fresh = λ g' t. witness g' (eqb→eq g g' (subst T (set_bit g') t));
      }
        where
          one : (g' q x : ℕ) → Dec (g ≡ g') → alone g new g' q x ≡ alone g m g' q x && not (mats e g' q x)
          one g' q x (yes y) = subst (λ g'. alone g new g' q x ≡ alone g m g' q x && not (mats e g' q x)) y (rw (eq-eqb g g refl) (new_at q x))
          one g' q x (no y) = rw (ne_eqb g g' y)

          at : (s : Sort) (d : Fact) → ranked k (named s (alone g new)) (view_of s z ts) d
              ≡ ranked k (named s (λ g' q x. alone g m g' q x && not (mats e g' q x))) (view_of s z ts) d
          at of_heads (head q g') = ap (λ c. cond c k (view_of of_heads z ts (head q g'))) (one g' 0 q (ℕ_discrete g g'))
          at of_heads (triple q g' x) = refl
          at of_triples (head q g') = refl
          at of_triples (triple q g' x) = ap (λ c. cond c k (view_of of_triples z ts (triple q g' x))) (one g' q x (ℕ_discrete g g'))

          witness : (g' : ℕ) → g ≡ g' → (q : ℕ) × (x : ℕ) × T (alone g m g' q x) × T (not (mats e g' q x))
          witness g' y =
              let (i, t) = new_some in
              let u : T (mat new (i / 8) (i % 8)) = as_entry new i (new_word i t) t in
              let v : T (mat m (i / 8) (i % 8) && not (mat old (i / 8) (i % 8))) = subst T (new_at (i / 8) (i % 8)) u in (
                i / 8,
                i % 8,
                both (eqb g g') (mat m (i / 8) (i % 8)) (subst⁻¹ T (eq-eqb g g' y) tt) (and_left (mat m (i / 8) (i % 8)) (not (mat old (i / 8) (i % 8))) v),
                subst (λ g. T (not (mats e g (i / 8) (i % 8)))) y (and_right (mat m (i / 8) (i % 8)) (not (mat old (i / 8) (i % 8))) v),
              )

-- the same, by what the word gained
module _ {s : Sort} {z : Size} (k : ℕ) {g m n : ℕ} {e e' ts : List ℕ} (a : Gained e g m n e') (r : Room s z e ts) (f : Fits s z g m) where
  pub take_none : n ≡ 0 → Took s z k (alone g m) e ts 0 e' ts
  take_none x = subst⁻¹ (λ e'. Took s z k (alone g m) e ts 0 e' ts) a.held (none_new s z k g m a.small e ts r f (sym a.new_is ∙ x))

  module _ (x : n ≡ 0 → ⊥) where
    some_bit : new s z k g m a.small e ts ≡ 0 → ⊥
    some_bit y = x (a.new_is ∙ y)

    pub take_in : Stamps s z g n ts
    take_in = subst⁻¹ (λ d. Stamps s z g d ts) a.new_is (stamps_new s z k g m a.small e ts r f some_bit)

    pub take_some : {ts' : List ℕ} → Became s z ts (ranked k (named s (alone g n)) (view_of s z ts)) ts' → Took s z k (alone g m) e ts ((1 * 2 ^ g) % 2 ^ 64) e' ts'
    take_some {ts'} b =
        subst⁻¹ (λ e'. Took s z k (alone g m) e ts ((1 * 2 ^ g) % 2 ^ 64) e' ts') a.held
        (some_new s z k g m a.small e ts r f some_bit (subst (λ d. Became s z ts (ranked k (named s (alone g d)) (view_of s z ts)) ts') a.new_is b))

-- the same entries by another name
pub took_alike : {s : Sort} {z : Size} {k : ℕ} {m m' : Entries} {e ts e' ts' : List ℕ} {w : ℕ} → ((g q x : ℕ) → m g q x ≡ m' g q x)
    → Took s z k m e ts w e' ts' → Took s z k m' e ts w e' ts'
took_alike {s} {z} {k} {m} {m'} {e} {ts} {e'} {ts'} {w} same =
    subst (λ m. Took s z k m e ts w e' ts') (fun_ext λ g. fun_ext λ q. fun_ext λ x. same g q x)
