-- The visit of a rule, and of the rules of a set. Assumes nothing.
use mathlib.Core.Bool.{Bool, true, false, ◌&&◌, ◌||◌}
use mathlib.Core.List.{List}
use mathlib.Core.Path.{◌≡◌, refl, sym, ap, ap₂, ◌∙◌, subst, subst⁻¹}
use Prim.Native.Nat.{ℕ, ◌+◌, ◌*◌, ◌<◌}
use native.Mathlib.Omega.{arith}
use native.Mathlib.Decide.{ℕ_discrete}
use lib.Dec.{T, eqb, ltb}
use borrow.Author.Tests.{eq-eqb, ne_eqb}
use lib.ListN.{get_or, set, length, length-set}
use lib.Seq.{get_or-set_same, get_or-set_other}
use lib.Bits.{bit_or}
use Rattle.product.proofs.Lists.{or_right}
use Rattle.bits.specs.Matrix.{entry, mat, mats, multiplied}
use Rattle.bits.proofs.Bit.{bit_or_lem, bit_zero}
use Rattle.steps.specs.declared.Row.{Row}
use Rattle.steps.specs.declared.Kind.{Kind}
use Rattle.steps.specs.declared.Kind.TheVariants.{Exit, Direct, Call}
use Rattle.steps.specs.Rows.{kind_of, kind_at, RowAt}
use Rattle.decide.specs.Sets.{chosen, With, Taken}
use Rattle.decide.specs.Gather.{rest_of, rest_at, added, added_by, Visits, Gains}
use Rattle.decide.proofs.Members.{or_false, among_picked, among_none}

-- what is run after a step
pub rest_exit : (kind : Kind) (g1 g2 : ℕ) (e : List ℕ) → kind ≡ Exit → 0x8040201008040201 ≡ rest_of kind g1 g2 e
unfolding rest_of
rest_exit kind g1 g2 e k = rw k

pub rest_direct : (kind : Kind) (g1 g2 : ℕ) (e : List ℕ) → kind ≡ Direct → get_or e g1 0 ≡ rest_of kind g1 g2 e
unfolding rest_of
rest_direct kind g1 g2 e k = rw k

pub rest_call : (kind : Kind) (g1 g2 : ℕ) (e : List ℕ) → kind ≡ Call → multiplied (get_or e g1 0) (get_or e g2 0) ≡ rest_of kind g1 g2 e
unfolding rest_of
rest_call kind g1 g2 e k = rw k

-- as entries
or_and : (a b x y : Bool) → a && b && (x || y) ≡ (a && b && x) || (a && b && y)
or_and true true x y = refl
or_and true false x y = refl
or_and false b x y = refl

pub mat_or : (a b q x : ℕ) → mat (bit_or a b) q x ≡ mat a q x || mat b q x
mat_or a b q x = ap (λ z. ltb q 8 && ltb x 8 && z) (bit_or_lem a b (q * 8 + x)) ∙ or_and (ltb q 8) (ltb x 8) (entry a q x) (entry b q x)

and_off : (a b : Bool) → a && b && false ≡ false
and_off true true = refl
and_off true false = refl
and_off false b = refl

off_and : (a : Bool) → a && false ≡ false
off_and true = refl
off_and false = refl

pub mat_none : (m q x : ℕ) → m ≡ 0 → mat m q x ≡ false
mat_none m q x e = ap (λ m. mat m q x) e ∙ ap (λ b. ltb q 8 && ltb x 8 && b) (bit_zero (q * 8 + x)) ∙ and_off (ltb q 8) (ltb x 8)

pub or_assoc : (a b c : Bool) → a || (b || c) ≡ (a || b) || c
or_assoc true b c = refl
or_assoc false b c = refl

-- one rule, by its row
module _ {rs : List ℕ} {i : ℕ} {row : Row} (at_row : RowAt rs i row) (e by t : List ℕ) (t-long : length t ≡ 4) (by_long : length by ≡ 256)
    {m : ℕ} (m-is : m ≡ rest_of row.kind row.over row.under e) where
  abbrev c : ℕ
  c = row.class

  rest_is : m ≡ rest_at rs e i
  unfolding rest_at
  rest_is = m-is ∙ ap (λ k. rest_of k row.over row.under e) at_row.kind_is ∙ ap₂ (λ x y. rest_of (kind_of (kind_at rs i)) x y e) at_row.over_is at_row.under_is

  same_entry : (g q x : ℕ) → eqb c g && mat m q x ≡ added rs e i g q x
  same_entry g q x = ap₂ (λ c m. eqb c g && mat m q x) at_row.class_is rest_is

  pub visit_none : bit_or (get_or by c 0) m ≡ get_or by c 0 → Visits (added rs e i) t by t by
  visit_none z = record { few = t-long; long = by_long; entries = λ g q x. at g q x (ℕ_discrete c g) ∙ ap (λ b. mats by g q x || b) (same_entry g q x); same = λ g x. (x, refl) }
    where
      at : (g q x : ℕ) → Dec (c ≡ g) → mats by g q x ≡ mats by g q x || (eqb c g && mat m q x)
      at g q x (yes y) =
          subst (λ g. mats by g q x ≡ mats by g q x || (eqb c g && mat m q x)) y
          (rw (eq-eqb c c refl) (ap (λ n. mat n q x) (sym z) ∙ mat_or (get_or by c 0) m q x))
      at g q x (no y) = rw (ne_eqb c g y) (or_false (mats by g q x))

  module _ {t' : List ℕ} (marked : With t c t') where
    in_by : c < length by
    in_by = omega (arith, by_long, at_row.class_in)

    entry_at : (g q x : ℕ) → Dec (c ≡ g) → mats (set by c (bit_or (get_or by c 0) m)) g q x ≡ mats by g q x || (eqb c g && mat m q x)
    entry_at g q x (yes y) =
        subst (λ g. mats (set by c (bit_or (get_or by c 0) m)) g q x ≡ mats by g q x || (eqb c g && mat m q x)) y
        (rw (eq-eqb c c refl) (ap (λ n. mat n q x) (get_or-set_same by c (bit_or (get_or by c 0) m) 0 in_by) ∙ mat_or (get_or by c 0) m q x))
    entry_at g q x (no y) =
        rw (ne_eqb c g y) (ap (λ n. mat n q x) (get_or-set_other by c g (bit_or (get_or by c 0) m) 0 (λ z. y (sym z))) ∙ or_false (mats by g q x))

    off_left : (a b : Bool) → a || b ≡ false → a ≡ false
    off_left false b x = refl
    off_left true b x = absurd (subst T x tt)

    still : (g : ℕ) → chosen t' g ≡ false → Dec (c ≡ g) → (chosen t g ≡ false) × (get_or (set by c (bit_or (get_or by c 0) m)) g 0 ≡ get_or by g 0)
    still g x (yes y) = absurd (subst T (sym (marked.is g) ∙ x) (or_right (chosen t g) (eqb c g) (subst⁻¹ T (eq-eqb c g y) tt)))
    still g x (no y) = (off_left (chosen t g) (eqb c g) (sym (marked.is g) ∙ x), get_or-set_other by c g (bit_or (get_or by c 0) m) 0 (λ z. y (sym z)))

    pub visit_some : Visits (added rs e i) t by t' (set by c (bit_or (get_or by c 0) m))
    visit_some = record {
      few = marked.long;
      long = length-set by c (bit_or (get_or by c 0) m) ∙ by_long;
      entries = λ g q x. entry_at g q x (ℕ_discrete c g) ∙ ap (λ b. mats by g q x || b) (same_entry g q x);
      same = λ g x. still g x (ℕ_discrete c g);
    }

-- what is left to gather, with the matrices as they are, makes what was asked
pub record Left (rs e w by₀ left t by : List ℕ) : Type 0 where
  pub long : length left ≡ 4
  pub entries : (c q x : ℕ) → mats by c q x || added_by rs e left c q x ≡ mats by₀ c q x || added_by rs e w c q x
  pub few : length t ≡ 4
  pub by_long : length by ≡ 256
  pub same : (c : ℕ) → chosen t c ≡ false → get_or by c 0 ≡ get_or by₀ c 0

module _ {rs e w by₀ : List ℕ} where
  pub left_first : {left t : List ℕ} → left ≡ w → length w ≡ 4 → length by₀ ≡ 256 → length t ≡ 4 → Left rs e w by₀ left t by₀
  left_first i h z l = rw i (record { long = h; entries = λ c q x. refl; few = l; by_long = z; same = λ c _. refl })

  pub left_next : {left left' t t' by by' : List ℕ} {i : ℕ} → Taken left i left' → Left rs e w by₀ left t by → Visits (added rs e i) t by t' by' → Left rs e w by₀ left' t' by'
  unfolding added_by
  left_next {left} {left'} {t} {t'} {by} {by'} {i} p l g = record {
    long = p.long;
    entries = λ c q x.
        ap (λ b. b || added_by rs e left' c q x) (g.entries c q x)
        ∙ sym (or_assoc (mats by c q x) (added rs e i c q x) (added_by rs e left' c q x))
        ∙ ap (λ b. mats by c q x || b) (sym (among_picked left (λ i. added rs e i c q x) p))
        ∙ l.entries c q x;
    few = g.few;
    by_long = g.long;
    same = λ c x. let (a, b) = g.same c x in b ∙ l.same c a;
  }

  pub left_last : {left t by : List ℕ} → ((r : ℕ) → chosen left r ≡ false) → Left rs e w by₀ left t by → Gains (added_by rs e w) by₀ t by
  unfolding added_by
  left_last {left} {t} {by} p l = record {
    few = l.few;
    long = l.by_long;
    entries = λ c q x.
        or_false (mats by c q x) ∙ ap (λ b. mats by c q x || b) (sym (among_none left (λ i. added rs e i c q x) p)) ∙ l.entries c q x;
    same = l.same;
  }
