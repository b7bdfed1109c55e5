-- The numbers of a valid model's rules say its rules. Assumes nothing.
use mathlib.Core.List.{List}
use mathlib.Core.Path.{◌≡◌, refl, sym, ap, ap₂, ◌∙◌, subst}
use Prim.Native.Nat.{ℕ, zero, suc, ◌+◌, ◌*◌, ◌%◌, ◌<◌, ◌≤◌}
use native.Mathlib.Nat.{mod-eq_of_lt}
use native.Mathlib.Decide.{dec_lt}
use native.Mathlib.Omega.{arith}
use lib.Dec.{T, eqb-suc-zero, eqb-suc-suc}
use lib.ListN.{get_or}
use borrow.Author.Tests.{lt-ltb, le-ltb}
use Rattle.product.specs.Lists.{All}
use Rattle.product.specs.Product.{direct, call, symbol, pushed}
use Rattle.product.proofs.Lists.{All-map}
use Rattle.model.specs.declared.Model.{Model}
use Rattle.model.specs.declared.Shape.{Shape}
use Rattle.model.specs.Model as model
use Rattle.model.specs.Model.{in_row, rule}
use Rattle.model.specs.Valid.{valid}
use Rattle.model.proofs.Valid.{valid_sizes, product_in_lem}
use Rattle.lent.specs.Lending.{part, of_lent, model_in}
use Rattle.lent.proofs.Parts.{in_part}
use Rattle.steps.specs.Steps.{class_of}
use Rattle.steps.specs.declared.Kind.{Kind}
use Rattle.steps.specs.declared.Kind.TheVariants.{Exit}
use Rattle.steps.specs.Rows.{kind_of, kind_at, class_at, over_at, under_at, RowAt, rule_by, row_rule}
use Rattle.steps.proofs.Built.{class_past, class_row}
use Rattle.steps.proofs.Laws.{symbol_same}

-- the numbers where they lie
module _ (cells : List ℕ) (r : ℕ) where
  pub row_read : r < 256 → {k : Kind} {y c o u : ℕ} → (k ≡ kind_of (get_or cells (4 * r) 0)) × (y ≡ get_or cells (4 * r) 0) → (c ≡ get_or cells (4 * r + 1) 0) × (c < 256)
      → (o ≡ get_or cells (4 * r + 2) 0 % 32) × (o < 32) → (u ≡ get_or cells (4 * r + 3) 0 % 32) × (u < 32)
      → RowAt cells r (record { kind = k; byte = y; class = c; over = o; under = u })
  unfolding kind_at class_at over_at under_at
  row_read l (k, y) (c, c') (o, o') (u, u') =
      let e = lt-ltb r 256 l in
      record { kind_is = rw e k; byte_is = rw e y; class_is = rw e c; over_is = rw e o; under_is = rw e u; class_in = c'; over_in = o'; under_in = u' }

  pub row_past : 256 ≤ r → RowAt cells r (record { kind = Exit; byte = 0; class = 0; over = 0; under = 0 })
  unfolding kind_at class_at over_at under_at
  row_past l =
      let e = le-ltb r 256 l in
      record { kind_is = rw e; byte_is = rw e; class_is = rw e; over_is = rw e; under_is = rw e; class_in = omega arith; over_in = omega arith; under_in = omega arith }

by_kind : (k g g1 g2 : ℕ) → model.rule_by k g g1 g2 ≡ rule_by k g g1 g2
by_kind zero g g1 g2 = refl
by_kind (suc zero) g g1 g2 = refl
by_kind (suc (suc k)) g g1 g2 = rw (eqb-suc-zero (suc k), eqb-suc-suc (suc k) 0, eqb-suc-zero k)

low_kind : (k g g1 g2 : ℕ) → All (λ g. g < 32) (pushed (rule_by k g g1 g2)) → rule_by k g g1 g2 ≡ rule_by k g (g1 % 32) (g2 % 32)
low_kind zero g g1 g2 h = refl
low_kind (suc zero) g g1 g2 (a, _) = ap (direct g) (sym (mod-eq_of_lt a))
low_kind (suc (suc k)) g g1 g2 (a, (b, _)) = ap₂ (call g) (sym (mod-eq_of_lt a)) (sym (mod-eq_of_lt b))

symbol_of_lem : (k g g1 g2 : ℕ) → symbol (rule_by k g g1 g2) ≡ g
symbol_of_lem zero g g1 g2 = refl
symbol_of_lem (suc zero) g g1 g2 = refl
symbol_of_lem (suc (suc k)) g g1 g2 = refl

-- the rules of a record lie in an array
pub record LiesIn (cells : List ℕ) (m : Model) : Type 0 where
  pub kind_in : (r : ℕ) → r < 256 → kind_at cells r ≡ in_row 4 m.rulerows r 0
  pub class_in : (r : ℕ) → r < 256 → class_at cells r ≡ in_row 4 m.rulerows r 1
  pub over_in : (r : ℕ) → r < 256 → over_at cells r ≡ in_row 4 m.rulerows r 2 % 32
  pub under_in : (r : ℕ) → r < 256 → under_at cells r ≡ in_row 4 m.rulerows r 3 % 32

pub lies : (s : Shape) (cells : List ℕ) → LiesIn cells (of_lent s cells)
unfolding kind_at class_at over_at under_at
lies s cells = record {
  kind_in = λ r l. rw (lt-ltb r 256 l) (at r 0 (4 * r) (omega arith) (omega arith));
  class_in = λ r l. rw (lt-ltb r 256 l) (at r 1 (4 * r + 1) (omega arith) (omega arith));
  over_in = λ r l. rw (lt-ltb r 256 l) (ap (λ n. n % 32) (at r 2 (4 * r + 2) (omega arith) (omega arith)));
  under_in = λ r l. rw (lt-ltb r 256 l) (ap (λ n. n % 32) (at r 3 (4 * r + 3) (omega arith) (omega arith)));
}
  where
    at : (r i p : ℕ) → p ≡ r * 4 + i → r * 4 + i < 1024 → get_or cells p 0 ≡ in_row 4 (part 0 1024 cells) r i
    at r i p e l = in_part cells 0 1024 (r * 4 + i) p (omega arith) l

module _ (m : Model) (v : T (valid m)) {cells : List ℕ} (same : LiesIn cells m) where
  pub few : (r : ℕ) → r < m.rules → r < 256
  few r l = omega (arith, l, (valid_sizes m v).rules)

  raw_is : (r : ℕ) → r < m.rules → rule m r ≡ rule_by (kind_at cells r) (class_at cells r) (in_row 4 m.rulerows r 2) (in_row 4 m.rulerows r 3)
  raw_is r l =
      by_kind (in_row 4 m.rulerows r 0) (in_row 4 m.rulerows r 1) (in_row 4 m.rulerows r 2) (in_row 4 m.rulerows r 3)
      ∙ ap₂ (λ k g. rule_by k g (in_row 4 m.rulerows r 2) (in_row 4 m.rulerows r 3)) (sym (same.kind_in r (few r l))) (sym (same.class_in r (few r l)))

  pushed_in : (r : ℕ) → r < m.rules → All (λ g. g < 32) (pushed (rule m r))
  pushed_in r l = All-map (λ g. g < m.symbols) (λ g. g < 32) (λ g h. omega (arith, h, (valid_sizes m v).symbols)) (pushed (rule m r)) ((product_in_lem m v).rules_in r l).1

  pub symbol_is : (r : ℕ) → r < m.rules → symbol (rule m r) ≡ class_at cells r
  symbol_is r l = ap symbol (raw_is r l) ∙ symbol_of_lem (kind_at cells r) (class_at cells r) (in_row 4 m.rulerows r 2) (in_row 4 m.rulerows r 3)

  pub class_lt : (r : ℕ) → r < m.rules → class_at cells r < 32
  class_lt r l = let h = subst (λ g. g < m.symbols) (symbol_is r l) ((product_in_lem m v).rules_in r l).0 in omega (arith, h, (valid_sizes m v).symbols)

  -- the rule of a number
  pub row_lent : (r : ℕ) → r < m.rules → rule m r ≡ row_rule cells r
  row_lent r l =
      raw_is r l
      ∙ low_kind (kind_at cells r) (class_at cells r) (in_row 4 m.rulerows r 2) (in_row 4 m.rulerows r 3) (subst (λ ρ. All (λ g. g < 32) (pushed ρ)) (raw_is r l) (pushed_in r l))
      ∙ ap₂ (λ a b. rule_by (kind_at cells r) (class_at cells r) a b) (sym (same.over_in r (few r l))) (sym (same.under_in r (few r l)))
      ∙ ap (λ g. rule_by (kind_at cells r) g (over_at cells r) (under_at cells r)) (sym (symbol_same (class_at cells r) (class_lt r l)))

-- the class is the same, asked either way
pub class_at_lem : (cells : List ℕ) (r : ℕ) → class_of (model_in cells) r ≡ class_at cells r
unfolding model_in class_at
class_at_lem cells r = go (dec_lt r 256)
  where
    go : Dec (r < 256) → class_of (model_in cells) r ≡ class_at cells r
    go (yes l) = rw (lt-ltb r 256 l) (sym (class_row (model_in cells) r l (in_part cells 0 1024 (r * 4 + 1) (4 * r + 1) (omega arith) (omega arith))))
    go (no l) = rw (le-ltb r 256 (omega arith)) (sym (class_past (model_in cells) r (omega arith)))
