-- A rule of a lent model by its numbers: its kind, its class, and the symbols that it puts there, below 32. Those that it does not use may be anything,
-- and of a number from 256 on, which is no rule, they are 0. Assumes nothing.
use Rattle.std.specs.Prelude.{cond, List, ◌≡◌, ℕ, zero, suc, ◌+◌, ◌*◌, ◌%◌, ◌<◌, ltb, get_or}
use Rattle.product.specs.Product.{Rule, exit, direct, call}
use Rattle.steps.specs.declared.Kind.{Kind}
use Rattle.steps.specs.declared.Kind.TheVariants.{Exit, Direct, Call}
use Rattle.steps.specs.declared.Row.{Row}
use Rattle.steps.specs.Steps.{symbol_of}

unfoldable pub kind_at : List ℕ → ℕ → ℕ
kind_at cells r = cond (ltb r 256) (get_or cells (4 * r) 0) 0

unfoldable pub class_at : List ℕ → ℕ → ℕ
class_at cells r = cond (ltb r 256) (get_or cells (4 * r + 1) 0) 0

unfoldable pub over_at : List ℕ → ℕ → ℕ
over_at cells r = cond (ltb r 256) (get_or cells (4 * r + 2) 0 % 32) 0

unfoldable pub under_at : List ℕ → ℕ → ℕ
under_at cells r = cond (ltb r 256) (get_or cells (4 * r + 3) 0 % 32) 0

-- the kind by its number
abbrev pub kind_of : ℕ → Kind
kind_of zero = Exit
kind_of (suc zero) = Direct
kind_of (suc (suc k)) = Call

-- the numbers of rule r were read
pub record RowAt (cells : List ℕ) (r : ℕ) (row : Row) : Type 0 where
  pub kind_is : row.kind ≡ kind_of (kind_at cells r)
  pub byte_is : row.byte ≡ kind_at cells r
  pub class_is : row.class ≡ class_at cells r
  pub over_is : row.over ≡ over_at cells r
  pub under_is : row.under ≡ under_at cells r
  pub class_in : row.class < 256
  pub over_in : row.over < 32
  pub under_in : row.under < 32

-- the rule that they say
abbrev pub rule_by : (kind g g1 g2 : ℕ) → Rule
rule_by zero g g1 g2 = exit g
rule_by (suc zero) g g1 g2 = direct g g1
rule_by (suc (suc k)) g g1 g2 = call g g1 g2

abbrev pub row_rule : List ℕ → ℕ → Rule
row_rule cells r = rule_by (kind_at cells r) (symbol_of (class_at cells r)) (over_at cells r) (under_at cells r)
