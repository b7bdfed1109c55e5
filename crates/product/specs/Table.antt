-- The table of ranks that the rounds leave. Assumes nothing.
use Rattle.std.specs.Prelude.{Bool, cond, not, ℕ, zero, suc, eqb}
use Rattle.product.specs.Product.{Product}
use Rattle.product.specs.Facts.{Fact}
use Rattle.product.specs.Rounds.{held}
use Rattle.product.specs.Verdict.{answer, ran}

-- what stands in the table for each fact
abbrev pub Table : Type 0
Table = Fact → ℕ

-- the mark of a fact that is not held; any other number means present
abbrev pub absent : ℕ
absent = 65535

abbrev pub present : Table → Fact → Bool
present t f = not (eqb (t f) absent)

-- the table after round n: a fact's rank if that is at most n, and else 65,535
unfoldable pub ranks : Product → ℕ → Table
ranks p zero f = cond (held p zero f) zero absent
ranks p (suc n) f = cond (held p n f) (ranks p n f) (cond (held p (suc n) f) (suc n) absent)

-- what the decision leaves: the facts of rank up to the rounds of the verdict, or on refusal 8 up to the budget
abbrev pub left : Product → ℕ → Table
left p budget = ranks p (ran budget (answer p budget))
