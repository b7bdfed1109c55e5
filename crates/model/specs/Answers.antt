-- The answers of the code as the theory has them, a rule and the state after a step. Assumes nothing.
use Rattle.std.proofs.Math.Option.{Option, none, some}
use Rattle.std.specs.Prelude as code
use Rattle.std.specs.Prelude.{ℕ, Some, None}
use Rattle.product.specs.Product as product
use Rattle.product.specs.Product.{exit, direct, call}
use Rattle.model.specs.declared.Rule.{Rule}
use Rattle.model.specs.declared.Rule.TheVariants.{Exit, Direct, Call}

abbrev pub rule_as : product.Rule → Rule
rule_as (exit g) = Exit g
rule_as (direct g g1) = Direct g g1
rule_as (call g g1 g2) = Call g g1 g2

abbrev pub meant : Rule → product.Rule
meant (Exit g) = exit g
meant (Direct g g1) = direct g g1
meant (Call g g1 g2) = call g g1 g2

-- the theory's optional state in the code and back
abbrev pub next_as : Option ℕ → code.Option ℕ
next_as none = None
next_as (some q) = Some q

abbrev pub landed : code.Option ℕ → Option ℕ
landed None = none
landed (Some q) = some q
