-- `bits::spread` meets its contract. Assumes nothing.
use mathlib.Core.Path.{◌∙◌}
use Rattle.bits.proofs.Rows.{filled_fits, filled_at}
use Rattle.bits.proofs.spread.Goals as goal

pub overflow_mul-result : goal.overflow_mul-result
overflow_mul-result c = filled_fits c.column.result

pub returns : goal.returns
returns c k x hk hx = filled_at c.column.result k x hk hx ∙ c.column.ensures k hk
