-- `bits::column` meets its contract. Assumes nothing.
use Rattle.bits.proofs.Rows.{seven_fits, column_at}
use Rattle.bits.proofs.column.Goals as goal

pub overflow_mul-result : goal.overflow_mul-result
overflow_mul-result c = seven_fits c.args.v

pub returns : goal.returns
returns c = column_at c.args.v
