-- `table::Size::head_count` meets its contract. Assumes nothing.
use native.Mathlib.Omega.{arith}
use Rattle.table.proofs.Bytes.{cell_small}
use Rattle.table.proofs.Size.head_count.Goals as goal

pub overflow_mul-result : goal.overflow_mul-result
overflow_mul-result c =
    let a = c.args in
    omega (arith, cell_small {a = a.self.states} {b = a.self.symbols} {c = 0} 255 (omega arith) (omega arith) (omega arith))
