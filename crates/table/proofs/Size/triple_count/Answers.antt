-- `table::Size::triple_count` meets its contract. Assumes nothing.
use Prim.Native.Nat.{◌≤◌}
use native.Mathlib.Omega.{arith}
use Rattle.table.proofs.Bytes.{cell_small}
use Rattle.table.proofs.Size.triple_count.Goals as goal

pub overflow_mul-result : goal.overflow_mul-result
overflow_mul-result c =
    let a = c.args in
    let x : c.head_count.result ≤ 65280 =
    omega (arith, c.head_count.ensures, cell_small {a = a.self.states} {b = a.self.symbols} {c = 0} 255 (omega arith) (omega arith) (omega arith)) in
    omega (arith, cell_small {a = c.head_count.result} {b = a.self.states} {c = 0} 65280 x (omega arith) (omega arith))

pub returns : goal.returns
returns c = rw c.head_count.ensures
