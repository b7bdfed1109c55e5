-- `table::Size::row` meets its contract. Assumes nothing.
use native.Mathlib.Omega.{arith}
use Rattle.table.proofs.Bytes.{cell_small}
use Rattle.table.proofs.Places.{head_state, head_symbol, head_cell_lem}
use Rattle.table.proofs.Size.row.Goals as goal
use Rattle.table.proofs.Size.row.Goals.{then-self-q-via-then-self-q, then-self-q-via-else-self-q+then-self-g}

pub returns-then-self-q : goal.returns-then-self-q
returns-then-self-q c =
    let a = c.args in
    elim c.then-self-q.branch [
      | then-self-q-via-then-self-q w ↦ head_state a.self.symbols a.self.states a.q a.g w.if-self-q.true
      | then-self-q-via-else-self-q+then-self-g w ↦ head_symbol a.self.symbols a.self.states a.q a.g w.if-self-q.false w.if-self-g.true
    ]

pub overflow_mul-result : goal.overflow_mul-result
overflow_mul-result c =
    let a = c.args in
    omega (arith, cell_small {a = a.q} {b = a.self.symbols} {c = a.g} 255 (omega arith) (omega arith) (omega arith))

pub overflow_add-result : goal.overflow_add-result
overflow_add-result c =
    let a = c.args in
    omega (arith, cell_small {a = a.q} {b = a.self.symbols} {c = a.g} 255 (omega arith) (omega arith) (omega arith))

pub returns : goal.returns
returns c =
    let a = c.args in
    head_cell_lem a.self.symbols a.self.states a.q a.g c.if-self-q.false c.if-self-g.false
