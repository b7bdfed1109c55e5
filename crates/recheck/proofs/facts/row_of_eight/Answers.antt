use native.Mathlib.Nat.{mul-one, zero-add}
use native.Mathlib.Omega.{arith}
use Rattle.recheck.proofs.Matrices.{rowed_none, rowed_more, rowed_all, rowed_alone}
use Rattle.recheck.proofs.facts.row_of_eight.Goals as goal

pub loop-e-init : goal.loop-e-init
loop-e-init c =
    let a = c.args in
    rowed_none 0 a.cells.now a.at 1 0

pub loop-e-preserved : goal.loop-e-preserved
loop-e-preserved c =
    let a = c.args in
    let l = c.loop-e in
    rowed_more 0 a.cells.now a.at 1 0 l.e l.r _ l.invariant (rw (mul-one l.e, zero-add l.e) c.with_cell-r.ensures)

pub returns : goal.returns
returns c =
    let a = c.args in
    let l = c.loop-e in
    rowed_alone a.cells.now a.at 1 8 l.r (rowed_all 0 a.cells.now a.at 1 0 8 l.e l.r (omega arith) l.invariant)
