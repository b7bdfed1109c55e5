use native.Mathlib.Omega.{arith}
use borrow.Author.Rules.{rules}
use Rattle.recheck.proofs.Matrices.{rowed_none, rowed_more, rowed_all}
use Rattle.recheck.proofs.facts.with_row.Goals as goal

pub loop-e-init : goal.loop-e-init
loop-e-init c =
    let a = c.args in
    rowed_none a.m a.cells.now a.at a.apart a.k

pub overflow_mul-e : goal.overflow_mul-e
overflow_mul-e c =
    let h = c.requires.inside c.loop-e.e (omega arith) in
    search rules

pub overflow_add-at : goal.overflow_add-at
overflow_add-at c =
    let h = c.requires.inside c.loop-e.e (omega arith) in
    search rules

pub offset_bounds-cells-at : goal.offset_bounds-cells-at
offset_bounds-cells-at c =
    let h = c.requires.inside c.loop-e.e (omega arith) in
    search rules

pub bounds-cells-at : goal.bounds-cells-at
bounds-cells-at c = c.requires.inside c.loop-e.e (omega arith)

pub overflow_add-k : goal.overflow_add-k
overflow_add-k c =
    let h = c.requires.few in
    search rules

pub with_cell-r-requires : goal.with_cell-r-requires
with_cell-r-requires c =
    let h = c.requires.few in
    omega arith

pub loop-e-preserved : goal.loop-e-preserved
loop-e-preserved c =
    let a = c.args in
    let l = c.loop-e in
    rowed_more a.m a.cells.now a.at a.apart a.k l.e l.r _ l.invariant c.with_cell-r.ensures

pub returns : goal.returns
returns c =
    let a = c.args in
    let l = c.loop-e in
    rowed_all a.m a.cells.now a.at a.apart a.k a.n l.e l.r (omega arith) l.invariant
