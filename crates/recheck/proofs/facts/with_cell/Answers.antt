-- `recheck::facts::with_cell` meets its contract. Assumes nothing.
use Rattle.recheck.proofs.Matrices.{cell_absent, cell_present}
use Rattle.recheck.proofs.facts.with_cell.Goals as goal

pub returns-then-cell-eq-ABSENT : goal.returns-then-cell-eq-ABSENT
returns-then-cell-eq-ABSENT c = cell_absent c.args.m c.args.cell c.args.k c.if-cell-eq-ABSENT.true

pub returns : goal.returns
returns c = cell_present c.args.m c.args.cell c.args.k c.if-cell-eq-ABSENT.false c.requires
