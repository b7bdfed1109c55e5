-- `table::read` meets its contract. Assumes nothing.
use Rattle.table.proofs.Places.{read_nowhere, read_past, read_cell}
use Rattle.table.proofs.read.Goals as goal

pub returns-then-cells-i : goal.returns-then-cells-i
returns-then-cells-i c = read_past c.args.cells.now c.in-Some.is c.if-cells-i.true

pub returns-in_default : goal.returns-in_default
returns-in_default c = read_nowhere c.args.cells.now c.in_default.is

pub returns : goal.returns
returns c = read_cell c.args.cells.now c.in-Some.is
