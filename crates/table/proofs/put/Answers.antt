-- `table::put` meets its contract. Assumes nothing.
use Rattle.table.proofs.Places.{put_nowhere, put_past, put_cell}
use Rattle.table.proofs.put.Goals as goal

pub returns-in_default : goal.returns-in_default
returns-in_default c = put_nowhere c.args.cells.now c.args.n c.in_default.is

pub returns-then-i-cells : goal.returns-then-i-cells
returns-then-i-cells c = put_cell c.args.cells.now c.in-Some.is c.args.n

pub returns-else-i-cells : goal.returns-else-i-cells
returns-else-i-cells c = put_past c.args.cells.now c.in-Some.is c.args.n c.if-i-cells.false
