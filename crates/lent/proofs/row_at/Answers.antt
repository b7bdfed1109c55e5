-- `lent::row_at` meets its contract. Assumes nothing.
use Rattle.lent.proofs.Parts.{no_row, row_cells}
use Rattle.lent.proofs.row_at.Goals as goal

pub returns-then-r-ge256 : goal.returns-then-r-ge256
returns-then-r-ge256 c = let a = c.args in no_row a.m.now a.r c.if-r-ge256.true

pub returns : goal.returns
returns c =
    let a = c.args in
    row_cells a.m.now a.r c.if-r-ge256.false
