-- `closed::rule_closed` meets its contract. Assumes nothing.
use Rattle.closed.proofs.Told.{not_closed, closed_by}
use Rattle.closed.proofs.rule_closed.Goals as goal

pub returns-then-not-included : goal.returns-then-not-included
returns-then-not-included c = not_closed _ _ _ _ c.symbol-g.ensures c.erasing.ensures c.of_symbol.ensures c.included.ensures c.if-not-included.true

pub returns : goal.returns
returns c =
    closed_by _ _ _ _ c.symbol-g.ensures c.erasing.ensures c.of_symbol.ensures c.included.ensures c.if-not-included.false
    c.of_symbol-2.ensures c.through.ensures c.heads_there.ensures
