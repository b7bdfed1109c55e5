-- `lent::has` meets its contract. Assumes nothing.
use mathlib.Core.Path.{◌∙◌}
use borrow.Author.Tests.{le-ltb}
use Rattle.lent.proofs.Parts.{no_rule, some_rule}
use Rattle.lent.proofs.has.Goals as goal

pub returns-then-r-s : goal.returns-then-r-s
returns-then-r-s c =
    let a = c.args in
    some_rule a.m.now a.r a.v c.shape-s.ensures c.if-r-s.true

pub returns-else-r-s : goal.returns-else-r-s
returns-else-r-s c =
    let a = c.args in
    le-ltb _ _ c.if-r-s.false ∙ no_rule a.m.now a.r a.v c.shape-s.ensures c.if-r-s.false
