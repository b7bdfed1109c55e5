-- `replay::goes` meets its contract: the tests in their order. Assumes nothing.
use Rattle.product.specs.Product.{loaded}
use Rattle.lent.specs.Lending.{product_in}
use Rattle.replay.proofs.Going.{other_top, its_top}
use Rattle.replay.proofs.goes.Goals as goal

pub returns-then-not-replaces : goal.returns-then-not-replaces
returns-then-not-replaces c =
    let a = c.args in
    other_top (product_in a.m.now) (loaded a.n) a.q a.g c.rule_at.ensures c.replaces.ensures c.if-not-replaces.true

pub returns : goal.returns
returns c =
    let a = c.args in
    its_top (product_in a.m.now) (loaded a.n) a.q a.g c.rule_at.ensures c.replaces.ensures c.if-not-replaces.false c.next_state.ensures.value
