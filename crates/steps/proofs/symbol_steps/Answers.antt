-- `steps::symbol_steps` meets its contract. Assumes nothing.
use Rattle.lent.specs.Lending.{model_in}
use Rattle.steps.proofs.Marks.{joined_shown}
use Rattle.steps.proofs.symbol_steps.Goals as goal

pub returns : goal.returns
returns c =
    let a = c.args in
    joined_shown a.on.now (model_in a.m.now).shows a.g _ _ c.eight.ensures c.eight-2.ensures c.join-half.ensures c.join.ensures
