-- `steps::states_after` meets its contract. Assumes nothing.
use Rattle.lent.specs.Lending.{model_in}
use Rattle.steps.proofs.Built.{is_after}
use Rattle.steps.proofs.states_after.Goals as goal

pub returns : goal.returns
returns c = is_after (model_in c.args.m.now) c.args.tg.now c.args.r c.args.from c.class_of-c.ensures.value c.through.ensures
