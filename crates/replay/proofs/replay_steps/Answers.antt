-- `replay::replay_steps` meets its contract: the record is tested, then the room, and after a run the cells are cleared. Assumes nothing.
use Rattle.lent.specs.Lending.{model_in}
use Rattle.replay.proofs.Answers.{invalid, short, runs, ran}
use Rattle.replay.proofs.replay_steps.Goals as goal

pub returns-then-not-is_valid : goal.returns-then-not-is_valid
returns-then-not-is_valid c =
    let a = c.args in
    invalid (model_in a.m.now) a.steps.now a.stack.now c.is_valid.ensures c.if-not-is_valid.true

pub returns-then-stack-steps : goal.returns-then-stack-steps
returns-then-stack-steps c =
    let a = c.args in
    short (model_in a.m.now) a.steps.now a.stack.now c.is_valid.ensures c.if-not-is_valid.false c.if-stack-steps.true

pub run-answer-requires : goal.run-answer-requires
run-answer-requires c =
    let a = c.args in
    runs (model_in a.m.now) a.steps.now a.stack.now c.is_valid.ensures c.if-not-is_valid.false c.if-stack-steps.false

pub returns : goal.returns
returns c =
    let a = c.args in
    ran (model_in a.m.now) a.steps.now a.stack.now c.is_valid.ensures c.if-not-is_valid.false c.if-stack-steps.false _ _ _ c.run-answer.ensures c.clear.ensures
