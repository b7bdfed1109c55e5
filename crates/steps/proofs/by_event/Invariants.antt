-- `steps::by_event` meets its contract. The loop's invariant: the moves before v are entered. Assumes nothing.
use Rattle.lent.specs.Lending.{model_in}
use Rattle.steps.proofs.Events.{Entered}
use Rattle.steps.proofs.by_event.Given as goal

abbrev pub invariant-loop-v : goal.invariant-loop-v
invariant-loop-v l = Entered (model_in l.m) l.v l.on
