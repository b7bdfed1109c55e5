-- `replay::run` meets its contract. The loop's invariant is `Doing`: what is left to replay, from where the machine stands, gives what was asked.
-- Assumes nothing.
use Rattle.lent.specs.Lending.{model_in}
use Rattle.replay.proofs.Running.{Doing}
use Rattle.replay.proofs.run.Given as goal

abbrev pub invariant-loop-k : goal.invariant-loop-k
invariant-loop-k l = Doing (model_in l.m) l.steps l.initial.stack l.k l.at l.accepting l.stack
