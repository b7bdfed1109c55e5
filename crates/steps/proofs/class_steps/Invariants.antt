-- `steps::class_steps` meets its contract. The loop's invariant: the classes before g have their matrices. Assumes nothing.
use Rattle.lent.specs.Lending.{model_in}
use Rattle.steps.proofs.Built.{Filled}
use Rattle.steps.proofs.class_steps.Given as goal

abbrev pub invariant-loop-g : goal.invariant-loop-g
invariant-loop-g l = Filled (model_in l.m) l.g l.tg
