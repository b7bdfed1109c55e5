-- `decide::sets::collect` meets its contract. The loop's invariant: what is left to collect, with what is collected, makes what was asked. Assumes nothing.
use Rattle.decide.proofs.Choosing.{Left}
use Rattle.decide.proofs.sets.collect.Given as goal

abbrev pub invariant-loop-g : goal.invariant-loop-g
invariant-loop-g l = Left l.sets l.from l.places l.initial.w.words l.g-iterator.0 l.w.words
