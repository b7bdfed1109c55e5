-- `decide::rounds::look` meets its contract. The loop's invariant: what is left to look at, with what was found, makes what was asked. Assumes nothing.
use Rattle.decide.proofs.Found.{Left}
use Rattle.decide.proofs.rounds.look.Given as goal

abbrev pub invariant-loop-s : goal.invariant-loop-s
invariant-loop-s l = Left l.fins l.changed l.hd l.e l.q l.g l.s-iterator.0 l.r
