-- `decide::sets::NumberSet::join` meets its contract. The loop's invariant: the first k words are joined. Assumes nothing.
use Rattle.decide.proofs.Members.{JoinedTo}
use Rattle.decide.proofs.sets.NumberSet.join.Given as goal

abbrev pub invariant-loop-k : goal.invariant-loop-k
invariant-loop-k l = JoinedTo l.initial.self.words l.sets l.s l.k l.self.words
