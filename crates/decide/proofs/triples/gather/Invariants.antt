-- `decide::triples::gather` meets its contract. The loop's invariant: what is left to gather, with the matrices as they are, makes what was asked. Assumes nothing.
use Rattle.decide.proofs.Gathered.{Left}
use Rattle.decide.proofs.triples.gather.Given as goal

abbrev pub invariant-loop-i : goal.invariant-loop-i
invariant-loop-i l = Left l.rules l.e l.fn.set.words l.initial.by l.i-iterator.left.words l.touched.words l.by
