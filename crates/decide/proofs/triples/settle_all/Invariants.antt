-- `decide::triples::settle_all` meets its contract. The loop's invariant: what is left to settle, with what is done, makes what was asked. Assumes nothing.
use Rattle.decide.proofs.Settling.{Left}
use Rattle.decide.proofs.triples.settle_all.Given as goal

abbrev pub invariant-loop-c : goal.invariant-loop-c
invariant-loop-c l = Left l.size l.k l.fn.touched.words l.tg l.by l.initial.e l.initial.triples l.c-iterator.left.words l.changed l.e l.triples
