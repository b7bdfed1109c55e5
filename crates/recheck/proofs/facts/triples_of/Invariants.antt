-- `recheck::facts::triples_of` meets its contract. The loop's invariant: the rows before q are set. Assumes nothing.
use Rattle.recheck.proofs.Matrices.{Matrixed}
use Rattle.recheck.proofs.facts.triples_of.Given as goal

abbrev pub invariant-loop-q : goal.invariant-loop-q
invariant-loop-q l = Matrixed l.symbols l.states l.table.triples.now l.g l.q l.m
