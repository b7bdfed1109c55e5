-- `recheck::facts::triples_of_eight` meets its contract. The loop's invariant: the rows before q are in their places. Assumes nothing.
use Rattle.recheck.proofs.Matrices.{Matrixed}
use Rattle.recheck.proofs.facts.triples_of_eight.Given as goal

abbrev pub invariant-loop-q : goal.invariant-loop-q
invariant-loop-q l = Matrixed l.symbols 8 l.table.triples.now l.g l.q l.m
