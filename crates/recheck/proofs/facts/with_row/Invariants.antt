-- `recheck::facts::with_row` meets its contract. The loop's invariant: the cells before e are set. Assumes nothing.
use Rattle.recheck.proofs.Matrices.{Rowed}
use Rattle.recheck.proofs.facts.with_row.Given as goal

abbrev pub invariant-loop-e : goal.invariant-loop-e
invariant-loop-e l = Rowed l.m l.cells l.at l.apart l.k l.e l.r
