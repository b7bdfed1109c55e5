-- `recheck::facts::row_of_eight` meets its contract. The loop's invariant: the cells before e are set. Assumes nothing.
use Rattle.recheck.proofs.Matrices.{Rowed}
use Rattle.recheck.proofs.facts.row_of_eight.Given as goal

abbrev pub invariant-loop-e : goal.invariant-loop-e
invariant-loop-e l = Rowed 0 l.cells l.at 1 0 l.e l.r
