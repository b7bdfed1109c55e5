-- `decide::build::final_states` meets its contract. The loop's invariant: the states before q are entered. Assumes nothing.
use Rattle.decide.proofs.Building.{FinalsTo}
use Rattle.lent.specs.Lending.{product_in}
use Rattle.decide.proofs.build.final_states.Given as goal

abbrev pub invariant-loop-q : goal.invariant-loop-q
invariant-loop-q l = FinalsTo (product_in l.m).final l.q l.r
