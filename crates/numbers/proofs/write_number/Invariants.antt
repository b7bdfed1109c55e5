-- `write_number` meets its contract, by the invariant `Turn`; what is left of the number falls. Assumes nothing.
use Rattle.numbers.proofs.Decimals.{Turn}
use Rattle.numbers.proofs.write_number.Given as goal

abbrev pub invariant-loop-left : goal.invariant-loop-left
invariant-loop-left l = Turn l.n l.d l.left

abbrev pub decreases-loop-left : goal.decreases-loop-left
decreases-loop-left l = l.left
