-- `steps::eight` meets its contract. The loop's invariant: the truths before k are marked. Assumes nothing.
use mathlib.Core.Path.{◌≡◌}
use lib.Bits.{bit_and}
use Rattle.lent.specs.Lending.{model_in}
use Rattle.steps.specs.Events.{marks}
use Rattle.steps.proofs.eight.Given as goal

abbrev pub invariant-loop-k : goal.invariant-loop-k
invariant-loop-k l = bit_and l.w 72340172838076673 ≡ marks (model_in l.m).shows l.at l.k
