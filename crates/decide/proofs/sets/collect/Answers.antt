use mathlib.Core.Path.{ap}
use native.Mathlib.Omega.{arith}
use Rattle.bits.specs.declared.Ones.{Ones}
use Rattle.decide.proofs.Choosing.{left_first, low_taken, left_next, left_last}
use Rattle.decide.proofs.sets.collect.Goals as goal

pub loop-g-init : goal.loop-g-init
loop-g-init c = left_first (ap (λ (s : Ones). s.0) c.into_iter-g-iterator.ensures.into_iter_gives) c.requires.by_index (omega arith)

pub join-requires : goal.join-requires
join-requires c = omega (arith, low_taken c.in-Some.ensures.steps c.loop-g.invariant)

pub loop-g-preserved : goal.loop-g-preserved
loop-g-preserved c = left_next c.in-Some.ensures.steps c.loop-g.invariant c.join.ensures

pub returns : goal.returns
returns c = left_last c.in-None.ensures.steps.0 c.loop-g.invariant
