use mathlib.Core.Path.{ap}
use native.Mathlib.Omega.{arith}
use Rattle.decide.specs.declared.sets.NumberSet.{NumberSet}
use Rattle.decide.proofs.Showing.{left_first, left_next, left_last}
use Rattle.decide.proofs.heads.show_all.Goals as goal

pub loop-i-init : goal.loop-i-init
loop-i-init c = left_first (ap (λ (s : NumberSet). s.words) c.into_iter-i-iterator.ensures.into_iter_gives) (omega arith) c.requires

pub show-touched-requires : goal.show-touched-requires
show-touched-requires c = record { i_bound = c.in-Some.ensures.steps.small; nh_len = c.loop-i.invariant.covers.long }

pub loop-i-preserved : goal.loop-i-preserved
loop-i-preserved c = left_next c.in-Some.ensures.steps c.loop-i.invariant c.show-touched.ensures

pub returns : goal.returns
returns c = left_last c.in-None.ensures.steps c.loop-i.invariant
