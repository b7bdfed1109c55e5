use mathlib.Core.Path.{ap}
use lib.ListN.{length}
use native.Mathlib.Omega.{arith}
use Rattle.decide.specs.declared.sets.NumberSet.{NumberSet}
use Rattle.decide.proofs.Gathered.{left_first, left_next, left_last}
use Rattle.decide.proofs.triples.gather.Goals as goal

pub loop-i-init : goal.loop-i-init
loop-i-init c = left_first (ap (λ (s : NumberSet). s.words) c.into_iter-i-iterator.ensures.into_iter_gives) (omega arith) c.requires (ap length c.empty-touched.ensures)

pub visit-requires : goal.visit-requires
visit-requires c = record { i_bound = c.in-Some.ensures.steps.small; by_len = c.loop-i.invariant.by_long }

pub loop-i-preserved : goal.loop-i-preserved
loop-i-preserved c = left_next c.in-Some.ensures.steps c.loop-i.invariant c.visit.ensures

pub returns : goal.returns
returns c = left_last c.in-None.ensures.steps c.loop-i.invariant
