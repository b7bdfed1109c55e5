use mathlib.Core.Path.{ap}
use Rattle.bits.specs.declared.Ones.{Ones}
use Rattle.decide.proofs.Found.{left_first, low_taken, left_next, left_last}
use Rattle.decide.proofs.rounds.look.Goals as goal

pub loop-s-init : goal.loop-s-init
loop-s-init c = left_first (ap (λ (s : Ones). s.0) c.into_iter-s-iterator.ensures.into_iter_gives) c.requires.by_index

pub bounds-hd-s : goal.bounds-hd-s
bounds-hd-s c = low_taken c.in-Some.ensures.steps c.loop-s.invariant

pub loop-s-preserved : goal.loop-s-preserved
loop-s-preserved c = left_next c.in-Some.ensures.steps c.loop-s.invariant

pub returns : goal.returns
returns c = left_last c.in-None.ensures.steps.0 c.loop-s.invariant
