use mathlib.Core.Path.{ap}
use native.Mathlib.Omega.{arith}
use Rattle.decide.specs.declared.sets.NumberSet.{NumberSet}
use Rattle.decide.proofs.Settling.{left_first, left_next, left_last, left_room}
use Rattle.decide.proofs.triples.settle_all.Goals as goal

pub loop-c-init : goal.loop-c-init
loop-c-init c = left_first (ap (λ (s : NumberSet). s.words) c.into_iter-c-iterator.ensures.into_iter_gives) (omega arith)

pub settle-changed-requires : goal.settle-changed-requires
settle-changed-requires c = record { c_bound = c.in-Some.ensures.steps.small; room = left_room c.loop-c.invariant c.requires.room; fits = c.requires.all_fit _ }

pub loop-c-preserved : goal.loop-c-preserved
loop-c-preserved c = left_next c.in-Some.ensures.steps c.loop-c.invariant c.settle-changed.ensures

pub shape_of-triples : goal.shape_of-triples
shape_of-triples c = c.loop-c.invariant.took.table.as_long

pub returns : goal.returns
returns c = left_last c.in-None.ensures.steps c.loop-c.invariant
