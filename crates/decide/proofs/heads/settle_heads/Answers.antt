use mathlib.Core.Path.{ap}
use Rattle.bits.specs.declared.Ones.{Ones}
use Rattle.decide.proofs.Showing.{rows_first, rows_next, rows_last, rows_room, row_low, row_fits}
use Rattle.decide.proofs.heads.settle_heads.Goals as goal

pub loop-g-init : goal.loop-g-init
loop-g-init c = rows_first (ap (λ (s : Ones). s.0) c.into_iter-g-iterator.ensures.into_iter_gives) c.requires.rows_cover

pub bounds-nh-g : goal.bounds-nh-g
bounds-nh-g c = row_low c.in-Some.ensures.steps c.loop-g.invariant

pub take_heads-changed-requires : goal.take_heads-changed-requires
take_heads-changed-requires c =
    let t = c.in-Some.ensures.steps in
    let l = c.loop-g.invariant in
    record { room = rows_room t l c.requires.room; fits = row_fits t l c.requires.rows_fit }

pub bounds-nh-g-in-loop-g : goal.bounds-nh-g-in-loop-g
bounds-nh-g-in-loop-g c = row_low c.in-Some.ensures.steps c.loop-g.invariant

pub loop-g-preserved : goal.loop-g-preserved
loop-g-preserved c = rows_next c.in-Some.ensures.steps c.loop-g.invariant c.take_heads-changed.ensures

pub shape_of-heads : goal.shape_of-heads
shape_of-heads c = c.loop-g.invariant.took.table.as_long

pub returns : goal.returns
returns c = rows_last c.in-None.ensures.steps.0 c.loop-g.invariant
