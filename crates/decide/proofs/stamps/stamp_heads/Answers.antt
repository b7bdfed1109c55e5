use mathlib.Core.Path.{ap}
use Rattle.product.specs.Facts.{head}
use Rattle.table.proofs.Places.{fact_put}
use Rattle.bits.specs.declared.Ones.{Ones}
use Rattle.decide.proofs.Stamped.{left_first, heads_next, heads_last}
use Rattle.decide.proofs.stamps.stamp_heads.Goals as goal

pub loop-q-init : goal.loop-q-init
loop-q-init c = left_first _ _ _ _ _ _ (ap (λ (s : Ones). s.0) c.into_iter-q-iterator.ensures.into_iter_gives)

pub loop-q-preserved : goal.loop-q-preserved
loop-q-preserved c =
    let a = c.args in
    let stored = fact_put a.size.symbols a.size.states _ (head c.in-Some.q a.g) c.place_of-place.ensures _ c.put.ensures in
    heads_next _ _ _ _ _ c.requires _ _ c.in-Some.ensures.steps c.loop-q.invariant stored

pub returns : goal.returns
returns c = heads_last _ _ _ _ _ c.requires _ _ c.in-None.ensures.steps.0 c.loop-q.invariant
