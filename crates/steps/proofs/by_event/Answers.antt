use native.Mathlib.Omega.{arith}
use Rattle.lent.specs.Lending.{model_in}
use Rattle.steps.proofs.Events.{entered_none, entered_more, entered_all}
use Rattle.steps.proofs.by_event.Goals as goal

pub loop-v-init : goal.loop-v-init
loop-v-init c = entered_none (model_in c.args.m.now)

pub loop-v-preserved : goal.loop-v-preserved
loop-v-preserved c =
    let l = c.loop-v in
    entered_more (model_in c.args.m.now) l.v l.on _ c.move_at-by.ensures.value l.invariant c.put_move.ensures

pub returns : goal.returns
returns c =
    let l = c.loop-v in
    entered_all (model_in c.args.m.now) l.v _ l.on (omega arith) l.invariant
