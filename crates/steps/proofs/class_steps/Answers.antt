use mathlib.Core.Path.{ap, ◌∙◌}
use Prim.Native.Nat.{min}
use native.Mathlib.Omega.{arith}
use Rattle.model.specs.declared.Shape.{Shape}
use Rattle.lent.specs.Lending.{model_in}
use Rattle.steps.specs.Events.{event_steps}
use Rattle.steps.proofs.Built.{filled_none, filled_more, filled_all, symbol_is}
use Rattle.steps.proofs.class_steps.Goals as goal

pub loop-g-init : goal.loop-g-init
loop-g-init c = filled_none (model_in c.args.m.now)

pub loop-g-preserved : goal.loop-g-preserved
unfolding model_in
loop-g-preserved c =
    let m = model_in c.args.m.now in
    let l = c.loop-g in
    let on-is = c.by_event-on.ensures ∙ ap (λ (s : Shape). event_steps m s.moves) c.shape-shape.ensures in
    filled_more m l.g l.tg _ (omega arith) l.invariant (symbol_is m l.g _ on-is c.symbol_steps.ensures)

pub returns : goal.returns
unfolding model_in
returns c =
    let l = c.loop-g in
    let all = ap (λ (s : Shape). min s.symbols 32) c.shape-shape.ensures in
    filled_all (model_in c.args.m.now) l.g l.tg (omega arith) l.invariant
