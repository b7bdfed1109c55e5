use mathlib.Core.Path.{ap}
use native.Mathlib.Omega.{arith}
use Rattle.bits.specs.declared.Ones.{Ones}
use Rattle.steps.proofs.Marks.{left_first, left_next, left_last}
use Rattle.steps.proofs.join.Goals as goal

pub loop-i-init : goal.loop-i-init
loop-i-init c = let a = c.args in left_first a.on.now a.from a.w a.m (ap (λ (s : Ones). s.0) c.into_iter-i-iterator.ensures.into_iter_gives)

pub bounds-on-from : goal.bounds-on-from
bounds-on-from c = omega (arith, c.in-Some.ensures.steps.below)

pub loop-i-preserved : goal.loop-i-preserved
loop-i-preserved c =
    let a = c.args in
    let l = c.loop-i in
    left_next a.on.now a.from a.w a.m l.i-iterator.0 l.r c.in-Some.ensures.steps l.invariant

pub returns : goal.returns
returns c =
    let a = c.args in
    let l = c.loop-i in
    left_last a.on.now a.from a.w a.m l.i-iterator.0 l.r c.in-None.ensures.steps.0 l.invariant
