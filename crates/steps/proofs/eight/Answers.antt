use Prim.Native.Nat.{◌+◌}
use native.Mathlib.Omega.{arith}
use lib.ListN.{get_or}
use Rattle.lent.specs.Lending.{model_in}
use Rattle.lent.proofs.Parts.{in_truths}
use Rattle.steps.proofs.Marks.{marks_none, marks_more, marks_all}
use Rattle.steps.proofs.eight.Goals as goal

pub loop-k-init : goal.loop-k-init
loop-k-init c = marks_none (model_in c.args.m.now).shows c.args.at

pub loop-k-preserved : goal.loop-k-preserved
unfolding model_in
loop-k-preserved c =
    let a = c.args in
    let l = c.loop-k in
    let p = 1408 + a.at + l.k in
    let is = in_truths a.m.now 1408 512 (a.at + l.k) p (omega arith) (omega arith) in
    marks_more (model_in a.m.now).shows a.at l.k (get_or a.m.now p 0) l.w c.placed-w.result (omega arith) c.placed-w.ensures.b_bound l.invariant c.placed-w.ensures.value is

pub returns : goal.returns
returns c =
    let a = c.args in
    let l = c.loop-k in
    marks_all (model_in a.m.now).shows a.at l.k l.w (omega arith) l.invariant
