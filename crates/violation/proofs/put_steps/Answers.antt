use mathlib.Core.Path.{◌≡◌, ap}
use lib.ListN.{length}
use native.Mathlib.Omega.{arith}
use borrow.Author.Rules.{rules}
use Rattle.text.proofs.Puts.{none_put, as_put, put_length}
use Rattle.model.specs.declared.Shape.{Shape}
use Rattle.lent.specs.Lending.{model_in, product_in}
use Rattle.violation.proofs.Lines.{lines_none, more_put, state_more}
use Rattle.violation.proofs.put_steps.Goals as goal

pub loop-i-init : goal.loop-i-init
unfolding model_in
loop-i-init c = (search rules, ap (λ (s : Shape). s.startstate) c.shape-shape.ensures, as_put (lines_none _ _) (none_put _ _ c.place-next.ensures))

pub loop-i-preserved : goal.loop-i-preserved
loop-i-preserved c =
    let l = c.loop-i in
    let steps = c.args.steps.now in
    let p = product_in c.args.m.now in (
      c.state_after-q.ensures.upper_bound,
      state_more p steps l.i l.invariant.1 c.state_after-q.ensures.value,
      more_put p steps l.i l.invariant.1 c.state_after-q.ensures.value l.invariant.2 c.put_step-next.ensures,
    )

pub shape_of-out : goal.shape_of-out
shape_of-out c = put_length c.loop-i.invariant.2

pub returns : goal.returns
returns c =
    let e : c.loop-i.i ≡ length c.args.steps.now = omega arith in
    rw e at c.loop-i.invariant.2
