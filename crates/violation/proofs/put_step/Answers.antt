-- `violation::put_step` meets its contract. Assumes nothing.
use Rattle.text.proofs.Puts.{put_length}
use Rattle.lent.specs.Lending.{product_in}
use Rattle.violation.proofs.Lines.{step_put}
use Rattle.violation.proofs.put_step.Goals as goal

pub shape_of-out : goal.shape_of-out
shape_of-out c = put_length c.put_by.ensures

pub returns : goal.returns
returns c =
    let a = c.args in
    step_put (product_in a.m.now) a.number a.step a.state c.rule_at-rule.ensures c.put_by.ensures
