-- `violation::put_violation` meets its contract. Assumes nothing.
use mathlib.Core.Path.{◌∙◌}
use Rattle.text.proofs.Puts.{put_length}
use Rattle.lent.specs.Lending.{model_in}
use Rattle.violation.proofs.Lines.{violation_put}
use Rattle.violation.proofs.put_violation.Goals as goal

pub shape_of-out : goal.shape_of-out
shape_of-out c =
    put_length c.put_steps.ensures ∙ put_length c.put_first-next.ensures

pub returns : goal.returns
returns c =
    let a = c.args in
    violation_put (model_in a.m.now) a.whole a.rounds a.steps.now a.count c.min.ensures c.min-n.ensures
    c.put_first-next.ensures c.put_steps.ensures
