-- `violation::state_after` meets its contract: the state that was answered, and q where none was. Assumes nothing.
use mathlib.Core.Path.{◌∙◌}
use Rattle.lent.specs.Lending.{product_in}
use Rattle.violation.proofs.Lines.{asked, in_byte}
use Rattle.violation.proofs.state_after.Goals as goal

pub returns : goal.returns
returns c =
    let a = c.args in
    let n = c.next_state-next in
    record {
      value = c.unwrap_or.ensures ∙ asked (product_in a.m.now) a.step a.q n.ensures.value;
      upper_bound = rw c.unwrap_or.ensures (in_byte n.result n.ensures.in_byte c.requires);
    }
