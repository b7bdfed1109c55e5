-- `kept::next_kept` meets its contract: there is no step, or its rule decides. Assumes nothing.
use Rattle.model.specs.Answers.{meant}
use Rattle.table.specs.Looked.{held_in}
use Rattle.kept.proofs.Ways.{kept_stuck, kept_to}
use Rattle.kept.proofs.next_kept.Goals as goal

pub returns-in-None : goal.returns-in-None
returns-in-None c =
    let a = c.args in
    kept_stuck a.table.now.size.states (held_in a.table.now) a.q (meant a.rule) c.in-None.is

pub returns-in-Some : goal.returns-in-Some
returns-in-Some c =
    let a = c.args in
    kept_to a.table.now.size.states (held_in a.table.now) a.q (meant a.rule) c.in-Some.q2 c.in-Some.is c.rule_kept.ensures
