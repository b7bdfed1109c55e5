-- `recheck::search::closed_by` meets its contract. Assumes nothing.
use Rattle.lent.specs.Lending.{model_in}
use Rattle.recheck.proofs.Rules.{by_matrices}
use Rattle.recheck.proofs.search.closed_by.Goals as goal

pub returns : goal.returns
returns c =
    let a = c.args in
    by_matrices (model_in a.m.now) a.tg.now a.ts.now a.hs.now a.r c.class_of-c.ensures.value c.rule_at.ensures c.rule_closed.ensures
