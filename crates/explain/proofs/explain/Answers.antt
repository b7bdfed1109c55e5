-- `explain::explain` meets its contract. Assumes nothing.
use Rattle.table.specs.Looked.{ranks_in}
use Rattle.explain.specs.Answers.{search_in}
use Rattle.explain.proofs.Tried.{asked_ranked}
use Rattle.explain.proofs.explain.Goals as goal

pub returns : goal.returns
returns c =
    let a = c.args in
    asked_ranked (search_in a.m.now a.table.now a.n) (ranks_in a.table.now) c.in_ok-d.was c.rank_at-k.ensures c.if-k-eq0.false c.first_cause.ensures
