-- `rows::take_triple` meets its contract. Assumes nothing.
use Rattle.rows.proofs.Steps.{begun_is, triple_passed, triple_ranked}
use Rattle.rows.proofs.take_triple.Goals as goal

pub returns-in_err-rank_triple : goal.returns-in_err-rank_triple
returns-in_err-rank_triple c =
    let a = c.args in
    triple_passed a.size a.tally.now a.n _ (rw (begun_is a.tally.now.begun c.from.ensures) at c.in_err-rank_triple.ensures) _ c.from_residual.ensures.1

pub returns : goal.returns
returns c =
    let a = c.args in
    triple_ranked a.size a.tally.now a.n (rw (begun_is a.tally.now.begun c.from.ensures) at c.in_ok-rank_triple.ensures)
