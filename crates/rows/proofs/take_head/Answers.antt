-- `rows::take_head` meets its contract. Assumes nothing.
use Rattle.rows.proofs.Steps.{begun_is, head_passed, head_ranked}
use Rattle.rows.proofs.take_head.Goals as goal

pub returns-in_err-rank_head : goal.returns-in_err-rank_head
returns-in_err-rank_head c =
    let a = c.args in
    head_passed a.size a.tally.now a.n _ (rw (begun_is a.tally.now.begun c.from.ensures) at c.in_err-rank_head.ensures) _ c.from_residual.ensures.1

pub returns : goal.returns
returns c =
    let a = c.args in
    head_ranked a.size a.tally.now a.n (rw (begun_is a.tally.now.begun c.from.ensures) at c.in_ok-rank_head.ensures)
