-- `decide::start` meets its contract. Assumes nothing.
use Rattle.product.specs.Facts.{head}
use Rattle.table.proofs.Places.{fact_put}
use Rattle.decide.proofs.Starting.{started_is}
use Rattle.decide.proofs.start.Goals as goal

pub returns : goal.returns
returns c =
    let a = c.args in
    started_is _ _ _ _ _ c.head_count.ensures c.triple_count.ensures c.clear.new.cells c.clear.ensures c.clear-2.ensures
    (fact_put a.size.symbols a.size.states _ (head a.q a.g) c.place_of-place.ensures _ c.put.ensures)
