-- `kept::triples_pass` meets its contract. Assumes nothing.
use borrow.Author.Rules.{rules}
use Rattle.product.proofs.Ranges.{all_below}
use Rattle.table.specs.Looked.{held_in}
use Rattle.kept.specs.Kept.{triple_passes}
use Rattle.kept.proofs.triples_pass.Goals as goal

pub returns : goal.returns
returns c =
    let a = c.args in
    all_below (triple_passes (held_in a.table.now) a.leg.q a.leg.g a.leg.q2 a.leg.g1) c.all.ensures.ran (λ x b q k. (search rules, search rules))
