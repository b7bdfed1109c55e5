-- `lent::valid::moves_in` meets its contract. Assumes nothing.
use borrow.Author.Rules.{rules}
use Rattle.product.proofs.Ranges.{all_below}
use Rattle.model.specs.Valid.{move_row_in}
use Rattle.lent.specs.Lending.{part}
use Rattle.lent.proofs.valid.moves_in.Goals as goal

pub returns : goal.returns
returns c =
    let a = c.args in
    all_below (move_row_in a.states a.events (part 1024 384 a.m.now)) c.all.ensures.ran (λ x b q k. (search rules, search rules))
