-- `lent::valid::rules_in` meets its contract. Assumes nothing.
use borrow.Author.Rules.{rules}
use Rattle.product.proofs.Ranges.{all_below}
use Rattle.model.specs.Valid.{rule_row_in}
use Rattle.lent.specs.Lending.{part}
use Rattle.lent.proofs.Parts.{as_read}
use Rattle.lent.proofs.valid.rules_in.Goals as goal

pub returns : goal.returns
returns c =
    let a = c.args in
    all_below (rule_row_in a.symbols (part 0 1024 a.m.now)) c.all.ensures.ran (λ x b q k. (search rules, search (rules, as_read a.m.now a.symbols x)))
