-- `recheck::search::open_move` meets its contract. Assumes nothing.
use mathlib.Core.Bool.{false}
use mathlib.Core.Path.{◌≡◌}
use borrow.Author.Rules.{rules}
use lib.Dec.{T}
use Rattle.lent.specs.Lending.{product_in}
use Rattle.product.proofs.Ranges.{first_below}
use Rattle.table.specs.Looked.{held_in}
use Rattle.recheck.specs.Tests.{steps_kept}
use Rattle.recheck.proofs.Rules.{open_if, kept_if}
use Rattle.recheck.proofs.search.open_move.Goals as goal

pub returns : goal.returns
returns c =
    let a = c.args in
    let p = steps_kept (product_in a.m.now) a.table.now.size.states (held_in a.table.now) a.r in
    first_below (λ v. p v ≡ false) (λ v. T (p v)) _ _ c.find.ensures.ran (λ x q k. open_if _ (search rules)) (λ x q k. (search rules, kept_if _ (search rules)))
