-- `recheck::search::open_rule` meets its contract. Assumes nothing.
use mathlib.Core.Bool.{false}
use mathlib.Core.Path.{◌≡◌}
use borrow.Author.Rules.{rules}
use lib.Dec.{T}
use Rattle.lent.specs.Lending.{model_in}
use Rattle.product.proofs.Ranges.{first_below}
use Rattle.recheck.specs.Tests.{closed_by}
use Rattle.recheck.proofs.Rules.{open_if, kept_if}
use Rattle.recheck.proofs.search.open_rule.Goals as goal

pub returns : goal.returns
returns c =
    let a = c.args in
    let p = closed_by (model_in a.m.now) a.tg.now a.ts.now a.hs.now in
    first_below (λ r. p r ≡ false) (λ r. T (p r)) _ _ c.find.ensures.ran (λ x q k. open_if _ (search rules)) (λ x q k. (search rules, kept_if _ (search rules)))
