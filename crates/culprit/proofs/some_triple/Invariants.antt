-- `culprit::some_triple` meets its contract. The loop's invariant: nothing was found yet. Assumes nothing.
use Rattle.lent.specs.Lending.{product_in}
use mathlib.Core.Option.{none}
use mathlib.Core.Path.{◌≡◌}
use Rattle.product.specs.Facts.{triple}
use Rattle.culprit.specs.First.{first_of}
use Rattle.culprit.specs.Culprit.{if_guilty}
use Rattle.culprit.proofs.some_triple.Given as goal

abbrev pub invariant-loop-e : goal.invariant-loop-e
invariant-loop-e l = first_of (λ e. if_guilty (product_in l.m).final l.table.size.symbols l.table.size.states l.table.heads.now l.table.triples.now (triple l.s l.a e)) l.e ≡ none
