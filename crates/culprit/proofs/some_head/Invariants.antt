-- `culprit::some_head` meets its contract. The invariants are those of a search: nothing was found yet. Assumes nothing.
use Rattle.lent.specs.Lending.{product_in}
use mathlib.Core.Option.{none}
use mathlib.Core.Path.{◌≡◌}
use Rattle.product.specs.Facts.{head}
use Rattle.culprit.specs.First.{first_of}
use Rattle.culprit.specs.Culprit.{if_guilty, head_of}
use Rattle.culprit.proofs.some_head.Given as goal

abbrev pub invariant-loop-g : goal.invariant-loop-g
invariant-loop-g l = first_of (λ g. if_guilty (product_in l.m).final l.table.size.symbols l.table.size.states l.table.heads.now l.table.triples.now (head l.q g)) l.g ≡ none

abbrev pub invariant-loop-q : goal.invariant-loop-q
invariant-loop-q l = first_of (head_of (product_in l.m).final l.table.size.symbols l.table.size.states l.table.heads.now l.table.triples.now) l.q ≡ none
