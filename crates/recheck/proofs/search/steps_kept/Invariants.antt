-- `recheck::search::steps_kept` meets its contract. The loop's invariant: the steps from the states before q are kept. Assumes nothing.
use mathlib.Core.Bool.{true}
use mathlib.Core.Path.{◌≡◌}
use Rattle.product.specs.Lists.{up_to, all}
use Rattle.lent.specs.Lending.{product_in}
use Rattle.table.specs.Looked.{held_in}
use Rattle.recheck.specs.Tests.{step_kept}
use Rattle.recheck.proofs.search.steps_kept.Given as goal

abbrev pub invariant-loop-q : goal.invariant-loop-q
invariant-loop-q l = all (step_kept (product_in l.m) l.table.size.states (held_in l.table) l.r l.v) (up_to l.q) ≡ true
