use Rattle.lent.specs.Lending.{product_in}
use mathlib.Core.Path.{sym, ap}
use Rattle.product.specs.Facts.{triple}
use Rattle.culprit.specs.Culprit.{goal_as, guilty}
use Rattle.culprit.proofs.First.{first_none, first_done}
use Rattle.culprit.proofs.Asked.{sought_more, sought_here}
use native.Mathlib.Omega.{arith}
use Rattle.culprit.proofs.some_triple.Goals as goal

pub loop-e-init : goal.loop-e-init
loop-e-init c = first_none _

pub returns-then-guilty : goal.returns-then-guilty
returns-then-guilty c =
    let a = c.args in
    let bad = guilty (product_in a.m.now).final a.table.now.size.symbols a.table.now.size.states a.table.now.heads.now a.table.now.triples.now in
    sym (ap goal_as (sought_here bad (triple a.s a.a) c.loop-e.e c.loop-e.invariant c.guilty.ensures a.table.now.size.states (omega arith) c.if-guilty.true))

pub loop-e-preserved : goal.loop-e-preserved
loop-e-preserved c =
    let a = c.args in
    let bad = guilty (product_in a.m.now).final a.table.now.size.symbols a.table.now.size.states a.table.now.heads.now a.table.now.triples.now in
    sought_more bad (triple a.s a.a) c.loop-e.e c.loop-e.invariant c.guilty.ensures c.if-guilty.false

pub returns : goal.returns
returns c = sym (ap goal_as (first_done _ _ _ (omega arith) (omega arith) c.loop-e.invariant))
