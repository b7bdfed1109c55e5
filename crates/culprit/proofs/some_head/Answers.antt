use Rattle.lent.specs.Lending.{product_in}
use mathlib.Core.Path.{sym, ap}
use Rattle.product.specs.Facts.{head}
use Rattle.culprit.specs.Culprit.{goal_as, guilty}
use Rattle.culprit.proofs.First.{first_none, first_more, first_here, first_done}
use Rattle.culprit.proofs.Asked.{sought_more, sought_here}
use native.Mathlib.Omega.{arith}
use Rattle.culprit.proofs.some_head.Goals as goal

pub loop-q-init : goal.loop-q-init
loop-q-init c = first_none _

pub loop-g-init : goal.loop-g-init
loop-g-init c = first_none _

pub loop-g-preserved : goal.loop-g-preserved
loop-g-preserved c =
    let a = c.args in
    let bad = guilty (product_in a.m.now).final a.table.now.size.symbols a.table.now.size.states a.table.now.heads.now a.table.now.triples.now in
    sought_more bad (head c.loop-q.q) c.loop-g.g c.loop-g.invariant c.guilty.ensures c.if-guilty.false

pub loop-q-preserved : goal.loop-q-preserved
loop-q-preserved c = first_more _ _ c.loop-q.invariant (first_done _ _ _ (omega arith) (omega arith) c.loop-g.invariant)

pub returns : goal.returns
returns c = sym (ap goal_as (first_done _ _ _ (omega arith) (omega arith) c.loop-q.invariant))

pub returns-then-guilty : goal.returns-then-guilty
returns-then-guilty c =
    let a = c.args in
    let bad = guilty (product_in a.m.now).final a.table.now.size.symbols a.table.now.size.states a.table.now.heads.now a.table.now.triples.now in
    let here = sought_here bad (head c.loop-q.q) c.loop-g.g c.loop-g.invariant c.guilty.ensures a.table.now.size.symbols (omega arith) c.if-guilty.true in
    sym (ap goal_as (first_here _ _ _ _ (omega arith) c.loop-q.invariant here))
