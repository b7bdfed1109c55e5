use Rattle.lent.specs.Lending.{product_in}
use Rattle.table.specs.Places.{fact_of}
use Rattle.table.specs.Looked.{ranks_in}
use Rattle.explain.specs.Search.{lower}
use Rattle.culprit.proofs.First.{first_none, first_more, first_done}
use Rattle.explain.proofs.Tried.{found_none, search_here}
use Prim.Native.Nat.{suc}
use native.Mathlib.Omega.{arith}
use Rattle.explain.proofs.first_cause.Goals as goal

pub loop-r-init : goal.loop-r-init
loop-r-init c = first_none _

pub loop-v-init : goal.loop-v-init
loop-v-init c = first_none _

pub loop-x-init : goal.loop-x-init
loop-x-init c = first_none _

pub loop-v-preserved : goal.loop-v-preserved
loop-v-preserved c = first_more _ _ c.loop-v.invariant (first_done _ _ _ (omega arith) (omega arith) c.loop-x.invariant)

pub loop-r-preserved : goal.loop-r-preserved
loop-r-preserved c = first_more _ _ c.loop-r.invariant (first_done _ _ _ (omega arith) (omega arith) c.loop-v.invariant)

pub loop-x-preserved : goal.loop-x-preserved
loop-x-preserved c = first_more _ _ c.loop-x.invariant (found_none _ c.tried.ensures c.in_default.is)

pub returns-in-Some : goal.returns-in-Some
returns-in-Some c =
    let a = c.args in
    let h = lower (ranks_in a.table.now) (suc a.k) in
    search_here (product_in a.m.now) h (fact_of a.f) a.n.rules a.n.moves a.table.now.size.states c.loop-r.r c.loop-v.v c.loop-x.x
    (omega arith) c.loop-r.invariant (omega arith) c.loop-v.invariant (omega arith) c.loop-x.invariant c.tried.ensures c.in-Some.is
