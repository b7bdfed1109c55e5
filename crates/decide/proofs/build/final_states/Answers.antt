use Rattle.decide.proofs.Building.{finals_none, finals_more, finals_all}
use Rattle.lent.specs.Lending.{product_in}
use native.Mathlib.Omega.{arith}
use Rattle.decide.proofs.build.final_states.Goals as goal

pub loop-q-init : goal.loop-q-init
loop-q-init c = finals_none (product_in c.args.m.now).final

pub loop-q-preserved : goal.loop-q-preserved
loop-q-preserved c = finals_more (product_in c.args.m.now).final c.loop-q.q c.loop-q.r c.if_final-r.result c.loop-q.invariant c.if_final-r.ensures

pub returns : goal.returns
returns c = finals_all (product_in c.args.m.now).final c.loop-q.q 8 _ (omega arith) c.loop-q.invariant
