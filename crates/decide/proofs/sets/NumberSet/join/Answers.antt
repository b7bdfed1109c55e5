use Rattle.decide.proofs.Members.{joined_none, joined_more, joined_all}
use native.Mathlib.Omega.{arith}
use Rattle.decide.proofs.sets.NumberSet.join.Goals as goal

pub loop-k-init : goal.loop-k-init
loop-k-init c = joined_none (omega arith)

pub loop-k-preserved : goal.loop-k-preserved
loop-k-preserved c = joined_more (omega arith) c.loop-k.invariant

pub returns : goal.returns
returns c = joined_all (omega arith) c.loop-k.invariant
