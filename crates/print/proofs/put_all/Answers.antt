use lib.Seq.{take_all}
use Rattle.text.proofs.Puts.{none_put, then_put, as_put, put_length}
use Rattle.print.proofs.Puts.{take_more}
use native.Mathlib.Omega.{arith}
use Rattle.print.proofs.put_all.Goals as goal

pub loop-b-init : goal.loop-b-init
loop-b-init c = none_put _ _ c.place-next.ensures

pub loop-b-preserved : goal.loop-b-preserved
loop-b-preserved c = as_put (take_more c.args.s.now c.loop-b.b-index (omega arith)) (then_put c.loop-b.invariant c.put-next.ensures)

pub shape_of-out : goal.shape_of-out
shape_of-out c = put_length c.loop-b.invariant

pub returns : goal.returns
returns c = as_put (take_all c.loop-b.b-index c.args.s.now (omega arith)) c.loop-b.invariant
