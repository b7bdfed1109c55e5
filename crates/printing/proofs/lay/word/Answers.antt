use mathlib.Core.Path.{◌≡◌, refl, ◌∙◌}
use Prim.Native.Nat.{◌+◌}
use lib.ListN.{length, length-set}
use lib.Seq.{take_all}
use Rattle.text.proofs.Puts.{none_put, then_put, as_put, one_put}
use Rattle.print.proofs.Puts.{take_more}
use native.Mathlib.Omega.{arith}
use Rattle.printing.proofs.lay.word.Goals as goal

pub loop-i-init : goal.loop-i-init
loop-i-init c = (refl, none_put _ _ (omega arith))

pub loop-i-preserved : goal.loop-i-preserved
loop-i-preserved c =
    let l = c.loop-i in
    let place : c.args.at + (l.i + 1) ≡ c.args.at + l.i + 1 = omega arith in
    (length-set l.out (c.args.at + l.i) _ ∙ l.invariant.0, rw place (as_put (take_more c.args.s.now l.i (omega arith)) (then_put l.invariant.1 (one_put _ _ _ (omega arith)))))

pub returns : goal.returns
returns c =
    let all : length c.args.s.now ≡ c.loop-i.i = omega arith in
    rw all (as_put (take_all c.loop-i.i c.args.s.now (omega arith)) c.loop-i.invariant.1)
