-- `steps::join` meets its contract. The loop's invariant: what is left, with what is joined, makes what was asked. Assumes nothing.
use Rattle.steps.proofs.Marks.{Left}
use Rattle.steps.proofs.join.Given as goal

abbrev pub invariant-loop-i : goal.invariant-loop-i
invariant-loop-i l = Left l.on l.from l.w l.m l.i-iterator.0 l.r
