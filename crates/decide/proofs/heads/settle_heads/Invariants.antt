-- `decide::heads::settle_heads` meets its contract. The loop's invariant: what is left to settle, with what is done, makes what was asked. Assumes nothing.
use Rattle.decide.proofs.Showing.{RowsLeft}
use Rattle.decide.proofs.heads.settle_heads.Given as goal

abbrev pub invariant-loop-g : goal.invariant-loop-g
invariant-loop-g l = RowsLeft l.size l.k l.initial.nh l.initial.hd l.initial.heads l.g-iterator.0 l.changed l.nh l.hd l.heads
