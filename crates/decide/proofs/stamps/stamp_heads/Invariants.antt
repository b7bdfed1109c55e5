-- `decide::stamps::stamp_heads` meets its contract. The loop's invariant: what is left to stamp, with the table as it is, makes what was asked. Assumes nothing.
use Rattle.decide.proofs.Stamped.{Left}
use Rattle.decide.specs.Stamp.{of_heads}
use Rattle.decide.proofs.stamps.stamp_heads.Given as goal

abbrev pub invariant-loop-q : goal.invariant-loop-q
invariant-loop-q l = Left of_heads l.size l.k l.g l.bits l.initial.heads l.q-iterator.0 l.heads
