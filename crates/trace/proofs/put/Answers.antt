-- `trace::put` meets its contract. Assumes nothing.
use native.Mathlib.Omega.{arith}
use Rattle.text.proofs.Puts.{one_past, one_put}
use Rattle.trace.proofs.put.Goals as goal

pub returns-then-room-at : goal.returns-then-room-at
returns-then-room-at c = one_past _ _ _ c.if-room-at.true

pub returns : goal.returns
returns c = one_put _ _ _ (omega arith)
