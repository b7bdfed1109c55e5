-- `print::put` meets its contract. Assumes nothing.
use Rattle.text.proofs.Puts.{one_put, one_past}
use native.Mathlib.Omega.{arith}
use Rattle.print.proofs.put.Goals as goal

pub returns-then-out-at : goal.returns-then-out-at
returns-then-out-at c = one_past _ _ _ c.if-out-at.true

pub returns : goal.returns
returns c = one_put _ _ _ (omega arith)
