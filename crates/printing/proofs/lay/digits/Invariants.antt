-- `printing::lay::digits` meets its contract, by the invariant `Filled`; what is left of the number falls. Assumes nothing.
use mathlib.Core.Path.{◌≡◌}
use Prim.Native.Nat.{◌≤◌}
use lib.ListN.{length}
use Rattle.printing.proofs.Digits.{Filled}
use Rattle.printing.proofs.lay.digits.Given as goal

abbrev pub invariant-loop-left : goal.invariant-loop-left
invariant-loop-left l = (l.i ≤ l.end) × (length l.out ≡ length l.initial.out) × Filled l.initial.out l.out l.at l.n l.i l.left

abbrev pub decreases-loop-left : goal.decreases-loop-left
decreases-loop-left l = l.left
