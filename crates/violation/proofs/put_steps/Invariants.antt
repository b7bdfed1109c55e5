-- `violation::put_steps` meets its contract. The loop's invariant: the lines of the first i steps are put, and q is the state after them. Assumes nothing.
use mathlib.Core.Path.{◌≡◌}
use Prim.Native.Nat.{◌≤◌}
use Rattle.text.specs.Put.{Put}
use Rattle.lent.specs.Lending.{product_in}
use Rattle.violation.specs.Bytes.{state_after, step_lines}
use Rattle.violation.proofs.put_steps.Given as goal

abbrev pub invariant-loop-i : goal.invariant-loop-i
invariant-loop-i l =
    (l.q ≤ 255) × (l.q ≡ state_after (product_in l.m) l.steps l.i) × Put l.initial.out l.out l.at l.next (step_lines (product_in l.m) l.steps l.i)
