use mathlib.Core.Path.{refl, ◌∙◌}
use Prim.Native.Nat.{◌-◌}
use lib.ListN.{length-set}
use Rattle.numbers.proofs.Back.{decimal_length}
use Rattle.printing.proofs.Digits.{none_filled, filled_room, filled_next, filled_put}
use native.Mathlib.Omega.{arith}
use Rattle.printing.proofs.lay.digits.Goals as goal

pub overflow_add-end : goal.overflow_add-end
overflow_add-end c = omega (arith, (decimal_length c.args.n (omega arith)).1)

pub loop-left-init : goal.loop-left-init
loop-left-init c = (omega arith, refl, none_filled _ _ _ (omega arith) (omega arith))

pub overflow_sub-i : goal.overflow_sub-i
overflow_sub-i c = filled_room c.loop-left.invariant.2 c.loop-left-test.true

pub bounds-out-i : goal.bounds-out-i
bounds-out-i c = omega (arith, (decimal_length c.args.n (omega arith)).1, filled_room c.loop-left.invariant.2 c.loop-left-test.true)

pub loop-left-preserved : goal.loop-left-preserved
loop-left-preserved c = let l = c.loop-left in (omega arith, length-set l.out (l.i - 1) _ ∙ l.invariant.1, filled_next l.invariant.2 c.loop-left-test.true refl)

pub bounds-out-at : goal.bounds-out-at
bounds-out-at c = omega arith

pub returns : goal.returns
returns c = filled_put c.loop-left.invariant.2 (omega arith) (omega (arith, (decimal_length c.args.n (omega arith)).1)) c.loop-left-test.false
