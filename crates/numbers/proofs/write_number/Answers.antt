use mathlib.Core.Path.{refl}
use Rattle.numbers.specs.Digits.{written}
use Rattle.numbers.proofs.Decimals.{first_turn, open_place, turn_next, turn_last}
use native.Mathlib.Omega.{arith}
use Rattle.numbers.proofs.write_number.Goals as goal

pub loop-left-init : goal.loop-left-init
unfolding written
loop-left-init c = first_turn (omega arith) refl

pub overflow_cast-left : goal.overflow_cast-left
overflow_cast-left c = omega arith

pub overflow_add-left : goal.overflow_add-left
overflow_add-left c = omega arith

pub put_first-d-requires : goal.put_first-d-requires
put_first-d-requires c = open_place c.loop-left.invariant

pub loop-left-smaller : goal.loop-left-smaller
loop-left-smaller c = omega arith

pub loop-left-preserved : goal.loop-left-preserved
loop-left-preserved c = turn_next c.loop-left.invariant c.loop-left-test.true c.put_first-d.ensures

pub overflow_cast-left-2 : goal.overflow_cast-left-2
overflow_cast-left-2 c = omega arith

pub overflow_add-left-2 : goal.overflow_add-left-2
overflow_add-left-2 c = omega arith

pub put_first-requires : goal.put_first-requires
put_first-requires c = open_place c.loop-left.invariant

pub returns : goal.returns
returns c = turn_last c.loop-left.invariant c.loop-left-test.false c.put_first.ensures
