-- `lent::valid::move_in` meets its contract. Assumes nothing.
use native.Mathlib.Omega.{arith}
use Rattle.std.proofs.lemmas.Bool.Decides.{nat_tests}
use Rattle.lent.specs.Lending.{part, model_in}
use Rattle.lent.proofs.Parts.{move_read}
use Rattle.lent.proofs.valid.move_in.Goals as goal

pub returns-then-by-events : goal.returns-then-by-events
unfolding model_in
returns-then-by-events c =
    let a = c.args in
    move_read (part 1024 384 a.m.now) a.states a.events a.v c.move_at-by.ensures.value (grind (arith, nat_tests))

pub returns-else-by-events : goal.returns-else-by-events
unfolding model_in
returns-else-by-events c =
    let a = c.args in
    move_read (part 1024 384 a.m.now) a.states a.events a.v c.move_at-by.ensures.value (grind (arith, nat_tests))
