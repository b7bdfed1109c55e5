-- `lent::valid::is_valid` meets its contract. Assumes nothing.
use native.Mathlib.Omega.{arith}
use Rattle.std.proofs.lemmas.Bool.Decides.{nat_tests}
use Rattle.lent.proofs.Parts.{valid_read}
use Rattle.lent.proofs.valid.is_valid.Goals as goal

pub returns-then-rules_in : goal.returns-then-rules_in
returns-then-rules_in c = valid_read c.args.m.now c.shape-s.ensures (grind (arith, nat_tests))

pub returns-else-rules_in : goal.returns-else-rules_in
returns-else-rules_in c = valid_read c.args.m.now c.shape-s.ensures (grind (arith, nat_tests))
