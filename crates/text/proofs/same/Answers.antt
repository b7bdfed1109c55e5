use mathlib.Core.Path.{ap, sym}
use native.Mathlib.Omega.{arith}
use lib.ListN.{length, get_or}
use Rattle.std.proofs.lemmas.Grind.{same_number_lists}
use Rattle.text.proofs.Bytes.{differing, equal_same}
use Rattle.text.proofs.same.Goals as goal

pub returns-then-a-b : goal.returns-then-a-b
returns-then-a-b c = differing _ _ (λ e. omega (arith, c.if-a-b.true, ap length e))

pub returns-then-a-i : goal.returns-then-a-i
returns-then-a-i c = differing _ _ (λ e. c.if-a-i.true (ap (λ xs. get_or xs c.loop-i.i 0) e))

pub returns : goal.returns
returns c =
    let a = c.args in
    rw (same_number_lists a.a.now a.b.now (omega (arith, c.if-a-b.false)) (λ k h. c.loop-i.invariant k (omega arith))) (sym (equal_same a.b.now))
