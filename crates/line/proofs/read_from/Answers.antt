-- `line::read_from` meets its contract (Behind). Assumes nothing.
use Rattle.line.proofs.Behind.{from_past, end_within, from_there}
use native.Mathlib.Omega.{arith}
use Rattle.line.proofs.read_from.Goals as goal

pub returns-then-s-b : goal.returns-then-s-b
returns-then-s-b c = let a = c.args in from_past a.s.now a.b c.if-s-b.true c.find.ensures

pub overflow_add-result : goal.overflow_add-result
overflow_add-result c =
    let a = c.args in
    omega (arith, end_within a.s.now a.b c.if-s-b.false c.read_fields-f.ensures)

pub returns : goal.returns
returns c =
    let a = c.args in
    from_there a.s.now a.b c.if-s-b.false c.read_fields-f.ensures
