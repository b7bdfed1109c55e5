-- `steps::class_of` meets its contract. Assumes nothing.
use mathlib.Core.Path.{◌∙◌}
use Prim.Native.Nat.{◌+◌, ◌*◌}
use native.Mathlib.Omega.{arith}
use Rattle.lent.specs.Lending.{model_in}
use Rattle.lent.proofs.Parts.{in_part}
use Rattle.steps.proofs.Built.{class_past, class_row}
use Rattle.steps.proofs.class_of.Goals as goal

pub returns-then-r-ge256 : goal.returns-then-r-ge256
returns-then-r-ge256 c = let a = c.args in record { value = class_past (model_in a.m.now) a.r c.if-r-ge256.true; upper_bound = omega arith }

pub returns : goal.returns
unfolding model_in
returns c =
    let a = c.args in
    let is = in_part a.m.now 0 1024 (a.r * 4 + 1) (a.r * 4 + 1) (omega arith) (omega arith) in
    record { value = class_row (model_in a.m.now) a.r c.if-r-ge256.false (c.from.ensures ∙ is); upper_bound = omega (arith, c.from.ensures, c.fits-m (a.r * 4 + 1)) }
