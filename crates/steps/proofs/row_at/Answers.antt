-- `steps::row_at` meets its contract. Assumes nothing.
use mathlib.Core.Path.{refl}
use Rattle.steps.proofs.Rows.{row_read, row_past}
use Prim.Native.Nat.{◌+◌, ◌*◌}
use native.Mathlib.Omega.{arith}
use Rattle.steps.proofs.row_at.Goals as goal

pub returns-then-r-ge256 : goal.returns-then-r-ge256
returns-then-r-ge256 c = row_past _ _ c.if-r-ge256.true

pub returns : goal.returns
returns c =
    row_read _ _ c.if-r-ge256.false (c.from.ensures, refl) (c.from-2.ensures, omega (arith, c.from-2.ensures, c.fits-m (4 * c.args.r + 1))) (c.low.ensures.value, c.low.ensures.upper_bound) (c.low-2.ensures.value, c.low-2.ensures.upper_bound)
