-- `table::clear` meets its contract. Assumes nothing.
use mathlib.Core.Path.{◌≡◌, ap, ◌∙◌}
use Prim.Native.Nat.{ℕ}
use native.Mathlib.Omega.{arith}
use lib.ListN.{length, take, length-take, replicate}
use Rattle.product.specs.Table.{absent}
use Rattle.table.proofs.Cells.{cleared_within}
use Rattle.table.proofs.clear.Goals as goal

pub returns : goal.returns
returns c =
    let cells = c.args.cells.now in
    let k : length (take c.min-count.result cells) ≡ c.min-count.result = omega (arith, length-take c.min-count.result cells) in
    cleared_within c.args.n cells _ c.min-count.ensures
    (c.fill.ensures.after (λ y e. e) ∙ ap (λ (n : ℕ). replicate n absent) k)
