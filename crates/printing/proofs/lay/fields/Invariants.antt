-- `printing::lay::fields` meets its contract. Assumes nothing.
use mathlib.Core.Path.{◌≡◌}
use Prim.Native.Nat.{◌+◌, ◌*◌, ◌≤◌}
use lib.ListN.{length, take}
use Rattle.product.specs.Lists.{over}
use Rattle.print.specs.Bytes.{field_bytes}
use Rattle.text.specs.Put.{Put}
use Rattle.printing.proofs.lay.fields.Given as goal

abbrev pub invariant-loop-n : goal.invariant-loop-n
invariant-loop-n l = (l.next ≤ l.at + 6 * l.n-index) × (length l.out ≡ length l.initial.out) × Put l.initial.out l.out l.at l.next (over (take l.n-index l.numbers) field_bytes)
