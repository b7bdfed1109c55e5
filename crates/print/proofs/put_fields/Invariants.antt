-- `print::put_fields` meets its contract. The loop's invariant: the fields before n are put. Assumes nothing.
use lib.ListN.{take}
use Rattle.product.specs.Lists.{over}
use Rattle.print.specs.Bytes.{field_bytes}
use Rattle.text.specs.Put.{Put}
use Rattle.print.proofs.put_fields.Given as goal

abbrev pub invariant-loop-n : goal.invariant-loop-n
invariant-loop-n l = Put l.initial.out l.out l.at l.next (over (take l.n-index l.numbers) field_bytes)
