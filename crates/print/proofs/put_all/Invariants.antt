-- `print::put_all` meets its contract. The loop's invariant: the bytes before b are put. Assumes nothing.
use lib.ListN.{take}
use Rattle.text.specs.Put.{Put}
use Rattle.print.proofs.put_all.Given as goal

abbrev pub invariant-loop-b : goal.invariant-loop-b
invariant-loop-b l = Put l.initial.out l.out l.at l.next (take l.b-index l.s)
