-- `printing::lay::word` meets its contract. The loop's invariant: the bytes before i are put, and the memory keeps its length. Assumes nothing.
use mathlib.Core.Path.{◌≡◌}
use Prim.Native.Nat.{◌+◌}
use lib.ListN.{length, take}
use Rattle.text.specs.Put.{Put}
use Rattle.printing.proofs.lay.word.Given as goal

abbrev pub invariant-loop-i : goal.invariant-loop-i
invariant-loop-i l = (length l.out ≡ length l.initial.out) × Put l.initial.out l.out l.at (l.at + l.i) (take l.i l.s)
