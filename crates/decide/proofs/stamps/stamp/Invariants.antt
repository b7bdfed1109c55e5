-- `decide::stamps::stamp` meets its contract. The loop's invariant: what is left to stamp, with the table as it is, makes what was asked. Assumes nothing.
use mathlib.Core.Path.{◌≡◌}
use Prim.Native.Nat.{◌*◌}
use Rattle.table.specs.declared.Size.{Size}
use Rattle.decide.specs.Stamp.{of_triples, Stamps}
use Rattle.decide.proofs.Stamped.{Left}
use Rattle.decide.proofs.stamps.stamp.Given as goal

-- for every size of which `first` and `row` are the counts
abbrev pub invariant-loop-i : goal.invariant-loop-i
invariant-loop-i l =
    (z : Size) → Stamps of_triples z l.g l.bits l.initial.triples → l.first ≡ l.g * z.states → l.row ≡ z.states * z.symbols → Left of_triples z l.k l.g l.bits l.initial.triples l.i-iterator.0 l.triples
