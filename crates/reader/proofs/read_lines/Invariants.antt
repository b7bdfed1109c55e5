-- `reader::read_lines` meets its contract: what was read so far is a draft, for which the outline and the bytes stand; the length of what is left falls. Assumes nothing.
use lib.ListN.{length, replicate}
use Rattle.draft.specs.Draft.{Draft}
use Rattle.draft.specs.Written.{Stands}
use Rattle.reader.proofs.Turns.{Turn}
use Rattle.reader.proofs.read_lines.Given as goal

abbrev pub invariant-loop-left : goal.invariant-loop-left
invariant-loop-left l = (d : Draft) × Stands (replicate 8 0) l.o l.m d × Turn l.text d l.left l.n

abbrev pub decreases-loop-left : goal.decreases-loop-left
decreases-loop-left l = length l.left
