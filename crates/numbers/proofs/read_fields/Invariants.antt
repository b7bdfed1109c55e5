-- `numbers::read_fields` meets its contract. The loop's invariant is `Turn`; what is left of the text falls. Assumes nothing.
use lib.ListN.{length}
use Rattle.numbers.proofs.Fields.{Turn}
use Rattle.numbers.proofs.read_fields.Given as goal

abbrev pub invariant-loop-f : goal.invariant-loop-f
invariant-loop-f l = Turn l.s (record { count = l.count; at = l.at }) l.rest

abbrev pub decreases-loop-f : goal.decreases-loop-f
decreases-loop-f l = length l.rest
