-- `rows::read_lines` meets its contract. The loop's invariant is `Turn`, and the arrays are as long as they were; what is left of the text falls. Assumes nothing.
use lib.ListN.{length}
use mathlib.Core.Path.{◌≡◌}
use Rattle.rows.specs.State.{whole, before}
use Rattle.rows.proofs.Lines.{Turn}
use Rattle.rows.proofs.read_lines.Given as goal

abbrev pub invariant-loop-rest : goal.invariant-loop-rest
invariant-loop-rest l = (length l.heads ≡ length l.initial.heads) × (length l.triples ≡ length l.initial.triples) × Turn l.size l.text (before l.initial.heads l.initial.triples) (whole l.tally l.heads l.triples) l.rest l.line

abbrev pub decreases-loop-rest : goal.decreases-loop-rest
decreases-loop-rest l = length l.rest
