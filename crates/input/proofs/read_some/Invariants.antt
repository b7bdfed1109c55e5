-- The memory keeps its length, and a failed read takes no known byte.
use Rattle.std.proofs.Common.{◌≡◌, length}
use Rattle.std.specs.Io.KnownBytes.{Keeps}
use Rattle.input.proofs.read_some.Given as goal

abbrev pub invariant-loop : goal.invariant-loop
invariant-loop g l = (length l.space ≡ length l.initial.space) × Keeps (g.R.Read.remaining l.initial.reader) (g.R.Read.remaining l.reader)
