-- `numbers::read_digits` meets its contract. The loop's invariant: what was read, with what is left, spells the number that was asked for. Assumes nothing.
use Prim.Native.Nat.{◌+◌, ◌≤◌, ◌<◌, ◌^◌}
use mathlib.Core.Path.{◌≡◌}
use lib.ListN.{length, drop}
use Rattle.numbers.specs.Number.{spelled}
use Rattle.numbers.specs.Field.{field}
use Rattle.numbers.proofs.read_digits.Given as goal

abbrev pub invariant-loop-count : goal.invariant-loop-count
invariant-loop-count l = (l.count ≤ 6) × (l.value < 10 ^ l.count) × (spelled l.value (field (drop l.count l.s)) ≡ spelled 0 (field l.s)) × (l.count + length (field (drop l.count l.s)) ≡ length (field l.s))
