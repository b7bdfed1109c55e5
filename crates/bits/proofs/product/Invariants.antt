-- `bits::product` meets its contract. The loop's invariant: c is the sum of the first k terms. Assumes nothing.
use mathlib.Core.Path.{◌≡◌}
use Rattle.bits.proofs.Matrix.{summed}
use Rattle.bits.proofs.product.Given as goal

abbrev pub invariant-loop-k : goal.invariant-loop-k
invariant-loop-k l = l.c ≡ summed l.a l.b l.k
