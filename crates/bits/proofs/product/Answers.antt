use mathlib.Core.Path.{◌≡◌, refl, ap, ◌∙◌}
use native.Mathlib.Numerals.{add-one}
use native.Mathlib.Omega.{arith}
use lib.Bits.{bit_or}
use Rattle.bits.proofs.Matrix.{met, met_fits, summed, summed_is}
use Rattle.bits.proofs.product.Goals as goal

pub loop-k-init : goal.loop-k-init
unfolding summed
loop-k-init c = refl

pub overflow_mul-c : goal.overflow_mul-c
overflow_mul-c c = met_fits c.args.a c.args.b c.loop-k.k

pub loop-k-preserved : goal.loop-k-preserved
unfolding summed
loop-k-preserved c = rw add-one (ap (λ n. bit_or n (met c.args.a c.args.b c.loop-k.k)) c.loop-k.invariant)

pub returns : goal.returns
returns c =
    let e : c.loop-k.k ≡ 8 = omega arith in
    (rw e at c.loop-k.invariant) ∙ summed_is _ _
