-- `lent::in_move` meets its contract. Assumes nothing.
use mathlib.Core.Path.{◌∙◌}
use Prim.Native.Nat.{◌+◌, ◌*◌}
use Rattle.lent.proofs.Parts.{in_part, past_part}
use native.Mathlib.Omega.{arith}
use Rattle.lent.proofs.in_move.Goals as goal

pub returns-then-v-ge128 : goal.returns-then-v-ge128
returns-then-v-ge128 c = let a = c.args in record { value = past_part a.m.now 1024 384 (a.v * 3 + a.i) (omega arith); upper_bound = omega arith }

pub returns : goal.returns
returns c =
    let a = c.args in
    record {
      value = c.from.ensures ∙ in_part a.m.now 1024 384 (a.v * 3 + a.i) _ (omega arith) (omega arith);
      upper_bound = omega (arith, c.from.ensures, c.fits-m (1024 + a.v * 3 + a.i));
    }
