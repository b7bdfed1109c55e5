-- `printing::lay::field` meets its contract. Assumes nothing.
use mathlib.Core.Path.{◌∙◌}
use lib.ListN.{length-set}
use Rattle.text.proofs.Puts.{put_length}
use Rattle.printing.proofs.Digits.{short_field, long_field}
use native.Mathlib.Omega.{arith}
use Rattle.printing.proofs.lay.field.Goals as goal

pub bounds-out-first : goal.bounds-out-first
bounds-out-first c = omega (arith, length-set c.args.out.now c.args.at 9)

pub returns-then-n-lt10 : goal.returns-then-n-lt10
returns-then-n-lt10 c = short_field _ _ _ c.requires c.if-n-lt10.true

pub digits-requires : goal.digits-requires
digits-requires c = omega (arith, length-set c.args.out.now c.args.at 9)

pub shape_of-out : goal.shape_of-out
shape_of-out c = put_length c.digits.ensures ∙ length-set c.args.out.now c.args.at 9

pub returns : goal.returns
returns c = long_field _ _ _ c.requires c.digits.ensures
