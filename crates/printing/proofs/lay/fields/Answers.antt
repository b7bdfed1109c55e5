use mathlib.Core.Path.{refl, ap, ◌∙◌}
use lib.ListN.{get_or}
use lib.Seq.{take_all}
use Rattle.product.specs.Lists.{over}
use Rattle.print.specs.Bytes.{field_bytes}
use Rattle.print.proofs.Puts.{fields_more}
use Rattle.text.proofs.Puts.{none_put, then_put, as_put, put_length}
use Rattle.printing.proofs.Bytes.{field_short}
use native.Mathlib.Omega.{arith}
use Rattle.printing.proofs.lay.fields.Goals as goal

pub loop-n-init : goal.loop-n-init
loop-n-init c = (omega arith, refl, none_put _ _ (omega arith))

pub loop-n-preserved : goal.loop-n-preserved
loop-n-preserved c =
    let l = c.loop-n in
    let a = c.args in
    let x = c.field-next.ensures in (
      omega (arith, x.place, field_short (get_or a.numbers.now l.n-index 0) (omega (arith, c.type_inv.numbers l.n-index))),
      put_length x ∙ l.invariant.1,
      as_put (fields_more a.numbers.now l.n-index (omega arith)) (then_put l.invariant.2 x),
    )

pub shape_of-out : goal.shape_of-out
shape_of-out c = c.loop-n.invariant.1

pub returns : goal.returns
returns c = as_put (ap (λ l. over l field_bytes) (take_all c.loop-n.n-index c.args.numbers.now (omega arith))) c.loop-n.invariant.2
