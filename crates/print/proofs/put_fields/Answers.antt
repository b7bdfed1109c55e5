use mathlib.Core.Path.{ap}
use lib.Seq.{take_all}
use Rattle.product.specs.Lists.{over}
use Rattle.print.specs.Bytes.{field_bytes}
use Rattle.text.proofs.Puts.{none_put, then_put, as_put, put_length}
use Rattle.print.proofs.Puts.{fields_more}
use native.Mathlib.Omega.{arith}
use Rattle.print.proofs.put_fields.Goals as goal

pub loop-n-init : goal.loop-n-init
loop-n-init c = none_put _ _ c.place-next.ensures

pub loop-n-preserved : goal.loop-n-preserved
loop-n-preserved c = as_put (fields_more c.args.numbers.now c.loop-n.n-index (omega arith)) (then_put c.loop-n.invariant c.put_field-next.ensures)

pub shape_of-out : goal.shape_of-out
shape_of-out c = put_length c.loop-n.invariant

pub returns : goal.returns
returns c = as_put (ap (λ l. over l field_bytes) (take_all c.loop-n.n-index c.args.numbers.now (omega arith))) c.loop-n.invariant
