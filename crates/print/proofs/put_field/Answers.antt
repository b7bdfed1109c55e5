-- `print::put_field` meets its contract. Assumes nothing.
use lib.Seq.{length-take-le}
use mathlib.Core.Path.{sym, ◌∙◌}
use Rattle.text.proofs.Puts.{then_put, as_put, put_length}
use Rattle.print.proofs.Puts.{digits_part_of, digits_within}
use Rattle.print.proofs.put_field.Goals as goal

pub slice_bounds-digits-end : goal.slice_bounds-digits-end
slice_bounds-digits-end c = digits_within c.args.n c.write_number-d.ensures

pub slice_bounds-put_all-end : goal.slice_bounds-put_all-end
slice_bounds-put_all-end c = sym (length-take-le _ _ (digits_within c.args.n c.write_number-d.ensures))

pub shape_of-out : goal.shape_of-out
shape_of-out c = put_length c.put_all.ensures ∙ put_length c.put-next.ensures

pub returns : goal.returns
returns c =
    let a = c.args in
    then_put c.put-next.ensures (as_put (digits_part_of a.n c.write_number-d.ensures) c.put_all.ensures)
