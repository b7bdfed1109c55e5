-- `lent::move_at` meets its contract: the three numbers of the row. Assumes nothing.
use Rattle.lent.specs.Lending.{model_in}
use Rattle.lent.proofs.move_at.Goals as goal

pub returns : goal.returns
unfolding model_in
returns c = record { value = rw (← c.in_move.ensures.value, ← c.in_move-2.ensures.value, ← c.in_move-3.ensures.value); target_bound = c.in_move-3.ensures.upper_bound }
