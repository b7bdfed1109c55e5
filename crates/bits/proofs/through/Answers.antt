-- `bits::through` meets its contract. Assumes nothing.
use mathlib.Core.Path.{◌∙◌}
use Rattle.bits.proofs.Image.{through_is}
use Rattle.bits.proofs.through.Goals as goal

pub returns : goal.returns
returns c = c.joined.ensures ∙ through_is _ _ c.spread.result c.spread.ensures
