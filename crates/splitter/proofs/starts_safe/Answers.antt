-- `splitter::starts_safe` meets its contract. Assumes nothing.
use mathlib.Core.Path.{◌∙◌}
use lib.ListN.{take}
use Rattle.listingline.specs.Line.{safe}
use Rattle.splitter.proofs.Place.{pointwise_same}
use Rattle.splitter.proofs.starts_safe.Goals as goal

pub returns : goal.returns
returns c = c.starts_with.ensures.value ∙ pointwise_same safe (take 4 c.args.s.now)
