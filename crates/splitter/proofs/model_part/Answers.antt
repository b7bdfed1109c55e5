-- `splitter::model_part` meets its contract. Assumes nothing.
use Rattle.splitter.proofs.Place.{model_length, model_front}
use Rattle.splitter.proofs.model_part.Goals as goal

pub slice_bounds-result-end : goal.slice_bounds-result-end
slice_bounds-result-end c = model_length c.args.text.now c.listing_at-at.ensures

pub returns : goal.returns
returns c = model_front c.args.text.now c.listing_at-at.ensures
