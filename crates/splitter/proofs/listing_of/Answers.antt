-- `splitter::listing_of` meets its contract. Assumes nothing.
use Rattle.splitter.proofs.Place.{place_within, listing_rest}
use Rattle.splitter.proofs.listing_of.Goals as goal

pub slice_bounds-result-count : goal.slice_bounds-result-count
slice_bounds-result-count c = place_within c.args.text.now c.listing_at-at.ensures

pub slice_bounds-result-start : goal.slice_bounds-result-start
slice_bounds-result-start c = place_within c.args.text.now c.listing_at-at.ensures

pub returns : goal.returns
returns c = listing_rest c.args.text.now c.listing_at-at.ensures
