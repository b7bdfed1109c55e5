-- `rereport::recheck_text` meets its contract. Assumes nothing.
use mathlib.Core.Path.{refl, ◌∙◌}
use Rattle.text.proofs.Puts.{put_length}
use Rattle.splitter.proofs.Place.{place_within, model_front, model_length, listing_rest}
use Rattle.refusal.proofs.Reading.{model_valid}
use Rattle.rereport.proofs.Cases.{seen_put, unseen_put}
use Rattle.rereport.proofs.recheck_text.Goals as goal

pub slice_bounds-read_or_refuse-end : goal.slice_bounds-read_or_refuse-end
slice_bounds-read_or_refuse-end c =
    let t = c.args.text.now in
    model_length t c.listing_at-at.ensures

pub slice_bounds-put_listing-count : goal.slice_bounds-put_listing-count
slice_bounds-put_listing-count c =
    let t = c.args.text.now in
    place_within t c.listing_at-at.ensures

pub slice_bounds-put_listing-start : goal.slice_bounds-put_listing-start
slice_bounds-put_listing-start c =
    let t = c.args.text.now in
    place_within t c.listing_at-at.ensures

pub put_listing-requires : goal.put_listing-requires
put_listing-requires c = model_valid c.in-Ok.ensures refl

pub shape_of-out-in-Ok : goal.shape_of-out-in-Ok
shape_of-out-in-Ok c = put_length c.put_listing.ensures ∙ put_length c.in-Ok.ensures.puts

pub returns-in-Ok : goal.returns-in-Ok
returns-in-Ok c =
    let t = c.args.text.now in
    let e = c.listing_at-at.ensures in
    seen_put t (model_front t e) c.in-Ok.ensures (listing_rest t e) refl c.put_listing.ensures

pub shape_of-out-in-Err : goal.shape_of-out-in-Err
shape_of-out-in-Err c = put_length c.in-Err.ensures.puts

pub returns-in-Err : goal.returns-in-Err
returns-in-Err c =
    let t = c.args.text.now in
    unseen_put t (model_front t c.listing_at-at.ensures) c.in-Err.ensures refl
