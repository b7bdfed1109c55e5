-- `printing::put_listing` meets its contract. Assumes nothing.
use mathlib.Core.Path.{◌∙◌}
use Rattle.text.proofs.Puts.{put_length}
use Rattle.printing.proofs.Whole.{heads_rows, triples_rows, listing_put}
use Rattle.printing.proofs.put_listing.Goals as goal

pub put_header-first-requires : goal.put_header-first-requires
put_header-first-requires c = c.requires.counts

pub put_cells-next-requires : goal.put_cells-next-requires
put_cells-next-requires c = heads_rows c.args.heads.now c.args.triples.now c.requires

pub put_cells-requires : goal.put_cells-requires
put_cells-requires c = triples_rows c.args.heads.now c.args.triples.now c.requires

pub shape_of-out : goal.shape_of-out
shape_of-out c = put_length c.put_cells.ensures ∙ put_length c.put_cells-next.ensures ∙ put_length c.put_header-first.ensures

pub returns : goal.returns
returns c = let a = c.args in listing_put a.heads.now a.triples.now c.requires a.rounds c.put_header-first.ensures c.put_cells-next.ensures c.put_cells.ensures
