-- `printing::put_header` meets its contract. Assumes nothing.
use Rattle.text.proofs.Puts.{put_length}
use Rattle.printing.proofs.Whole.{header_put}
use Rattle.printing.proofs.put_header.Goals as goal

pub shape_of-out : goal.shape_of-out
shape_of-out c = put_length c.put_line.ensures

pub returns : goal.returns
returns c = let a = c.args in header_put a.rounds a.heads.now _ a.triples.now _ c.count.ensures c.count-2.ensures c.put_line.ensures
