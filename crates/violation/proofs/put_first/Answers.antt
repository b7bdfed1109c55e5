-- `violation::put_first` meets its contract. Assumes nothing.
use Rattle.text.proofs.Puts.{put_length}
use Rattle.violation.proofs.Lines.{whole_put, cut_put}
use Rattle.violation.proofs.put_first.Goals as goal

pub shape_of-out-then-whole : goal.shape_of-out-then-whole
shape_of-out-then-whole c = put_length c.put_line.ensures

pub returns-then-whole : goal.returns-then-whole
returns-then-whole c = whole_put _ _ c.if-whole.true c.put_line.ensures

pub shape_of-out : goal.shape_of-out
shape_of-out c = put_length c.put_named.ensures

pub returns : goal.returns
returns c = cut_put _ c.args.count c.if-whole.false c.put_named.ensures
