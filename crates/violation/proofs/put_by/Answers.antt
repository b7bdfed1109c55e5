-- `violation::put_by` meets its contract. Assumes nothing.
use Rattle.text.proofs.Puts.{put_length}
use Rattle.violation.proofs.Lines.{by_put}
use Rattle.violation.proofs.put_by.Goals as goal

pub shape_of-out-in-Exit : goal.shape_of-out-in-Exit
shape_of-out-in-Exit c = put_length c.put_named.ensures

pub returns-in-Exit : goal.returns-in-Exit
returns-in-Exit c = by_put _ c.in-Exit.is c.put_named.ensures

pub shape_of-out-in-Direct : goal.shape_of-out-in-Direct
shape_of-out-in-Direct c = put_length c.put_named-in-Direct.ensures

pub returns-in-Direct : goal.returns-in-Direct
returns-in-Direct c = by_put _ c.in-Direct.is c.put_named-in-Direct.ensures

pub shape_of-out-in-Call : goal.shape_of-out-in-Call
shape_of-out-in-Call c = put_length c.put_named-in-Call.ensures

pub returns-in-Call : goal.returns-in-Call
returns-in-Call c = by_put _ c.in-Call.is c.put_named-in-Call.ensures
