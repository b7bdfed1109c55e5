-- `decide::sets::put` meets its contract. Assumes nothing.
use Rattle.decide.proofs.Members.{put_is}
use Rattle.decide.proofs.sets.put.Goals as goal

pub returns : goal.returns
returns c = put_is _ _ _ c.requires.sets_len c.requires.s_bound c.requires.r_bound
