-- `decide::heads::add_row` meets its contract. Assumes nothing.
use Rattle.decide.proofs.Showing.{shows_one}
use Rattle.decide.proofs.heads.add_row.Goals as goal

pub returns : goal.returns
returns c = shows_one _ _ _ c.requires.g_bound c.requires.nh_len
