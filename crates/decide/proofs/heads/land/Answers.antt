-- `decide::heads::land` meets its contract. Assumes nothing.
use Rattle.decide.proofs.Showing.{land_is}
use Rattle.decide.proofs.heads.land.Goals as goal

pub returns : goal.returns
returns c = land_is _ _ _ _ _ _ _ c.requires c.class_of-c.ensures.value c.symbol_of-g.ensures.value c.states_after.ensures
