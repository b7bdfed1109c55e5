-- `decide::sets::NumberSet::insert` meets its contract. Assumes nothing.
use native.Mathlib.Omega.{arith}
use Rattle.decide.proofs.Members.{with_is}
use Rattle.decide.proofs.sets.NumberSet.insert.Goals as goal

pub returns : goal.returns
returns c = with_is _ _ (omega arith) c.requires
