-- `decide::sets::NumberSet::pick_in` meets its contract. Assumes nothing.
use mathlib.Core.Path.{refl}
use native.Mathlib.Omega.{arith}
use Rattle.decide.proofs.Members.{taken}
use Rattle.decide.proofs.sets.NumberSet.pick_in.Goals as goal

pub returns : goal.returns
returns c = taken _ _ (omega arith) c.requires c.in_ok-i.ensures.steps refl
