-- `decide::sets::NumberSet::pick` meets its contract. Assumes nothing.
use native.Mathlib.Omega.{arith}
use Rattle.decide.proofs.Members.{passed_first, passed_next, passed_last}
use Rattle.decide.proofs.sets.NumberSet.pick.Goals as goal

pub returns : goal.returns
returns c =
    let p = passed_next (passed_next (passed_next passed_first c.in_default.ensures) c.in_default-pick_in.ensures) c.in_default-pick_in-2.ensures in
    passed_last _ _ (omega arith) p c.pick_in-4.ensures
