-- `closed::included` meets its contract. Assumes nothing.
use mathlib.Core.Path.{refl}
use Rattle.closed.specs.Closed.{included}
use Rattle.closed.proofs.included.Goals as goal

pub returns : goal.returns
unfolding included
returns c = refl
