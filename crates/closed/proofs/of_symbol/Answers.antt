-- `closed::of_symbol` meets its contract. Assumes nothing.
use mathlib.Core.Path.{refl}
use Rattle.closed.specs.Closed.{of_symbol}
use Rattle.closed.proofs.of_symbol.Goals as goal

pub returns : goal.returns
unfolding of_symbol
returns c = refl
