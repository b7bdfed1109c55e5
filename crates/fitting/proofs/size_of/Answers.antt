-- `fitting::size_of` meets its contract. Assumes nothing.
use mathlib.Core.Path.{ap}
use Rattle.model.specs.declared.Shape.{Shape}
use Rattle.lent.specs.Lending.{model_in}
use Rattle.fitting.proofs.size_of.Goals as goal

pub returns : goal.returns
unfolding model_in
returns c = ap (λ (s : Shape). record { symbols = s.symbols; states = s.states }) c.shape-s.ensures
