-- `steps::symbol_of` meets its contract. Assumes nothing.
use borrow.Author.Rules.{rules}
use Rattle.steps.specs.Steps.{symbol_of}
use Rattle.steps.proofs.symbol_of.Goals as goal

pub returns : goal.returns
unfolding symbol_of
returns c = search rules
