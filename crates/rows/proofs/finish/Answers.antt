-- `rows::finish` meets its contract. Assumes nothing.
use Rattle.rows.specs.Lines.{agreement}
use Rattle.text.proofs.Lists.{tests}
use Rattle.rows.proofs.finish.Goals as goal

pub returns-then-not-agrees : goal.returns-then-not-agrees
unfolding agreement
returns-then-not-agrees c = search tests

pub returns : goal.returns
unfolding agreement
returns c = search tests
