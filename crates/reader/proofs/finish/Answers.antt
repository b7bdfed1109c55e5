-- `reader::finish` meets its contract. Assumes nothing.
use Rattle.reader.proofs.Leaves.{no_start, accepted}
use Rattle.reader.proofs.finish.Goals as goal

pub returns-then-o-eq0 : goal.returns-then-o-eq0
returns-then-o-eq0 c = λ d s. no_start d s c.if-o-eq0.true

pub returns : goal.returns
returns c = λ d s. accepted d s c.if-o-eq0.false c.put_outline.ensures
