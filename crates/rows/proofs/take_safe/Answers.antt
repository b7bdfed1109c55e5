-- `rows::take_safe` meets its contract. Assumes nothing.
use Rattle.rows.proofs.Steps.{safe_malformed, safe_twice, safe_large, safe_taken}
use Rattle.rows.specs.State.{whole}
use Rattle.rows.proofs.take_safe.Goals as goal

pub returns-then-n-ne3 : goal.returns-then-n-ne3
returns-then-n-ne3 c = let a = c.args in λ hs ts. safe_malformed (whole a.tally.now hs ts) a.n c.if-n-ne3.true

pub returns-then-tally : goal.returns-then-tally
returns-then-tally c = let a = c.args in λ hs ts. safe_twice (whole a.tally.now hs ts) a.n c.if-n-ne3.false c.if-tally.true

pub returns-then-rounds-gt-LARGEST : goal.returns-then-rounds-gt-LARGEST
returns-then-rounds-gt-LARGEST c =
    let a = c.args in
    λ hs ts. safe_large (whole a.tally.now hs ts) a.n c.if-n-ne3.false c.if-tally.false c.if-rounds-gt-LARGEST.true

pub returns : goal.returns
returns c =
    let a = c.args in
    λ hs ts. safe_taken (whole a.tally.now hs ts) a.n c.if-n-ne3.false c.if-tally.false c.if-rounds-gt-LARGEST.false
