-- `splitter::safe_at` meets its contract. Assumes nothing.
use Rattle.splitter.proofs.Place.{begins_first, begins_inside, safe_there, safe_inside}
use Rattle.splitter.proofs.safe_at.Goals as goal
use Rattle.splitter.proofs.safe_at.Goals.{then-at-eq0, else-at-eq0}

pub returns-then-begins : goal.returns-then-begins
returns-then-begins c =
    let s = c.args.text.now in
    let i = c.args.at in
    safe_there s i (elim c.if-at-eq0.branch [ then-at-eq0 w ↦ begins_first s i w.if-at-eq0.true w.begins-is | else-at-eq0 w ↦ begins_inside s i w.if-at-eq0.false w.begins-is ])
    c.if-begins.true c.starts_safe.ensures

pub returns-else-begins : goal.returns-else-begins
returns-else-begins c =
    let s = c.args.text.now in
    let i = c.args.at in
    safe_inside s i (elim c.if-at-eq0.branch [ then-at-eq0 w ↦ begins_first s i w.if-at-eq0.true w.begins-is | else-at-eq0 w ↦ begins_inside s i w.if-at-eq0.false w.begins-is ])
    c.if-begins.false
