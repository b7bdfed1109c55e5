-- `trace::unfold_fact` meets its contract. The measure is the rank of the fact, and it falls at each call: the search lets through only facts of lower
-- rank. Assumes nothing.
use Rattle.table.specs.Looked.{ranks_in}
use Rattle.explain.specs.Answers.{rank_of}
use Rattle.trace.proofs.+unfold_fact.Given as goal

abbrev pub decreases-unfold_fact : goal.decreases-unfold_fact
decreases-unfold_fact l = rank_of (ranks_in l.table.now) l.run.of
