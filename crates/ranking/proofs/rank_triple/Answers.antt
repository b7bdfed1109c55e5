-- `ranking::rank_triple` meets its contract. Assumes nothing.
use Rattle.line.specs.declared.fault.Fault.TheVariants.{Malformed}
use Rattle.ranking.proofs.Faults.{miscounted, well_counted, not_ranked}
use Rattle.ranking.proofs.rank_triple.Goals as goal

pub returns-then-n-ne4 : goal.returns-then-n-ne4
returns-then-n-ne4 c = not_ranked Malformed (miscounted _ _ _ c.if-n-ne4.true)

pub returns : goal.returns
returns c = well_counted _ _ _ c.if-n-ne4.false c.rank_fact.ensures
