use native.Mathlib.Omega.{arith}
use Rattle.decide.proofs.Building.{sorted_none, sorted_more, sorted_all}
use Rattle.decide.proofs.build.sort_rules.Goals as goal

pub loop-r-init : goal.loop-r-init
loop-r-init c = sorted_none _ c.requires.empty c.requires.empty_2

pub sort_rule-requires : goal.sort_rule-requires
sort_rule-requires c = record { r_bound = omega (arith, c.requires.count_bound); us_len = c.loop-r.invariant.uses.long }

pub loop-r-preserved : goal.loop-r-preserved
loop-r-preserved c = sorted_more _ c.loop-r.r (omega (arith, c.requires.count_bound)) c.loop-r.invariant c.sort_rule.ensures

pub returns : goal.returns
returns c = sorted_all _ c.loop-r.r _ (omega arith) c.loop-r.invariant
