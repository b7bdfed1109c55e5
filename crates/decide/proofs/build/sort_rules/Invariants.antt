-- `decide::build::sort_rules` meets its contract. The loop's invariant: the rules before r are sorted. Assumes nothing.
use Rattle.decide.specs.Build.{RulesSorted}
use Rattle.decide.proofs.build.sort_rules.Given as goal

abbrev pub invariant-loop-r : goal.invariant-loop-r
invariant-loop-r l = RulesSorted l.rules l.r l.us l.exits.words
