-- `decide::build::first_rules` meets its contract. Assumes nothing.
use mathlib.Core.Path.{refl}
use Rattle.std.proofs.Common.{rules}
use Rattle.decide.proofs.Emptied.{empty_first}
use Rattle.decide.proofs.Starting.{one_low}
use native.Mathlib.Omega.{arith}
use Rattle.decide.proofs.build.first_rules.Goals as goal

pub sort_rules-requires : goal.sort_rules-requires
sort_rules-requires c = record { count_bound = c.requires.count_bound; empty = c.requires.empty; empty_2 = rw c.empty-exits.ensures (empty_first 4) }

pub collect-for_heads-requires : goal.collect-for_heads-requires
collect-for_heads-requires c = record { from_bound = omega arith; by_index = one_low c.args.g c.requires.g_bound }

pub returns : goal.returns
returns c = let sorted = c.sort_rules.ensures in record { uses = sorted.uses; more_is = refl; changed_is = refl; exits = sorted.exits; heads = search rules }
