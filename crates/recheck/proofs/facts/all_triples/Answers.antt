use mathlib.Core.Path.{refl, ◌∙◌}
use native.Mathlib.Omega.{arith}
use lib.ListN.{length-set}
use Rattle.recheck.proofs.Matrices.{Triples, stored}
use Rattle.recheck.proofs.facts.all_triples.Goals as goal

pub loop-g-init : goal.loop-g-init
loop-g-init c = (refl, λ d l. absurd (omega arith))

pub triples_of-requires : goal.triples_of-requires
triples_of-requires c = record { g_lt_symbols = omega arith; states_bound = c.requires.states_bound; states_in_bounds = c.requires.states_in_bounds }

pub loop-g-preserved : goal.loop-g-preserved
loop-g-preserved c =
    let a = c.args in
    let l = c.loop-g in
    (length-set l.ts l.g _ ∙ l.invariant.0, stored (λ d m. Triples a.table.now.size.symbols a.table.now.size.states a.table.now.triples.now d m) l.ts l.g _ (omega (arith, l.invariant.0, c.requires.symbols_bound)) l.invariant.1 c.triples_of.ensures)

pub returns : goal.returns
returns c = λ g l. c.loop-g.invariant.1 g (omega arith)
