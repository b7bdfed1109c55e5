use mathlib.Core.Path.{refl, ◌∙◌}
use native.Mathlib.Omega.{arith}
use lib.ListN.{length-set}
use Rattle.recheck.proofs.Matrices.{Heads, heads_inside, heads_are, stored}
use Rattle.recheck.proofs.facts.all_heads.Goals as goal

pub loop-g-init : goal.loop-g-init
loop-g-init c = (refl, λ d l. absurd (omega arith))

pub with_row-requires : goal.with_row-requires
with_row-requires c =
    let a = c.args in
    heads_inside a.table.now.size.symbols a.table.now.size.states c.requires.states_bound c.loop-g.g (omega arith) _ c.requires.states_in_bounds

pub loop-g-preserved : goal.loop-g-preserved
loop-g-preserved c =
    let a = c.args in
    let l = c.loop-g in
    let is = heads_are a.table.now.size.symbols a.table.now.size.states a.table.now.heads.now l.g c.requires.states_bound (omega arith) _ c.with_row.ensures in (
      length-set l.hs l.g _ ∙ l.invariant.0,
      stored (λ d m. Heads a.table.now.size.symbols a.table.now.size.states a.table.now.heads.now d m) l.hs l.g _ (omega (arith, l.invariant.0, c.requires.symbols_bound)) l.invariant.1 is,
    )

pub returns : goal.returns
returns c = λ g l. c.loop-g.invariant.1 g (omega arith)
