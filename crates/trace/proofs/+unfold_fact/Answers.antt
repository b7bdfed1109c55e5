-- Each call is for a fact that the explanation needs, and so of lower rank. Assumes nothing.
use Rattle.std.specs.Prelude.{Some}
use mathlib.Core.List.{List}
use mathlib.Core.Path.{◌≡◌}
use Rattle.table.specs.declared.Table as looked
use Rattle.table.specs.Looked.{ranks_in}
use Rattle.lent.specs.Lending.{product_in}
use Rattle.culprit.specs.Culprit.{Goal}
use Rattle.explain.specs.declared.Counts.{Counts}
use Rattle.explain.specs.declared.Cause.{Cause}
use Rattle.explain.specs.Answers.{Found, search_in, found_as, explained, rank_of}
use Rattle.explain.proofs.Falls.{Falls, found_falls}
use Rattle.trace.proofs.Unfolds.{unfolded_cut, unfolded_none, unfolded_by}
use native.Mathlib.Omega.{arith}
use Prim.Native.Nat.{ℕ}
use Rattle.trace.proofs.+unfold_fact.Goals as goal

-- what was found for the fact needs facts of lower rank only
lowers : (lent : List ℕ) (t : looked.Table) (n : Counts) (f : Goal) {d : Found} → d ≡ found_as (explained (search_in lent t n) (ranks_in t) f) → {c : Cause} → d ≡ Some c
    → Falls n.rules n.moves (ranks_in t) (rank_of (ranks_in t) f) c
lowers lent t n = found_falls (product_in lent) n.rules n.moves t.size.states (ranks_in t)

pub returns-then-room-at : goal.returns-then-room-at
returns-then-room-at t c =
    let a = c.args in
    unfolded_cut (ranks_in a.table.now) (search_in a.m.now a.table.now a.n) a.run.of c.if-room-at.true c.requires.place_in

pub unfold_fact-here-requires : goal.unfold_fact-here-requires
unfold_fact-here-requires t c =
    let a = c.args in
    let z = lowers a.m.now a.table.now a.n a.run.of c.explain.ensures c.in-Some.is in
    (omega (arith, z.before_lower, c.decreases), c.requires)

pub put-at-requires : goal.put-at-requires
put-at-requires t c =
    let a = c.args in
    let z = lowers a.m.now a.table.now a.n a.run.of c.explain.ensures c.in-Some.is in
    (omega (arith, z.rule_in, c.requires.rules_in), omega (arith, z.move_in, c.requires.moves_in))

pub unfold_fact-at-requires : goal.unfold_fact-at-requires
unfold_fact-at-requires t c =
    let a = c.args in
    let z = lowers a.m.now a.table.now a.n a.run.of c.explain.ensures c.in-Some.is in (
      omega (arith, z.first_lower, c.decreases),
      record { rules_in = c.requires.rules_in; moves_in = c.requires.moves_in; place_in = omega (arith, c.put-at.ensures.place, c.put-at.auto.room) },
    )

pub unfold_fact-requires : goal.unfold_fact-requires
unfold_fact-requires t c =
    let a = c.args in
    let z = lowers a.m.now a.table.now a.n a.run.of c.explain.ensures c.in-Some.is in (
      omega (arith, z.second_lower, c.decreases),
      record { rules_in = c.requires.rules_in; moves_in = c.requires.moves_in; place_in = omega (arith, c.unfold_fact-at.ensures.within, c.unfold_fact-at.auto.room) },
    )

pub returns-in_default : goal.returns-in_default
returns-in_default t c =
    let a = c.args in
    unfolded_none (ranks_in a.table.now) (search_in a.m.now a.table.now a.n) a.run.of c.requires.place_in c.explain.ensures c.in_default.is

pub returns : goal.returns
returns t c =
    let a = c.args in
    unfolded_by (ranks_in a.table.now) (search_in a.m.now a.table.now a.n) a.run.of c.requires.place_in
    c.explain.ensures c.in-Some.is c.unfold_fact-here.ensures c.put-at.ensures c.unfold_fact-at.ensures c.unfold_fact.ensures
    (omega (arith, c.unfold_fact.ensures.within, c.unfold_fact.auto.room))
