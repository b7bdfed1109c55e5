-- `explain::first_cause` meets its contract. The invariant of each loop is that nothing was found below its number; what is found first leaves all three.
-- Assumes nothing.
use Rattle.culprit.specs.First.{first_of}
use mathlib.Core.Option.{none}
use mathlib.Core.Path.{◌≡◌}
use Rattle.lent.specs.Lending.{product_in}
use Rattle.table.specs.Places.{fact_of}
use Rattle.product.specs.Facts.{Fact, Way}
use Rattle.table.specs.declared.Table as looked
use Rattle.table.specs.Looked.{ranks_in}
use Rattle.explain.specs.declared.Ask.{Ask}
use Rattle.explain.specs.Search.{lower, tried_at, way_by_move, way_by_rule}
use mathlib.Core.Bool.{Bool}
use mathlib.Core.List.{List}
use mathlib.Core.Option.{Option}
use Prim.Native.Nat.{ℕ, suc}
use Rattle.explain.proofs.first_cause.Given as goal

-- the tries for what is asked: by rule, move and state; by rule and move; by rule
module _ (m : List ℕ) (t : looked.Table) (ask : Ask) where
  abbrev pub lows : Fact → Bool
  lows = lower (ranks_in t) (suc ask.k)

  abbrev pub tries : (r v x : ℕ) → Option Way
  tries = tried_at (product_in m) lows (fact_of ask.f)

  abbrev pub moves : (r v : ℕ) → Option Way
  moves = way_by_move (product_in m) lows (fact_of ask.f) t.size.states

  abbrev pub rules : (moveCount r : ℕ) → Option Way
  rules moveCount = way_by_rule (product_in m) lows (fact_of ask.f) moveCount t.size.states

abbrev pub invariant-loop-x : goal.invariant-loop-x
invariant-loop-x l = first_of (tries l.m l.table l.ask l.r l.v) l.x ≡ none

abbrev pub invariant-loop-v : goal.invariant-loop-v
invariant-loop-v l = first_of (moves l.m l.table l.ask l.r) l.v ≡ none

abbrev pub invariant-loop-r : goal.invariant-loop-r
invariant-loop-r l = first_of (rules l.m l.table l.ask l.n.moves) l.r ≡ none
