-- The answers of the code as the theory has them: a fact that is asked for, and a way that was found. Assumes nothing.
use Rattle.std.specs.Prelude as code
use Rattle.std.specs.Prelude.{Bool, false, cond, List, [], ◌∷◌, ◌++◌, ℕ, Some, None}
use Rattle.std.proofs.Math.Option.{Option, none, some}
use Rattle.product.specs.Lists.{all}
use Rattle.product.specs.Facts.{Fact, Way}
use Rattle.product.specs.Table.{Table}
use Rattle.table.specs.declared.Table as looked
use Rattle.table.specs.Places.{fact_of}
use Rattle.lent.specs.Lending.{product_in}
use Rattle.culprit.specs.Culprit.{Goal, goal_of}
use Rattle.explain.specs.declared.Cause.{Cause}
use Rattle.explain.specs.declared.Counts.{Counts}
use Rattle.explain.specs.Search.{why_in, way_by_rank}

-- the search in a table for the explanation of a fact of rank k, by the rules and moves of a model with the counts n
abbrev pub search_in : (lent : List ℕ) → looked.Table → Counts → (k : ℕ) → Fact → Option Way
search_in lent t n = why_in (product_in lent) t.size.symbols t.size.states t.heads.now t.triples.now n.rules n.moves

-- the first and the second fact that a list has
abbrev pub first_in : List Fact → Goal
first_in [] = None
first_in (f ∷ fs) = goal_of f

abbrev pub second_in : List Fact → Goal
second_in [] = None
second_in (f ∷ fs) = first_in fs

abbrev pub cause_by : (rule by : ℕ) → (before first second : Goal) → Cause
cause_by rule by before first second = record { rule = rule; by = by; before = before; first = first; second = second }

abbrev pub cause_of : Way → Cause
cause_of w = cause_by w.by.by_rule w.by.by_move (first_in w.before) (first_in w.after) (second_in w.after)

-- the code's answer: a cause, or none
abbrev pub Found : Type 0
Found = code.Option Cause

abbrev pub found_as : Option Way → Found
found_as none = None
found_as (some w) = Some (cause_of w)

-- the rank of the fact that is asked for; where none is, 0
abbrev pub rank_of : Table → Goal → ℕ
rank_of t None = 0
rank_of t (Some f) = t (fact_of f)

-- its explanation, by the search `why` at its rank; where none is asked for there is none
abbrev pub explained : (ℕ → Fact → Option Way) → Table → Goal → Option Way
explained why t None = none
explained why t (Some f) = way_by_rank why (fact_of f) (t (fact_of f))

-- the facts that a cause needs; and the set h has them all
abbrev pub fact_in : Goal → List Fact
fact_in None = []
fact_in (Some f) = fact_of f ∷ []

abbrev pub needs_of : Cause → List Fact
needs_of c = fact_in c.before ++ (fact_in c.first ++ fact_in c.second)

abbrev pub has_all : (Fact → Bool) → Found → Bool
has_all h None = false
has_all h (Some c) = all h (needs_of c)

-- the first of two that the set has
abbrev pub first_has : (Fact → Bool) → Found → Found → Found
first_has h a b = cond (has_all h a) a (cond (has_all h b) b None)
