-- The violating fact that is taken, looked for in the two arrays: heads before triples, then by state, symbol and end state. Assumes nothing.
use Rattle.std.specs.Prelude as code
use Rattle.std.specs.Prelude.{Bool, true, false, ◌&&◌, List, [], ◌∷◌, ℕ, Some, None}
use Rattle.std.proofs.Math.Option.{Option, none, some}
use Rattle.product.specs.Lists.{find}
use Rattle.product.specs.Facts.{Fact, head, triple}
use Rattle.product.specs.Table.{present}
use Rattle.table.specs.declared.Fact as table
use Rattle.table.specs.Cells.{view}
use Rattle.table.specs.Places.{as_fact}
use Rattle.culprit.specs.First.{or_else, first_of}

-- the code's answer as the theory has it: a fact whose run is asked for, or none is
abbrev pub Goal : Type 0
Goal = code.Option table.Fact

abbrev pub goal_of : Fact → Goal
goal_of f = Some (as_fact f)

abbrev pub goal_as : Option Fact → Goal
goal_as none = None
goal_as (some f) = goal_of f

abbrev pub nothing : Option Fact → Bool
nothing none = true
nothing (some f) = false

-- the state that a fact's run ends in
abbrev pub end_of : Fact → ℕ
end_of (head q g) = q
end_of (triple q g e) = e

abbrev pub only_if : Bool → Fact → Option Fact
only_if b f = find (λ _. b) (f ∷ [])

module _ (final : ℕ → Bool) (symbols states : ℕ) (heads triples : List ℕ) where
  -- the fact is present, and ends in a final state
  abbrev pub guilty : Fact → Bool
  guilty f = final (end_of f) && present (view symbols states heads triples) f

  abbrev pub if_guilty : Fact → Option Fact
  if_guilty f = only_if (guilty f) f

  abbrev pub head_of : (q : ℕ) → Option Fact
  head_of q = first_of (λ g. if_guilty (head q g)) symbols

  abbrev pub some_head : Option Fact
  some_head = first_of head_of states

  -- from the state s and the symbol a
  abbrev pub some_triple : (s a : ℕ) → Option Fact
  some_triple s a = first_of (λ e. if_guilty (triple s a e)) states

  abbrev pub culprit_in : (s a : ℕ) → Option Fact
  culprit_in s a = or_else some_head (some_triple s a)

  -- none is there
  abbrev pub clean_in : (s a : ℕ) → Bool
  clean_in s a = nothing (culprit_in s a)
