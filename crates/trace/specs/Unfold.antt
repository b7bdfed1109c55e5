-- What an unfolding leaves in the room for steps: the steps from a place on, as far as they fit. Assumes nothing.
use Rattle.std.specs.Prelude.{List, [], ◌≡◌, ℕ, suc, ◌+◌, ◌≤◌, ◌<◌, T, length, Some, None}
use Rattle.std.proofs.Math.Option.{Option}
use Rattle.product.specs.Lists.{each}
use Rattle.product.specs.Product.{Product, Step, stored}
use Rattle.product.specs.Facts.{Fact, Way}
use Rattle.product.specs.Rounds.{held}
use Rattle.product.specs.Table.{Table, ranks}
use Rattle.product.specs.Trace.{explanation, trace}
use Rattle.text.specs.Put.{Put}
use Rattle.table.specs.Places.{fact_of}
use Rattle.culprit.specs.Culprit.{Goal}

-- the numbers of rules and moves can be stored, and the place is one of the room
pub record Storable (rules moves at room : ℕ) : Type 0 where
  pub rules_in : rules ≤ 256
  pub moves_in : moves ≤ 128
  pub place_in : at ≤ room + 1

-- the ranks of t are those of the product p up to round n, and the explanations of `why` are those of p
pub record Explains (p : Product) (n : ℕ) (t : Table) (why : ℕ → Fact → Option Way) : Type 0 where
  pub rank : (f : Fact) → T (held p n f) → t f ≡ ranks p n f
  pub way : (k : ℕ) (f : Fact) → k < n → T (held p n f) → why (suc k) f ≡ explanation p k f

-- the fact that is asked for is held after round n; and its steps
abbrev pub HeldFor : Product → ℕ → Goal → Type 0
HeldFor p n None = Unit {0}
HeldFor p n (Some f) = T (held p n (fact_of f))

abbrev pub steps_for : (Fact → List Step) → Goal → List Step
steps_for t None = []
steps_for t (Some f) = t (fact_of f)

-- whatever product is explained, the trace of the fact was written
pub record Unfolded (t : Table) (why : ℕ → Fact → Option Way) (f : Goal) (room : List ℕ) (at r : ℕ) (room' : List ℕ) : Type 0 where
  pub within : r ≤ length room + 1
  pub steps : (p : Product) (n : ℕ) → Explains p n t why → HeldFor p n f → Put room room' at r (each (steps_for (trace p n) f) stored)
