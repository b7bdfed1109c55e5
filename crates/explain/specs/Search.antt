-- The search for an explanation: rule by rule, move by move, and state by state. Assumes nothing.
use Rattle.std.specs.Prelude.{Bool, List, [], ◌∷◌, ◌++◌, ℕ, zero, suc, ltb}
use Rattle.std.proofs.Math.Option.{Option, none, some}
use Rattle.product.specs.Lists.{find}
use Rattle.product.specs.Product.{Rule, exit, direct, call, Step, Product}
use Rattle.product.specs.Facts.{Fact, head, triple, Way, same, leaves, enters, backs, returns, meets}
use Rattle.product.specs.Rounds.{works}
use Rattle.product.specs.Table.{Table}
use Rattle.table.specs.Cells.{view}
use Rattle.culprit.specs.First.{first_of}

-- the facts of rank below k, in a table and in its two arrays
abbrev pub lower : Table → ℕ → Fact → Bool
lower t k d = ltb (t d) k

abbrev pub below : (symbols states : ℕ) → (heads triples : List ℕ) → ℕ → Fact → Bool
below symbols states heads triples k = lower (view symbols states heads triples) k

abbrev pub step_of : (r v : ℕ) → Step
step_of r v = record { by_rule = r; by_move = v }

-- the first of some ways that gives the fact
abbrev pub given_by : Fact → List Way → Option Way
given_by f = find (λ w. same w.gives f)

-- The state that a step starts from, where x is the one free state: for a head the source of the step, for a triple the middle state.
abbrev pub source : Fact → ℕ → ℕ
source (head q g) x = x
source (triple q g e) x = q

-- of the ways of the step s to the state y that may give the fact the one that comes first: a head is entered
abbrev pub sooner : Fact → Step → (x y : ℕ) → Rule → List Way
sooner (head q g) s x y (exit a) = []
sooner (head q g) s x y (direct a g1) = enters s x a y g1 ∷ []
sooner (head q g) s x y (call a g1 g2) = enters s x a y g1 ∷ []
sooner (triple q g e) s x y (exit a) = leaves s q a y ∷ []
sooner (triple q g e) s x y (direct a g1) = backs s q a y g1 e ∷ []
sooner (triple q g e) s x y (call a g1 g2) = meets s q a y g1 g2 x e ∷ []

-- and the one that comes after it: a head is returned to
abbrev pub later : Fact → Step → (x y : ℕ) → Rule → List Way
later (head q g) s x y (exit a) = []
later (head q g) s x y (direct a g1) = []
later (head q g) s x y (call a g1 g2) = returns s x a y g1 g2 q ∷ []
later (triple q g e) s x y ρ = []

-- entering before returning
abbrev pub chances : Fact → Step → (x y : ℕ) → Rule → List Way
chances f s x y ρ = sooner f s x y ρ ++ later f s x y ρ

abbrev pub chances_to : Fact → Step → ℕ → Rule → Option ℕ → List Way
chances_to f s x ρ none = []
chances_to f s x ρ (some y) = chances f s x y ρ

abbrev pub tried : (Fact → Bool) → Fact → Step → ℕ → Rule → Option ℕ → Option Way
tried h f s x ρ o = find (works h f) (chances_to f s x ρ o)

module _ (p : Product) (h : Fact → Bool) (f : Fact) where
  -- by rule r, move v and the free state x
  abbrev pub tried_at : (r v x : ℕ) → Option Way
  tried_at r v x =
      tried h f (step_of r v) x (p.rule r) (p.next (step_of r v) (source f x))

  -- the lowest state; the first move, then the lowest state; the first rule, then the first move, then the lowest state
  abbrev pub way_by_move : (states r v : ℕ) → Option Way
  way_by_move states r v = first_of (tried_at r v) states

  abbrev pub way_by_rule : (moves states r : ℕ) → Option Way
  way_by_rule moves states r = first_of (way_by_move states r) moves

  abbrev pub searched : (rules moves states : ℕ) → Option Way
  searched rules moves states = first_of (way_by_rule moves states) rules

-- the explanation of a fact of rank k, in the two arrays
abbrev pub why_in : Product → (symbols states : ℕ) → (heads triples : List ℕ) → (rules moves : ℕ) → ℕ → Fact → Option Way
why_in p symbols states heads triples rules moves k f =
    searched p (below symbols states heads triples k) f rules moves states

-- the explanation of a fact by its rank; one of rank 0 has none
abbrev pub way_by_rank : (ℕ → Fact → Option Way) → Fact → ℕ → Option Way
way_by_rank why f zero = none
way_by_rank why f (suc k) = why (suc k) f
