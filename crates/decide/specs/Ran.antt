-- What the rounds of a model ask, answer and leave. What serves the decision's own functions. Assumes nothing.
use Rattle.std.specs.Prelude.{List, ◌++◌, ◌≡◌, ℕ, ◌*◌, ◌≤◌, T, length, drop}
use Rattle.product.specs.Table.{left}
use Rattle.product.specs.Verdict as product
use Rattle.table.specs.declared.Size.{Size}
use Rattle.table.specs.Cells.{heads_of, triples_of, put_head, cleared}
use Rattle.model.specs.declared.Model.{Model}
use Rattle.model.specs.declared.Shape.{Shape}
use Rattle.model.specs.Model.{product_of}
use Rattle.model.specs.Valid.{valid}
use Rattle.fitting.specs.Fits.{heads_of as head_count, triples_of as triple_count}
use Rattle.decide.specs.Decided.{Decision, meaning, within}

-- what a model says beside its arrays
abbrev pub shape_of : Model → Shape
shape_of m = record { symbols = m.symbols; states = m.states; events = m.events; startstate = m.startstate; startsymbol = m.startsymbol; rules = m.rules; moves = m.moves }

-- the model is valid, and the arrays are long enough for its table
pub record Able (m : Model) (hs ts : List ℕ) : Type 0 where
  pub valid_model : T (valid m)
  pub heads_long : head_count m ≤ length hs
  pub triples_long : triple_count m ≤ length ts

-- round 0 in the arrays: the start head alone
pub record Started (z : Size) (q g : ℕ) (hs ts hs' ts' : List ℕ) : Type 0 where
  pub heads : hs' ≡ put_head z.symbols z.states (cleared (z.states * z.symbols) hs) q g 0
  pub triples : ts' ≡ cleared (z.states * z.symbols * z.states) ts

-- what the rounds then answer and leave
pub record Ran (m : Model) (budget : ℕ) (hs ts : List ℕ) (r : Decision) (hs' ts' : List ℕ) : Type 0 where
  pub answer : meaning r ≡ within budget (product.answer (product_of m) budget)
  pub heads : hs' ≡ heads_of m.symbols m.states (left (product_of m) budget) ++ drop (head_count m) hs
  pub triples : ts' ≡ triples_of m.symbols m.states (left (product_of m) budget) ++ drop (triple_count m) ts
