-- The arrays that a product is held in: its rules in rows, and for each class the matrix of its steps. What serves the decision's own functions. Assumes nothing.
use Rattle.std.specs.Prelude.{List, ◌≡◌, ℕ, ◌<◌, ◌≤◌, T}
use Rattle.product.specs.Lists.{up_to}
use Rattle.product.specs.Product.{Product}
use Rattle.bits.specs.Matrix.{mats}
use Rattle.relations.specs.Relations.{steps}
use Rattle.steps.specs.Rows.{class_at, row_rule}

-- for Q states
pub record Frame (p : Product) (Q : ℕ) (rs tg : List ℕ) : Type 0 where
  pub few_states : Q ≤ 8
  pub few_rules : p.rules ≤ 256
  pub states_are : p.states ≡ up_to Q
  pub rules_are : (r : ℕ) → r < p.rules → p.rule r ≡ row_rule rs r
  pub class_in : (r : ℕ) → r < p.rules → class_at rs r < 256
  pub steps_are : (r q q' : ℕ) → r < p.rules → steps p r q q' ≡ mats tg (class_at rs r) q q'
  pub steps_in : (c q q' : ℕ) → T (mats tg c q q') → (q < Q) × (q' < Q)
