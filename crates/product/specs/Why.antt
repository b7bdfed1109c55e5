-- Explanations of a fact, as trees, with their depths. Assumes nothing.
use Rattle.std.proofs.Math.Option.{some}
use Rattle.std.specs.Prelude.{◌≡◌, ℕ, suc, max}
use Rattle.product.specs.Product.{Rule, exit, direct, call, Step, Product, rule_of}
use Rattle.product.specs.Facts.{Fact, head, triple, first}

-- some step leads from state q to q' by the rule ρ
pub record Step-by (p : Product) (ρ : Rule) (q q' : ℕ) : Type 0 where
  pub s : Step
  pub is : rule_of p s ≡ ρ
  pub leads : p.next s q ≡ some q'

-- The fact has an explanation of this depth: the start head has depth 0, an exit's triple 1, any other fact one more than the deepest it needs.
pub data Why (p : Product) : Fact → ℕ → Type 0 where
  at_start : Why p (first p) 0
  exits : {g q q' : ℕ} → Step-by p (exit g) q q' → Why p (triple q g q') 1
  passes_on : {g g1 q q' n : ℕ} → Step-by p (direct g g1) q q' → Why p (head q g) n → Why p (head q' g1) (suc n)
  passes_back : {g g1 q q' e n : ℕ} → Step-by p (direct g g1) q q' → Why p (triple q' g1 e) n → Why p (triple q g e) (suc n)
  called : {g g1 g2 q q' n : ℕ} → Step-by p (call g g1 g2) q q' → Why p (head q g) n → Why p (head q' g1) (suc n)
  returned : {g g1 g2 q q' e n k : ℕ} → Step-by p (call g g1 g2) q q' → Why p (head q g) n → Why p (triple q' g1 e) k → Why p (head e g2) (suc (max n k))
  erased : {g g1 g2 q q' e f n k : ℕ} → Step-by p (call g g1 g2) q q' → Why p (triple q' g1 e) n → Why p (triple e g2 f) k → Why p (triple q g f) (suc (max n k))
