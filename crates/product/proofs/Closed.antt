-- A set of facts that is closed under the steps of the product has every fact of the runs. Assumes nothing.
use mathlib.Core.Bool.{Bool, true, false, cond}
use mathlib.Core.List.{List, [], ◌∷◌, ◌++◌}
use mathlib.Core.Option.{Option, none, some}
use mathlib.Core.Path.{◌≡◌, refl, subst}
use Prim.Native.Nat.{ℕ}
use native.Mathlib.Omega.{arith}
use lib.Dec.{eqb}
use borrow.Author.Tests.{eqb-true, eq-eqb}
use Rattle.product.specs.Lists.{◌∈◌}
use Rattle.product.specs.Product.{Rule, exit, direct, call, symbol, pushed, Step, Product, rule_of, InRange}
use Rattle.product.specs.Runs.{State, replaced, step, Run, start}
use Rattle.product.specs.Facts.{Fact, head, triple, first, Leads, Closed}
use Rattle.product.proofs.Ways.{EachWay, steps_ways, ways_steps}

pub none_some : {A : Type 0} {x : A} {B : Type 0} → none ≡ some x → B
none_some e = let z : ◌≡◌ {A = ℕ} 0 1 = cc in absurd (omega arith)

-- what a step does, and that it does nothing else
module _ (p : Product) (s : Step) where
  pub step_of_lem : (q q' : ℕ) (w : List ℕ) → p.next s q ≡ some q' → step p s (q, symbol (rule_of p s) ∷ w) ≡ some (q', pushed (rule_of p s) ++ w)
  unfolding step
  step_of_lem q q' w e = rw (eq-eqb (symbol (rule_of p s)) (symbol (rule_of p s)) refl, e)

  pub step_elim : (P : State → State → Type 0)
      → ((q q' : ℕ) (w : List ℕ) → p.next s q ≡ some q' → P (q, symbol (rule_of p s) ∷ w) (q', pushed (rule_of p s) ++ w))
      → (c d : State) → step p s c ≡ some d → P c d
  unfolding step
  step_elim P k (q, []) d e = none_some e
  step_elim P k (q, g ∷ w) d e = at (eqb (symbol (rule_of p s)) g) refl e
    where
      to : (o : Option ℕ) → p.next s q ≡ o → replaced (rule_of p s) w o ≡ some d → P (q, symbol (rule_of p s) ∷ w) d
      to none _ e = none_some e
      to (some q') i e = let j : (q', pushed (rule_of p s) ++ w) ≡ d = cc in subst (P (q, symbol (rule_of p s) ∷ w)) j (k q q' w i)

      at : (b : Bool) → eqb (symbol (rule_of p s)) g ≡ b → cond b (replaced (rule_of p s) w (p.next s q)) none ≡ some d → P (q, g ∷ w) d
      at true i e = subst (λ g. P (q, g ∷ w) d) (eqb-true (symbol (rule_of p s)) g i) (to (p.next s q) refl e)
      at false i e = none_some e

-- a configuration whose facts are in F, where Z holds of the states over the empty stack
abbrev pub Good : (Fact → Type 0) → List ℕ → (ℕ → Type 0) → ℕ → List ℕ → Type 0
Good F S Z q [] = Z q
Good F S Z q (g ∷ w) = F (head q g) × ((e : ℕ) → e ∈ S → F (triple q g e) → Good F S Z e w)

good_step : (F : Fact → Type 0) (S : List ℕ) (Z : ℕ → Type 0) (s : Step) (q q' : ℕ) (ρ : Rule) (w : List ℕ) → q' ∈ S
    → EachWay (Leads F F) S s q q' ρ → Good F S Z q (symbol ρ ∷ w) → Good F S Z q' (pushed ρ ++ w)
good_step F S Z s q q' (exit g) w h k (_, rest) = rest q' h (k tt)
good_step F S Z s q q' (direct g g1) w h (k, l) (x, rest) = (k (x, tt), λ e i t. rest e i (l e i (t, tt)))
good_step F S Z s q q' (call g g1 g2) w h (k, l, n) (x, rest) =
    (k (x, tt), λ e i t. (l e i (x, (t, tt)), λ f j t'. rest f j (n e f i j (t, (t', tt)))))

module _ (p : Product) (R : InRange p) (F : Fact → Type 0) (closed : Closed p F) where
  good_run : (Z : ℕ → Type 0) (ss : List Step) (c c' : State) → Run p c ss c' → Good F p.states Z c.0 c.1 → Good F p.states Z c'.0 c'.1
  good_run Z [] c c' e h = subst (λ c. Good F p.states Z c.0 c.1) e h
  good_run Z (s ∷ ss) c c' (d, e, run) h =
      good_run Z ss d c' run
      (step_elim p s (λ c d. Good F p.states Z c.0 c.1 → Good F p.states Z d.0 d.1)
      (λ q q' w i. good_step F p.states Z s q q' (rule_of p s) w (R.steps_in s q q' i).3 (ways_steps p (Leads F F) R closed s q q' i)) c d e h)

  -- whatever runs reach from state q over g alone is good, if the head is there
  good_reached : (q g : ℕ) → F (head q g) → (ss : List Step) (c : State) → Run p (q, g ∷ []) ss c
      → Good F p.states (λ e. F (triple q g e)) c.0 c.1
  good_reached q g h ss c run = good_run (λ e. F (triple q g e)) ss (q, g ∷ []) c run (h, λ e l t. t)

  -- a closed set with the first head has every head that is reached, and the triple of every run from the start to the empty stack
  pub head_reached : F (first p) → (ss : List Step) (q g : ℕ) (w : List ℕ) → Run p (start p) ss (q, g ∷ w) → F (head q g)
  head_reached h ss q g w run = (good_reached p.start_state p.start_symbol h ss (q, g ∷ w) run).0

  pub end_reached : F (first p) → (ss : List Step) (q : ℕ) → Run p (start p) ss (q, []) → F (triple p.start_state p.start_symbol q)
  end_reached h ss q run = good_reached p.start_state p.start_symbol h ss (q, []) run

-- a closed set has every triple of the erase relation, from whatever state and symbol: its heads do not matter, so all of them are let in
abbrev Triples : (Fact → Type 0) → Fact → Type 0
Triples F (head q g) = Unit {0}
Triples F (triple q g e) = F (triple q g e)

only_triples : (F : Fact → Type 0) (S : List ℕ) (s : Step) (q q' : ℕ) (ρ : Rule) → EachWay (Leads F F) S s q q' ρ → EachWay (Leads (Triples F) (Triples F)) S s q q' ρ
only_triples F S s q q' (exit g) k = k
only_triples F S s q q' (direct g g1) (k, l) = (λ _. tt, l)
only_triples F S s q q' (call g g1 g2) (k, l, n) = (λ _. tt, λ e i h. tt, n)

pub triple_reached : (p : Product) → InRange p → (F : Fact → Type 0) → Closed p F → (ss : List Step) (q g e : ℕ) → Run p (q, g ∷ []) ss (e, []) → F (triple q g e)
triple_reached p R F closed ss q g e run =
    good_reached p R (Triples F)
    (steps_ways p (Leads (Triples F) (Triples F)) λ s q q' i. only_triples F p.states s q q' (rule_of p s) (ways_steps p (Leads F F) R closed s q q' i))
    q g tt ss (e, []) run
