-- The search over rules, moves and states finds the first of the product's ways that gives the fact. Assumes nothing.
use mathlib.Core.Bool.{Bool, true, false, cond, ◌&&◌}
use mathlib.Core.List.{[], ◌∷◌, append-nil}
use mathlib.Core.Option.{Option, none, some}
use mathlib.Core.Path.{◌≡◌, refl, sym, ap, ◌∙◌}
use Prim.Native.Nat.{ℕ, ◌<◌}
use native.Mathlib.Omega.{arith}
use lib.Dec.{eqb}
use borrow.Author.Tests.{ne_eqb}
use Rattle.product.specs.Lists.{up_to, over, each, find, all}
use Rattle.product.specs.Product.{Rule, exit, direct, call, Product, rule_of, Step}
use Rattle.product.specs.Facts.{Fact, head, triple, Way, needs, same, leaves, enters, backs, returns, meets, consequences, ways_to, ways_of, ways}
use Rattle.product.specs.Rounds.{works}
use Rattle.product.proofs.Lists.{over_over}
use Rattle.model.specs.declared.Model.{Model}
use Rattle.model.specs.Model.{product_of}
use Rattle.culprit.specs.First.{first_of}
use Rattle.explain.specs.Search.{step_of, chances, tried, tried_at, way_by_move, way_by_rule, searched}
use Rattle.culprit.proofs.First.{or_none, first_same, first_only, first_idle, first_steady, find_append, find_over, find_fails, find_one}

-- the ways, rule by rule and move by move
find_ways : (p : Product) (P : Way → Bool) → find P (ways p) ≡ first_of (λ r. first_of (λ v. find P (ways_of p (step_of r v))) p.moves) p.rules
find_ways p P =
    ap (find P) (over_over (up_to p.rules) (λ r. each (up_to p.moves) (step_of r)) (ways_of p))
    ∙ find_over P p.rules (λ r. over (each (up_to p.moves) (step_of r)) (ways_of p))
    ∙ first_same (λ r. find P (over (each (up_to p.moves) (step_of r)) (ways_of p))) (λ r. first_of (λ v. find P (ways_of p (step_of r v))) p.moves) p.rules λ r _.
    ap (find P) (over_over (up_to p.moves) (λ v. step_of r v ∷ []) (ways_of p))
    ∙ find_over P p.moves (λ v. over (step_of r v ∷ []) (ways_of p))
    ∙ first_same (λ v. find P (over (step_of r v ∷ []) (ways_of p))) (λ v. find P (ways_of p (step_of r v))) p.moves (λ v _. ap (find P) (append-nil (ways_of p (step_of r v))))

module _ (h : Fact → Bool) (Q : ℕ) (s : Step) where
  -- of a step from x the ways that give the head (q, g)
  module _ (q g : ℕ) (in_range : q < Q) (x : ℕ) where
    abbrev P : Way → Bool
    P = works h (head q g)

    by_head : (y : ℕ) (ρ : Rule) → find P (consequences (up_to Q) s x y ρ) ≡ find P (chances (head q g) s x y ρ)
    by_head y (exit a) = refl
    by_head y (direct a g1) = ap (λ o. cond (P (enters s x a y g1)) (some (enters s x a y g1)) o) (find_fails P Q (backs s x a y g1) (λ e. refl))
    by_head y (call a g1 g2) = ap (λ o. cond (P (enters s x a y g1)) (some (enters s x a y g1)) o)
        (find_append P (each (up_to Q) (returns s x a y g1 g2)) (over (up_to Q) (λ e. each (up_to Q) (meets s x a y g1 g2 e)))
        ∙ rw (find_one P Q q (returns s x a y g1 g2) in_range (λ e n. rw (ne_eqb e q n)), no_meets)
        (or_none (find P (returns s x a y g1 g2 q ∷ []))))
      where
        no_meets : find P (over (up_to Q) (λ e. each (up_to Q) (meets s x a y g1 g2 e))) ≡ none
        no_meets = find_over P Q (λ e. each (up_to Q) (meets s x a y g1 g2 e))
            ∙ first_idle (λ e. find P (each (up_to Q) (meets s x a y g1 g2 e))) Q (λ e _. find_fails P Q (meets s x a y g1 g2 e) (λ f. refl))

  -- and those that give the triple (q, g, e): none from another state than q
  module _ (q g e : ℕ) where
    abbrev R : Way → Bool
    R = works h (triple q g e)

    no_returns : (x a y g1 g2 : ℕ) → find R (each (up_to Q) (returns s x a y g1 g2)) ≡ none
    no_returns x a y g1 g2 = find_fails R Q (returns s x a y g1 g2) (λ e'. refl)

    elsewhere : (x : ℕ) → (x ≡ q → ⊥) → (y : ℕ) (ρ : Rule) → find R (consequences (up_to Q) s x y ρ) ≡ none
    elsewhere x n y (exit a) = rw (ne_eqb x q n)
    elsewhere x n y (direct a g1) = find_fails R Q (backs s x a y g1) (λ e'. rw (ne_eqb x q n))
    elsewhere x n y (call a g1 g2) =
        find_append R (each (up_to Q) (returns s x a y g1 g2)) (over (up_to Q) (λ m. each (up_to Q) (meets s x a y g1 g2 m)))
        ∙ rw (no_returns x a y g1 g2) (find_over R Q (λ m. each (up_to Q) (meets s x a y g1 g2 m))
        ∙ first_idle (λ m. find R (each (up_to Q) (meets s x a y g1 g2 m))) Q (λ m _. find_fails R Q (meets s x a y g1 g2 m) (λ f. rw (ne_eqb x q n))))

    not_into : (f : ℕ) → (f ≡ e → ⊥) → (w : Way) (a : ℕ) → w.gives ≡ triple q a f → R w ≡ false
    not_into f n w a is = ap (λ d. same d (triple q g e) && all h (needs w)) is ∙ go (eqb q q && eqb a g)
      where
        go : (b : Bool) → ((b && eqb f e) && all h (needs w)) ≡ false
        go true = rw (ne_eqb f e n)
        go false = refl

    module _ (some_state : 0 < Q) (in_range : e < Q) where
      by_triple : (y : ℕ) (ρ : Rule) → find R (consequences (up_to Q) s q y ρ) ≡ first_of (λ x. find R (chances (triple q g e) s x y ρ)) Q
      by_triple y (exit a) = sym (first_steady (find R (leaves s q a y ∷ [])) Q some_state)
      by_triple y (direct a g1) =
          find_one R Q e (backs s q a y g1) in_range (λ f n. not_into f n (backs s q a y g1 f) a refl) ∙ sym (first_steady (find R (backs s q a y g1 e ∷ [])) Q some_state)
      by_triple y (call a g1 g2) =
          find_append R (each (up_to Q) (returns s q a y g1 g2)) (over (up_to Q) (λ m. each (up_to Q) (meets s q a y g1 g2 m)))
          ∙ rw (no_returns q a y g1 g2) (find_over R Q (λ m. each (up_to Q) (meets s q a y g1 g2 m))
          ∙ first_same (λ m. find R (each (up_to Q) (meets s q a y g1 g2 m))) (λ m. find R (meets s q a y g1 g2 m e ∷ [])) Q λ m _.
          find_one R Q e (meets s q a y g1 g2 m) in_range (λ f n. not_into f n (meets s q a y g1 g2 m f) a refl))

-- the numbers of a fact that its cell needs in range; and the whole search
abbrev pub StatesIn : ℕ → Fact → Type 0
StatesIn Q (head q g) = q < Q
StatesIn Q (triple q g e) = (q < Q) × (e < Q)

module _ (m : Model) (h : Fact → Bool) where
  by_step : (f : Fact) → StatesIn m.states f → (r v : ℕ)
      → find (works h f) (ways_of (product_of m) (step_of r v)) ≡ way_by_move (product_of m) h f m.states r v
  by_step (head q g) l r v =
      find_over (works h (head q g)) m.states (λ x. ways_to (product_of m) (step_of r v) x ((product_of m).next (step_of r v) x))
      ∙ first_same (λ x. find (works h (head q g)) (ways_to (product_of m) (step_of r v) x ((product_of m).next (step_of r v) x)))
      (tried_at (product_of m) h (head q g) r v) m.states λ x _.
      at x ((product_of m).next (step_of r v) x)
    where
      at : (x : ℕ) (o : Option ℕ) → find (works h (head q g)) (ways_to (product_of m) (step_of r v) x o) ≡ tried h (head q g) (step_of r v) x (rule_of (product_of m) (step_of r v)) o
      at x none = refl
      at x (some y) = by_head h m.states (step_of r v) q g l x y (rule_of (product_of m) (step_of r v))
  by_step (triple q g e) (l, k) r v =
      find_over (works h (triple q g e)) m.states (λ x. ways_to (product_of m) (step_of r v) x ((product_of m).next (step_of r v) x))
      ∙ first_only (λ x. find (works h (triple q g e)) (ways_to (product_of m) (step_of r v) x ((product_of m).next (step_of r v) x))) m.states q l (λ x n. other x n ((product_of m).next (step_of r v) x))
      ∙ at ((product_of m).next (step_of r v) q)
    where
      other : (x : ℕ) → (x ≡ q → ⊥) → (o : Option ℕ) → find (works h (triple q g e)) (ways_to (product_of m) (step_of r v) x o) ≡ none
      other x n none = refl
      other x n (some y) = elsewhere h m.states (step_of r v) q g e x n y (rule_of (product_of m) (step_of r v))

      at : (o : Option ℕ) → find (works h (triple q g e)) (ways_to (product_of m) (step_of r v) q o) ≡ first_of (λ x. tried h (triple q g e) (step_of r v) x (rule_of (product_of m) (step_of r v)) o) m.states
      at none = sym (first_steady none m.states (omega arith))
      at (some y) = by_triple h m.states (step_of r v) q g e (omega arith) k y (rule_of (product_of m) (step_of r v))

  pub searched_ways : (f : Fact) → StatesIn m.states f
      → searched (product_of m) h f m.rules m.moves m.states ≡ find (works h f) (ways (product_of m))
  searched_ways f l = sym
      (find_ways (product_of m) (works h f)
      ∙ first_same (λ r. first_of (λ v. find (works h f) (ways_of (product_of m) (step_of r v))) m.moves) (way_by_rule (product_of m) h f m.moves m.states) m.rules λ r _.
      first_same (λ v. find (works h f) (ways_of (product_of m) (step_of r v))) (way_by_move (product_of m) h f m.states r) m.moves (λ v _. by_step f l r v))
