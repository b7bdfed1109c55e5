-- A step tried for a fact, by the tests of the code. Assumes nothing.
use Rattle.std.specs.Prelude.{Some, None}
use mathlib.Core.Bool.{Bool, true, false, cond, ◌&&◌}
use mathlib.Core.List.{[], ◌∷◌}
use mathlib.Core.Option.{Option, none, some}
use mathlib.Core.Path.{◌≡◌, refl, sym, ap, ap₂, ◌∙◌}
use Prim.Native.Nat.{ℕ, zero, suc, ◌-◌, ◌<◌}
use native.Mathlib.Omega.{arith}
use Rattle.product.specs.Lists.{all, find}
use Rattle.product.specs.Product as product
use Rattle.product.specs.Product.{exit, direct, call, Step, Product}
use Rattle.product.specs.Facts.{Fact, head, triple, Way, needs, same, leaves, enters, backs, returns, meets}
use Rattle.product.specs.Rounds.{works}
use Rattle.product.specs.Table.{Table}
use Rattle.model.specs.declared.Rule.{Rule}
use Rattle.std.specs.Prelude as std
use Rattle.std.specs.Prelude.{Some, None}
use Rattle.model.specs.Answers.{rule_as, meant, next_as, landed}
use Rattle.model.proofs.Answers.{meant_as}
use Rattle.model.proofs.Bounds.{landed_as}
use Rattle.table.specs.declared.Fact as code
use Rattle.table.specs.Places.{fact_of}
use Rattle.culprit.specs.Culprit.{Goal}
use Rattle.explain.specs.declared.Cause.{Cause}
use Rattle.explain.specs.Answers.{Found, explained, needs_of, has_all, first_has, cause_of, found_as}
use Rattle.explain.specs.Search.{step_of, given_by, source, sooner, later, chances, tried, tried_at, way_by_move, way_by_rule, searched, way_by_rank}
use Rattle.culprit.specs.First.{or_else, first_of}
use Rattle.culprit.proofs.First.{first_here, find_append}

abbrev if_has : (Fact → Bool) → Found → Found
if_has h w = cond (has_all h w) w None

abbrev or_found : Found → Found → Found
or_found (Some c) d = Some c
or_found None d = d

first_has_lem : (h : Fact → Bool) (a b : Found) → first_has h a b ≡ or_found (if_has h a) (if_has h b)
first_has_lem h None b = refl
first_has_lem h (Some c) b = go (all h (needs_of c))
  where
    go : (x : Bool) → cond x (Some c) (if_has h b) ≡ or_found (cond x (Some c) None) (if_has h b)
    go true = refl
    go false = refl

found_if : (b : Bool) (w : Way) → cond b (Some (cause_of w)) None ≡ found_as (cond b (some w) none)
found_if true w = refl
found_if false w = refl

-- one way: first what it gives, and then what it needs
has_one : (h : Fact → Bool) (f : Fact) (w : Way) → needs_of (cause_of w) ≡ needs w → if_has h (found_as (given_by f (w ∷ []))) ≡ found_as (find (works h f) (w ∷ []))
has_one h f w e = go (same w.gives f) ∙ ap (λ ds. found_as (cond (same w.gives f && all h ds) (some w) none)) e
  where
    go : (b : Bool) → if_has h (found_as (cond b (some w) none)) ≡ found_as (cond (b && all h (needs_of (cause_of w))) (some w) none)
    go true = found_if (all h (needs_of (cause_of w))) w
    go false = refl

module _ (h : Fact → Bool) (s : Step) (x y : ℕ) where
  has_sooner : (f : Fact) (ρ : product.Rule) → if_has h (found_as (given_by f (sooner f s x y ρ))) ≡ found_as (find (works h f) (sooner f s x y ρ))
  has_sooner (head q g) (exit a) = refl
  has_sooner (head q g) (direct a g1) = has_one h (head q g) (enters s x a y g1) refl
  has_sooner (head q g) (call a g1 g2) = has_one h (head q g) (enters s x a y g1) refl
  has_sooner (triple q g e) (exit a) = has_one h (triple q g e) (leaves s q a y) refl
  has_sooner (triple q g e) (direct a g1) = has_one h (triple q g e) (backs s q a y g1 e) refl
  has_sooner (triple q g e) (call a g1 g2) = has_one h (triple q g e) (meets s q a y g1 g2 x e) refl

  has_later : (f : Fact) (ρ : product.Rule) → if_has h (found_as (given_by f (later f s x y ρ))) ≡ found_as (find (works h f) (later f s x y ρ))
  has_later (head q g) (exit a) = refl
  has_later (head q g) (direct a g1) = refl
  has_later (head q g) (call a g1 g2) = has_one h (head q g) (returns s x a y g1 g2 q) refl
  has_later (triple q g e) ρ = refl

-- two ways, one after the other
found_or : (o o' : Option Way) → or_found (found_as o) (found_as o') ≡ found_as (or_else o o')
found_or none o' = refl
found_or (some w) o' = refl

-- what the answers say of the theory's
pub found_none : (o : Option Way) {d : Found} → d ≡ found_as o → d ≡ None → o ≡ none
found_none none e i = refl
found_none (some w) e i = let z : ◌≡◌ {A = ℕ} 0 1 = cc in absurd (omega arith)

pub found_some : (o : Option Way) {d : Found} {c : Cause} → d ≡ found_as o → d ≡ Some c → (w : Way) × (o ≡ some w) × (Some c ≡ Some (cause_of w))
found_some none e i = let z : ◌≡◌ {A = ℕ} 0 1 = cc in absurd (omega arith)
found_some (some w) e i = (w, refl, sym i ∙ e)

-- a rule and a move with a free state, by the state that they lead to
module _ (p : Product) (h : Fact → Bool) (f : Fact) (r v x : ℕ) {q : ℕ} (from : q ≡ source f x) {n : std.Option ℕ}
    (read : n ≡ next_as (p.next (step_of r v) q)) where
  lands : p.next (step_of r v) (source f x) ≡ landed n
  lands = sym (ap landed (read ∙ ap (λ q. next_as (p.next (step_of r v) q)) from) ∙ landed_as (p.next (step_of r v) (source f x)))

  pub tried_stuck : n ≡ None → None ≡ found_as (tried_at p h f r v x)
  tried_stuck i = ap (λ o. found_as (tried h f (step_of r v) x (p.rule r) o)) (sym (lands ∙ ap landed i))

  pub tried_to : {y : ℕ} → n ≡ Some y → {ρ : Rule} → ρ ≡ rule_as (p.rule r)
      → {a : Found} → a ≡ found_as (given_by f (sooner f (step_of r v) x y (meant ρ))) → {b : Found} → b ≡ found_as (given_by f (later f (step_of r v) x y (meant ρ)))
      → {d : Found} → d ≡ first_has h a b → d ≡ found_as (tried_at p h f r v x)
  tried_to {y} i {ρ} k {a} one {b} two e =
      e
      ∙ first_has_lem h a b
      ∙ ap₂ (λ a b. or_found (if_has h a) (if_has h b)) one two
      ∙ ap₂ or_found (has_sooner h (step_of r v) x y f (meant ρ)) (has_later h (step_of r v) x y f (meant ρ))
      ∙ found_or (find (works h f) (sooner f (step_of r v) x y (meant ρ))) (find (works h f) (later f (step_of r v) x y (meant ρ)))
      ∙ ap found_as (sym (find_append (works h f) (sooner f (step_of r v) x y (meant ρ)) (later f (step_of r v) x y (meant ρ))))
      ∙ ap (λ ρ. found_as (find (works h f) (chances f (step_of r v) x y ρ))) (ap meant k ∙ meant_as (p.rule r))
      ∙ ap (λ o. found_as (tried h f (step_of r v) x (p.rule r) o)) (sym (lands ∙ ap landed i))

-- the search comes to its end
module _ (p : Product) (h : Fact → Bool) (f : Fact) (rules moves states r v x : ℕ) where
  pub search_here : r < rules → first_of (way_by_rule p h f moves states) r ≡ none
      → v < moves → first_of (way_by_move p h f states r) v ≡ none
      → x < states → first_of (tried_at p h f r v) x ≡ none
      → {d : Found} → d ≡ found_as (tried_at p h f r v x) → {c : Cause} → d ≡ Some c → Some c ≡ found_as (searched p h f rules moves states)
  search_here i a j b k e read told =
      let (w, is, by) = found_some (tried_at p h f r v x) read told in
      by ∙ ap found_as (sym
      (first_here (way_by_rule p h f moves states) rules r w i a
      (first_here (way_by_move p h f states r) moves v w j b
      (first_here (tried_at p h f r v) states x w k e is))))

-- the fact that is asked for, by its rank k
module _ (why : ℕ → Fact → Option Way) (t : Table) {f : Goal} {d : code.Fact} (i : f ≡ Some d) {k : ℕ} (ranked : k ≡ t (fact_of d)) where
  pub asked_ranked : (k ≡ 0 → ⊥) → {w : Found} → w ≡ found_as (why (suc (k - 1)) (fact_of d)) → w ≡ found_as (explained why t f)
  asked_ranked n e = rw (i, ← ranked) (by_rank k n e)
    where
      by_rank : (k : ℕ) → (k ≡ 0 → ⊥) → {w : Found} → w ≡ found_as (why (suc (k - 1)) (fact_of d)) → w ≡ found_as (way_by_rank why (fact_of d) k)
      by_rank zero n e = absurd (n refl)
      by_rank (suc k) n e = e ∙ ap (λ k. found_as (why k (fact_of d))) (omega arith)
