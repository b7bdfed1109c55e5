-- What is found has its rule and its move in range, and needs facts of lower rank only; and its steps are those of the trace. Assumes nothing.
use Rattle.std.specs.Prelude.{Some, None}
use mathlib.Core.List.{List, [], ◌∷◌}
use mathlib.Core.Option.{Option, none, some}
use mathlib.Core.Path.{◌≡◌, refl, subst⁻¹}
use Prim.Native.Nat.{ℕ, zero, suc, ◌<◌}
use native.Mathlib.Omega.{arith}
use lib.Dec.{T, ltb→lt}
use Rattle.product.specs.Lists.{All, all}
use Rattle.product.specs.Product.{Rule, exit, direct, call, Step, Product}
use Rattle.product.specs.Facts.{Fact, head, triple, Way, needs, same}
use Rattle.product.specs.Rounds.{works}
use Rattle.product.specs.Table.{Table}
use Rattle.product.proofs.Lists.{and_right, All-of, All-left, All-right, All-at}
use Rattle.table.specs.Places.{fact_of}
use Rattle.table.proofs.Places.{fact_back}
use Rattle.explain.specs.declared.Cause.{Cause}
use Rattle.explain.specs.Search.{lower, step_of, source, chances_to, tried, tried_at, way_by_move, way_by_rule, searched, way_by_rank}
use Rattle.explain.specs.Answers.{Found, first_in, second_in, cause_of, found_as, rank_of, explained}
use Rattle.culprit.specs.Culprit.{Goal, goal_of}
use Rattle.culprit.proofs.First.{first_elim, find_elim}
use Rattle.explain.proofs.Tried.{found_some}

-- of the facts in a list the first and the second that are asked for
module _ (P : Goal → Type 0) (nothing : P None) where
  pub first_of : (xs : List Fact) → All (λ f. P (goal_of f)) xs → P (first_in xs)
  first_of [] h = nothing
  first_of (x ∷ xs) h = h.0

  pub second_of : (xs : List Fact) → All (λ f. P (goal_of f)) xs → P (second_in xs)
  second_of [] h = nothing
  second_of (x ∷ xs) h = first_of xs h.1

-- a cause that was found for a fact of rank k in the table t
pub record Falls (rules moves : ℕ) (t : Table) (k : ℕ) (c : Cause) : Type 0 where
  pub rule_in : c.rule < rules
  pub move_in : c.by < moves
  pub before_lower : rank_of t c.before < k
  pub first_lower : rank_of t c.first < k
  pub second_lower : rank_of t c.second < k

-- the ways that are tried are by the step
chances_by : (f : Fact) (s : Step) (x : ℕ) (ρ : Rule) (o : Option ℕ) → All (λ w. w.by ≡ s) (chances_to f s x ρ o)
chances_by f s x ρ none = tt
chances_by (head q g) s x (exit a) (some y) = tt
chances_by (head q g) s x (direct a g1) (some y) = (refl, tt)
chances_by (head q g) s x (call a g1 g2) (some y) = (refl, (refl, tt))
chances_by (triple q g e) s x (exit a) (some y) = (refl, tt)
chances_by (triple q g e) s x (direct a g1) (some y) = (refl, tt)
chances_by (triple q g e) s x (call a g1 g2) (some y) = (refl, tt)

module _ (rules moves : ℕ) (t : Table) (k : ℕ) where
  abbrev Sound : Way → Type 0
  Sound w = (w.by.by_rule < rules) × (w.by.by_move < moves) × T (all (lower t k) (needs w))

  sound_tried : (f : Fact) (r v x : ℕ) → r < rules → v < moves → (ρ : Rule) (o : Option ℕ) (w : Way) → tried (lower t k) f (step_of r v) x ρ o ≡ some w → Sound w
  sound_tried f r v x i j ρ o w e =
      let (l, u) = find_elim (works (lower t k) f) (chances_to f (step_of r v) x ρ o) w e in
      let s : w.by ≡ step_of r v = All-at (λ w. w.by ≡ step_of r v) (chances_to f (step_of r v) x ρ o) (chances_by f (step_of r v) x ρ o) w l in
      (subst⁻¹ (λ (s : Step). s.by_rule < rules) s i, subst⁻¹ (λ (s : Step). s.by_move < moves) s j, and_right (same w.gives f) (all (lower t k) (needs w)) u)

  falls_by : 0 < k → (w : Way) → Sound w → Falls rules moves t k (cause_of w)
  falls_by pos w (i, j, u) =
      let l : All (λ d. rank_of t (goal_of d) < k) (needs w) = All-of (λ d. rank_of t (goal_of d) < k) (lower t k) one (needs w) u in
      let b : All (λ d. rank_of t (goal_of d) < k) w.before = All-left (λ d. rank_of t (goal_of d) < k) w.before w.after l in
      let a : All (λ d. rank_of t (goal_of d) < k) w.after = All-right (λ d. rank_of t (goal_of d) < k) w.before w.after l in
      record {
        rule_in = i;
        move_in = j;
        before_lower = first_of (λ f. rank_of t f < k) pos w.before b;
        first_lower = first_of (λ f. rank_of t f < k) pos w.after a;
        second_lower = second_of (λ f. rank_of t f < k) pos w.after a;
      }
    where
      one : (d : Fact) → T (lower t k d) → rank_of t (goal_of d) < k
      one d u = subst⁻¹ (λ d. t d < k) (fact_back d) (ltb→lt (t d) k u)

pub same_cause : {c c' : Cause} → Some c ≡ Some c' → c ≡ c'
same_cause e = cc

-- what was found for a fact falls
module _ (p : Product) (rules moves states : ℕ) (t : Table) where
  abbrev why : ℕ → Fact → Option Way
  why k f = searched p (lower t k) f rules moves states

  sound_why : (f : Fact) (k : ℕ) (w : Way) → why k f ≡ some w → Sound rules moves t k w
  sound_why f k w is =
      first_elim (Sound rules moves t k) (way_by_rule p (lower t k) f moves states) rules
      (λ r w i. first_elim (Sound rules moves t k) (way_by_move p (lower t k) f states r) moves
      (λ v w j. first_elim (Sound rules moves t k) (tried_at p (lower t k) f r v) states
      (λ x w _. sound_tried rules moves t k f r v x i j (p.rule r) (p.next (step_of r v) (source f x)) w) w) w) w is

  falls_at : (f : Fact) (k : ℕ) {d : Found} → d ≡ found_as (way_by_rank why f k) → {c : Cause} → d ≡ Some c → Falls rules moves t k c
  falls_at f zero read told = let z : ◌≡◌ {A = ℕ} 0 1 = cc in absurd (omega arith)
  falls_at f (suc k) read told =
      let (w, is, by) = found_some (why (suc k) f) read told in
      subst⁻¹ (Falls rules moves t (suc k)) (same_cause by) (falls_by rules moves t (suc k) (omega arith) w (sound_why f (suc k) w is))

  pub found_falls : (f : Goal) {d : Found} → d ≡ found_as (explained why t f) → {c : Cause} → d ≡ Some c → Falls rules moves t (rank_of t f) c
  found_falls None read told = let z : ◌≡◌ {A = ℕ} 0 1 = cc in absurd (omega arith)
  found_falls (Some f) read told = falls_at (fact_of f) (t (fact_of f)) read told
