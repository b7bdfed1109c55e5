-- The trace of a fact that is held is a run of that fact. Assumes nothing.
use mathlib.Core.Bool.{Bool, true, false, cond, ◌||◌}
use mathlib.Core.List.{List, [], ◌∷◌, ◌++◌, append-nil}
use mathlib.Core.Option.{some}
use mathlib.Core.Path.{◌≡◌, refl, subst, subst⁻¹}
use Prim.Native.Nat.{ℕ, zero, suc}
use lib.Dec.{T}
use Rattle.product.specs.Lists.{any, All, find}
use Rattle.product.specs.Product.{Rule, exit, direct, call, symbol, pushed, Step, Product, rule_of}
use Rattle.product.specs.Runs.{State, step, Run, start}
use Rattle.product.specs.Facts.{Fact, head, triple, Way, needs, first, ways}
use Rattle.product.specs.Rounds.{works, grown, held}
use Rattle.product.specs.Trace.{along, along_found, trace}
use Rattle.product.proofs.Lists.{All-at, All-map, find_of}
use Rattle.product.proofs.Ways.{EachWay, steps_ways}
use Rattle.product.proofs.Closed.{step_of_lem}
use Rattle.product.proofs.Rounds.{same_eq, In, of_works}

-- the steps are a run to the head, or one that erases the triple's symbol, over whatever lies below
abbrev pub RunOf : Product → Fact → List Step → Type 0
RunOf p (head q g) ss = (w : List ℕ) × Run p (start p) ss (q, g ∷ w)
RunOf p (triple q g e) ss = (w : List ℕ) → Run p (q, g ∷ w) ss (e, w)

pub run_append : (p : Product) (ss ts : List Step) (c d c' : State) → Run p c ss d → Run p d ts c' → Run p c (ss ++ ts) c'
run_append p [] ts c d c' e k = subst⁻¹ (λ c. Run p c ts c') e k
run_append p (s ∷ ss) ts c d c' (b, e, h) k = (b, e, run_append p ss ts b d c' h k)

run_end : (p : Product) (ss : List Step) (c d : State) → Run p c ss d → Run p c (ss ++ []) d
run_end p ss c d h = subst⁻¹ (λ l. Run p c l d) (append-nil ss) h

module _ (p : Product) (t : Fact → List Step) where
  abbrev Right : Way → Type 0
  Right w = All (λ f. RunOf p f (t f)) (needs w) → RunOf p w.gives (along t w)

  module _ (s : Step) (q q' : ℕ) where
    -- the step can stand in front of a run
    abbrev Starts : Rule → Type 0
    Starts ρ = (w : List ℕ) → step p s (q, symbol ρ ∷ w) ≡ some (q', pushed ρ ++ w)

    -- from the head, with whatever lies below it, by the steps ts
    on : (g : ℕ) (w : List ℕ) (ts : List Step) (c : State) → Run p (start p) (t (head q g)) (q, g ∷ w) → Run p (q, g ∷ w) ts c → Run p (start p) ((t (head q g) ++ []) ++ ts) c
    on g w ts c h = run_append p (t (head q g) ++ []) ts (start p) (q, g ∷ w) c (run_end p (t (head q g)) (start p) (q, g ∷ w) h)

    right : (ρ : Rule) → Starts ρ → EachWay Right p.states s q q' ρ
    right (exit g) go = λ _ w. ((q', w), go w, refl)
    right (direct g g1) go = (
      λ ((w, h), _). (w, on g w (s ∷ []) (q', g1 ∷ w) h ((q', g1 ∷ w), go w, refl)),
      λ e _ (h, _) w. ((q', g1 ∷ w), go w, run_end p (t (triple q' g1 e)) (q', g1 ∷ w) (e, w) (h w)),
    )
    right (call g g1 g2) go = (
      λ ((w, h), _). (g2 ∷ w, on g w (s ∷ []) (q', g1 ∷ g2 ∷ w) h ((q', g1 ∷ g2 ∷ w), go w, refl)),
      λ e _ ((w, h), (k, _)). (w, on g w (s ∷ t (triple q' g1 e) ++ []) (e, g2 ∷ w) h ((q', g1 ∷ g2 ∷ w), go w, run_end p (t (triple q' g1 e)) (q', g1 ∷ g2 ∷ w) (e, g2 ∷ w) (k (g2 ∷ w)))),
      λ e f _ _ (h, (k, _)) w. (
        (q', g1 ∷ g2 ∷ w),
        go w,
        run_append p (t (triple q' g1 e)) (t (triple e g2 f) ++ []) (q', g1 ∷ g2 ∷ w) (e, g2 ∷ w) (f, w) (h (g2 ∷ w)) (run_end p (t (triple e g2 f)) (e, g2 ∷ w) (f, w) (k w)),
      ),
    )

  pub ways_right : All Right (ways p)
  ways_right = steps_ways p Right λ s q q' e. right s q q' (rule_of p s) (λ w. step_of_lem p s q q' w e)

module _ (p : Product) where
  pub trace_run : (n : ℕ) (f : Fact) → T (held p n f) → RunOf p f (trace p n f)
  unfolding grown trace
  trace_run zero f h = subst (λ f. RunOf p f []) (same_eq (first p) f h) ([], refl)
  trace_run (suc n) f h = at (trace_run n) (held p n f) (λ h. h) h
    where
      at : ((f : Fact) → T (held p n f) → RunOf p f (trace p n f)) → (b : Bool) → (T b → T (held p n f)) → T (b || any (works (held p n) f) (ways p))
          → RunOf p f (cond b (trace p n f) (along_found (trace p n) (find (works (held p n) f) (ways p))))
      at ih true k h = ih f (k tt)
      at ih false k h =
          let (w, i, u, e) = find_of (works (held p n) f) (ways p) h in
          let (j, l) = of_works (held p n) f w u in
          rw e (subst (λ f. RunOf p f (along (trace p n) w)) j
          (All-at (Right p (trace p n)) (ways p) (ways_right p (trace p n)) w i
          (All-map (In (held p n)) (λ f. RunOf p f (trace p n f)) ih (needs w) l)))
