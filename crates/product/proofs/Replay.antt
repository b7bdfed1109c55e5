-- The replay accepts a trace exactly if it is a run to a final state, and else it gives the first bad step. Assumes nothing.
use mathlib.Core.Bool.{Bool, true, false, not}
use mathlib.Core.List.{List, [], ◌∷◌, ◌++◌}
use mathlib.Core.Logic.{◌↔◌}
use mathlib.Core.Option.{Option, none, some}
use mathlib.Core.Path.{◌≡◌, refl, sym, ap, subst, subst⁻¹}
use Prim.Native.Nat.{ℕ, suc, ◌+◌}
use native.Mathlib.Omega.{arith}
use lib.Dec.{T}
use lib.ListN.{length}
use Rattle.product.specs.Product.{Product, Step}
use Rattle.product.specs.Runs.{State, step, Run, start, Reaches}
use Rattle.product.specs.Replay.{Replayed, replays, stops, replay_from, replay}

module _ (p : Product) where
  stops_replays : {n : ℕ} {B : Type 0} → stops n ≡ replays → B
  stops_replays e = let z : ◌≡◌ {A = ℕ} 0 1 = cc in absurd (omega arith)

  from_run : (k : ℕ) (c : State) (ss : List Step) → replay_from p k c ss ≡ replays → (d : State) × Run p c ss d × T (p.final d.0)
  unfolding replay_from
  from_run k c [] e = go (p.final c.0) refl e
    where
      go : (b : Bool) → p.final c.0 ≡ b → elim b as (λ _. Replayed) [ true ↦ replays | false ↦ stops (suc k) ] ≡ replays → (d : State) × (c ≡ d) × T (p.final d.0)
      go true x e = (c, refl, rw x tt)
      go false x e = stops_replays e
  from_run k c (s ∷ ss) e = go (step p s c) refl (λ d. from_run (suc k) d ss) e
    where
      go : (o : Option State) → step p s c ≡ o → ((d : State) → replay_from p (suc k) d ss ≡ replays → (b : State) × Run p d ss b × T (p.final b.0))
          → elim o as (λ _. Replayed) [ none ↦ stops (suc k) | some d ↦ replay_from p (suc k) d ss ] ≡ replays
          → (b : State) × ((d : State) × (step p s c ≡ some d) × Run p d ss b) × T (p.final b.0)
      go none x ih e = stops_replays e
      go (some d) x ih e = let (b, run, t) = ih d e in (b, (d, x, run), t)

  run_from : (k : ℕ) (c : State) (ss : List Step) (d : State) → Run p c ss d → T (p.final d.0) → replay_from p k c ss ≡ replays
  unfolding replay_from
  run_from k c [] d e t = go (p.final c.0) (subst (λ c. T (p.final c.0)) (sym e) t)
    where
      go : (b : Bool) → T b → elim b as (λ _. Replayed) [ true ↦ replays | false ↦ stops (suc k) ] ≡ replays
      go true t = refl
      go false t = elim t [ ]
  run_from k c (s ∷ ss) d (b, e, run) t =
      subst⁻¹ (λ o. elim o as (λ _. Replayed) [ none ↦ stops (suc k) | some d ↦ replay_from p (suc k) d ss ] ≡ replays) e (run_from (suc k) b ss d run t)

  pub replay_is : (ss : List Step) → (replay p ss ≡ replays) ↔ ((c : State) × Reaches p ss c)
  unfolding replay
  replay_is ss = (
    λ e. let (c, run, t) = from_run 0 (start p) ss e in (c, (run, t)),
    λ (c, (run, t)). run_from 0 (start p) ss c run t,
  )

  -- A refusal names the first bad step: the steps a before it are a run, and then the next makes no step, or the end is not final.
  abbrev pub Blocked : State → List Step → Type 0
  Blocked c [] = T (not (p.final c.0))
  Blocked c (s ∷ ss) = step p s c ≡ none

  abbrev pub StopsAt : ℕ → State → List Step → Type 0
  StopsAt n c ss = (a b : List Step) × (d : State) × (a ++ b ≡ ss) × (length a ≡ n) × Run p c a d × Blocked d b

  from_stops : (k : ℕ) (c : State) (ss : List Step) (n : ℕ) → replay_from p k c ss ≡ stops n → (j : ℕ) × (k + suc j ≡ n) × StopsAt j c ss
  unfolding replay_from
  from_stops k c [] n e = go (p.final c.0) refl e
    where
      go : (b : Bool) → p.final c.0 ≡ b → elim b as (λ _. Replayed) [ true ↦ replays | false ↦ stops (suc k) ] ≡ stops n → (j : ℕ) × (k + suc j ≡ n) × StopsAt j c []
      go true x e = let z : ◌≡◌ {A = ℕ} 0 1 = cc in absurd (omega arith)
      go false x e = let i : suc k ≡ n = cc in (0, omega arith, ([], [], c, refl, refl, refl, rw x tt))
  from_stops k c (s ∷ ss) n e = go (step p s c) refl (λ d. from_stops (suc k) d ss n) e
    where
      go : (o : Option State) → step p s c ≡ o → ((d : State) → replay_from p (suc k) d ss ≡ stops n → (j : ℕ) × (suc k + suc j ≡ n) × StopsAt j d ss)
          → elim o as (λ _. Replayed) [ none ↦ stops (suc k) | some d ↦ replay_from p (suc k) d ss ] ≡ stops n → (j : ℕ) × (k + suc j ≡ n) × StopsAt j c (s ∷ ss)
      go none x ih e = let i : suc k ≡ n = cc in (0, omega arith, ([], s ∷ ss, c, refl, refl, refl, x))
      go (some d) x ih e =
          let (j, i, (a, b, f, l, m, run, h)) = ih d e in
          (suc j, omega arith, (s ∷ a, b, f, ap (λ l. s ∷ l) l, ap suc m, (d, x, run), h))

  pub replay_stops : (ss : List Step) (n : ℕ) → replay p ss ≡ stops n → (j : ℕ) × (suc j ≡ n) × StopsAt j (start p) ss
  unfolding replay
  replay_stops ss n e = let (j, i, h) = from_stops 0 (start p) ss n e in (j, omega arith, h)
