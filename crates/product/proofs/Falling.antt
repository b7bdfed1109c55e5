-- The trace goes by falling ranks: a fact of rank n + 1 by facts of rank at most n, each unfolded by its own rank. Assumes nothing.
use mathlib.Core.Bool.{Bool, true, false, cond, ◌||◌}
use mathlib.Core.List.{List, ◌∷◌, ◌++◌}
use mathlib.Core.Path.{◌≡◌, refl, ap₂}
use Prim.Native.Nat.{ℕ, suc, ◌≤◌}
use native.Mathlib.Omega.{arith}
use native.Mathlib.Decide.{le_ind}
use lib.Dec.{T}
use Rattle.product.specs.Lists.{any, All}
use Rattle.product.specs.Product.{Product, Step}
use Rattle.product.specs.Facts.{Fact, Way, needs, same, first, ways}
use Rattle.product.specs.Rounds.{works, grown, held, Rank}
use Rattle.product.specs.Table.{ranks}
use Rattle.product.specs.Trace.{explanation, along, along_found, trace}
use Rattle.product.proofs.Lists.{find_of, All-map, All-left, All-right, T_true, over_same}
use Rattle.product.proofs.Rounds.{In, of_works, grown_up}
use Rattle.product.proofs.Ranks.{ranks_rank}

-- the steps along a way, by the runs of what it needs
pub along_same : (s t : Fact → List Step) (w : Way) → All (λ d. s d ≡ t d) (needs w) → along s w ≡ along t w
along_same s t w h = ap₂ (λ b a. b ++ w.by ∷ a)
    (over_same s t w.before (All-left (λ d. s d ≡ t d) w.before w.after h))
    (over_same s t w.after (All-right (λ d. s d ≡ t d) w.before w.after h))

module _ (p : Product) where
  -- later rounds leave the trace as it is
  pub trace_later : (k n : ℕ) (f : Fact) → k ≤ n → T (held p k f) → trace p n f ≡ trace p k f
  unfolding trace
  trace_later k n f l t =
      le_ind (λ n. trace p n f ≡ trace p k f) refl (λ j h e. rw (T_true (held p j f) (grown_up p (same (first p)) k j f h t)) e) n l

  -- the steps of a fact by its own rank
  abbrev pub unfolded : ℕ → Fact → List Step
  unfolded n d = trace p (ranks p n d) d

  pub trace_falls : (n : ℕ) (f : Fact) → Rank p f (suc n) → trace p (suc n) f ≡ along_found (unfolded n) (explanation p n f)
  unfolding trace grown
  trace_falls n f (t, least) = go (held p n f) refl t
    where
      lower : (d : Fact) → T (held p n d) → trace p n d ≡ unfolded n d
      lower d h = let (r, below) = ranks_rank p n d h in trace_later (ranks p n d) n d (below n h) r

      go : (b : Bool) → held p n f ≡ b → T (b || any (works (held p n) f) (ways p))
          → cond b (trace p n f) (along_found (λ d. trace p n d) (explanation p n f)) ≡ along_found (unfolded n) (explanation p n f)
      go true e _ = let h : suc n ≤ n = least n (rw e tt) in absurd (omega arith)
      go false e u =
          let (w, i, x, y) = find_of (works (held p n) f) (ways p) u in
          let (_, k) = of_works (held p n) f w x in
          let h : All (λ d. trace p n d ≡ unfolded n d) (needs w) = All-map (In (held p n)) (λ d. trace p n d ≡ unfolded n d) lower (needs w) k in
          rw y (along_same (trace p n) (unfolded n) w h)
