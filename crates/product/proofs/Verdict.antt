-- The verdict is right: a violation has a run to a final state, and a safe product has none. Its rounds are bounded, and there is one verdict. Assumes nothing.
use mathlib.Core.Bool.{◌&&◌}
use mathlib.Core.List.{List, [], ◌∷◌}
use mathlib.Core.Path.{◌≡◌, sym, ap, subst, subst₂}
use Prim.Native.Nat.{ℕ, zero, suc, ◌<◌, ◌≤◌, zero-le}
use native.Mathlib.Omega.{arith}
use native.Mathlib.Decide.{dec_lt}
use lib.Dec.{T, T_not, eqb, eqb→eq, eqb_refl}
use Rattle.product.specs.Lists.{◌∈◌}
use Rattle.product.specs.Product.{Step, Product, InRange}
use Rattle.product.specs.Runs.{State, Run, Reaches}
use Rattle.product.specs.Facts.{Fact, head, triple, first, same, cells, Closed}
use Rattle.product.specs.Rounds.{held}
use Rattle.product.specs.Why.{Why}
use Rattle.product.specs.Trace.{trace, trace_of}
use Rattle.product.specs.Verdict.{violating, adds, violated, Verdict, violation, safe, rounds, GoesOn, Ends, IsVerdict, bound}
use Rattle.product.proofs.Lists.{and_left, and_right, both, find_of, any_of}
use Rattle.product.proofs.Count.{count, count_pos}
use Rattle.product.proofs.Closed.{head_reached, end_reached}
use Rattle.product.proofs.Rounds.{In, grown_later, held_start}
use Rattle.product.proofs.Growth.{counted_bound, quiet_closed}
use Rattle.product.proofs.Range.{Within, in_cells, within_closed, first_within, first_alone, held_cell}
use Rattle.product.proofs.Runs.{trace_run}
use Rattle.product.proofs.Why.{why_held}

module _ (p : Product) (R : InRange p) where
  -- no run reaches a final state, if some closed set has the first head and no violating fact
  pub no_run : (F : Fact → Type 0) → Closed p F → F (first p) → ((f : Fact) → f ∈ cells p → F f → T (violating p f) → ⊥)
      → (ss : List Step) (c : State) → Reaches p ss c → ⊥
  no_run F closed h k ss (q, []) (run, t) =
      let f : Fact = triple p.start_state p.start_symbol q in
      k f (in_cells p f (end_reached p R (Within p) (within_closed p R) (first_within p R) ss q run)) (end_reached p R F closed h ss q run)
      (both (eqb p.start_state p.start_state && eqb p.start_symbol p.start_symbol) (p.final q)
      (both (eqb p.start_state p.start_state) (eqb p.start_symbol p.start_symbol) (eqb_refl p.start_state) (eqb_refl p.start_symbol)) t)
  no_run F closed h k ss (q, g ∷ w) (run, t) =
      k (head q g) (in_cells p (head q g) (head_reached p R (Within p) (within_closed p R) (first_within p R) ss q g w run))
      (head_reached p R F closed h ss q g w run) t

  pub violated_by : (n : ℕ) (f : Fact) → T (violating p f) → T (held p n f) → T (violated p n)
  unfolding violated
  violated_by n f v t = any_of (λ f. violating p f && held p n f) (cells p) f (held_cell p R n f t) (both (violating p f) (held p n f) v t)

  pub safe_right : (n : ℕ) → IsVerdict p (safe n) → (ss : List Step) (c : State) → Reaches p ss c → ⊥
  unfolding adds
  safe_right zero (_, (_, t)) = elim t [ ]
  safe_right (suc n) (_, (h, k)) =
      no_run (In (held p n)) (quiet_closed p (same (first p)) R (first_alone p R) n k) (held_start p n) λ f _ t v.
      T_not (violated p (suc n)) h (violated_by (suc n) f v (grown_later p (same (first p)) n f t))

  -- the trace of a violating fact ends in a final state
  violating_reaches : (n : ℕ) (f : Fact) → T (violating p f) → T (held p n f) → (c : State) × Reaches p (trace p n f) c
  violating_reaches n (head q g) t h = let (w, run) = trace_run p n (head q g) h in ((q, g ∷ w), (run, t))
  violating_reaches n (triple q g e) t h =
      ((e, []), (subst₂ (λ x y. Run p (x, y ∷ []) (trace p n (triple q g e)) (e, [])) a b (trace_run p n (triple q g e) h []), and_right (eqb q p.start_state && eqb g p.start_symbol) (p.final e) t))
    where
      u : T (eqb q p.start_state && eqb g p.start_symbol)
      u = and_left (eqb q p.start_state && eqb g p.start_symbol) (p.final e) t

      a : q ≡ p.start_state
      a = eqb→eq q p.start_state (and_left (eqb q p.start_state) (eqb g p.start_symbol) u)

      b : g ≡ p.start_symbol
      b = eqb→eq g p.start_symbol (and_right (eqb q p.start_state) (eqb g p.start_symbol) u)

  pub violation_right : (n : ℕ) → IsVerdict p (violation n) → (c : State) × Reaches p (trace_of p (violation n)) c
  unfolding violated
  violation_right n (_, h) =
      let (f, _, t, e) = find_of (λ f. violating p f && held p n f) (cells p) h in
      rw e (violating_reaches n f (and_left (violating p f) (held p n f) t) (and_right (violating p f) (held p n f) t))

  -- n rounds that go on hold n facts
  pub goes_bound : (n : ℕ) → ((k : ℕ) → k < n → GoesOn p k) → n ≤ bound p
  unfolding adds
  goes_bound zero h = zero-le
  goes_bound (suc n) h =
      let c : 0 < count (held p 0) (cells p) = count_pos (held p 0) (cells p) (first p) (held_cell p R 0 (first p) (held_start p 0)) (held_start p 0) in
      omega (arith, counted_bound p (same (first p)) 1 n c (λ k l. (h (suc k) (omega arith)).1))

  pub rounds_bound : (v : Verdict) → IsVerdict p v → rounds v ≤ bound p
  rounds_bound v (h, _) = goes_bound (rounds v) h

  -- no explanation of a violating fact is less deep than the rounds
  pub rounds_least : (v : Verdict) → IsVerdict p v → (f : Fact) (n : ℕ) → T (violating p f) → Why p f n → rounds v ≤ n
  rounds_least v (h, _) f n t x = go (dec_lt n (rounds v))
    where
      go : Dec (n < rounds v) → rounds v ≤ n
      go (yes l) = absurd (T_not (violated p n) (h n l).0 (violated_by n f t (why_held p R x)))
      go (no l) = omega arith

-- two verdicts are one
module _ (p : Product) where
  pub stopped : (v : Verdict) → Ends p v → GoesOn p (rounds v) → ⊥
  stopped (violation n) t (k, _) = T_not (violated p n) k t
  stopped (safe n) (_, t) (_, k) = T_not (adds p n) t k

  same_kind : (v v' : Verdict) → Ends p v → Ends p v' → rounds v ≡ rounds v' → v ≡ v'
  same_kind (violation n) (violation k) i j e = ap violation e
  same_kind (safe n) (safe k) i j e = ap safe e
  same_kind (violation n) (safe k) i j e = absurd (T_not (violated p k) j.0 (subst (λ n. T (violated p n)) e i))
  same_kind (safe n) (violation k) i j e = absurd (T_not (violated p n) i.0 (subst (λ n. T (violated p n)) (sym e) j))

  pub one_verdict : (v v' : Verdict) → IsVerdict p v → IsVerdict p v' → v ≡ v'
  one_verdict v v' (h, i) (h', j) = same_kind v v' i j (at (dec_lt (rounds v) (rounds v')) (dec_lt (rounds v') (rounds v)))
    where
      at : Dec (rounds v < rounds v') → Dec (rounds v' < rounds v) → rounds v ≡ rounds v'
      at (yes l) d = absurd (stopped v i (h' (rounds v) l))
      at (no l) (yes k) = absurd (stopped v' j (h (rounds v') k))
      at (no l) (no k) = omega arith
