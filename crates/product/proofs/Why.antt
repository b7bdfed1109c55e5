-- The rounds hold a fact after round n exactly if it has an explanation of depth at most n. Assumes nothing.
use mathlib.Core.Logic.{◌↔◌}
use mathlib.Core.Path.{◌≡◌, refl, subst}
use Prim.Native.Nat.{ℕ, suc, max, ◌≤◌, zero-le, suc-le-suc}
use native.Mathlib.Omega.{arith}
use lib.Dec.{T}
use Rattle.product.specs.Product.{Rule, exit, direct, call, Step, Product, rule_of, InRange}
use Rattle.product.specs.Facts.{Fact, head, triple, first, same, Leads, Led}
use Rattle.product.specs.Rounds.{held, Rank}
use Rattle.product.specs.Why.{Step-by, Why, at_start, exits, passes_on, passes_back, called, returned, erased}
use Rattle.product.proofs.Ways.{EachWay, steps_ways, ways_steps}
use Rattle.product.proofs.Rounds.{same_eq, In, grown_up, grown_next, grown_elim, held_start}
use Rattle.product.proofs.Range.{held_within}

module _ (p : Product) where
  -- the facts that have an explanation of depth at most n
  abbrev pub Deep : ℕ → Fact → Type 0
  Deep n f = (k : ℕ) × (k ≤ n) × Why p f k

  explain : (n : ℕ) (s : Step) (q q' : ℕ) (ρ : Rule) → Step-by p ρ q q' → EachWay (Leads (Deep n) (Deep (suc n))) p.states s q q' ρ
  explain n s q q' (exit g) i = λ _. (1, omega arith, exits i)
  explain n s q q' (direct g g1) i = (λ ((k, l, x), _). (suc k, suc-le-suc l, passes_on i x), λ e _ ((k, l, x), _). (suc k, suc-le-suc l, passes_back i x))
  explain n s q q' (call g g1 g2) i = (
    λ ((k, l, x), _). (suc k, suc-le-suc l, called i x),
    λ e _ ((k, l, x), ((k', l', x'), _)). (suc (max k k'), omega arith, returned i x x'),
    λ e f _ _ ((k, l, x), ((k', l', x'), _)). (suc (max k k'), omega arith, erased i x x'),
  )

  pub explain_next : (n : ℕ) → Led p (Deep n) (Deep (suc n))
  explain_next n = steps_ways p (Leads (Deep n) (Deep (suc n))) λ s q q' e. explain n s q q' (rule_of p s) (record { s = s; is = refl; leads = e })

  pub held_why : (n : ℕ) (f : Fact) → T (held p n f) → Deep n f
  held_why = grown_elim p (same (first p)) Deep (λ f t. (0, zero-le, subst (λ f. Why p f 0) (same_eq (first p) f t) at_start))
      (λ n f (k, l, x). (k, omega arith, x)) explain_next

  -- and the other way round
  module _ (R : InRange p) where
    given : (n q q' : ℕ) (ρ : Rule) (i : Step-by p ρ q q') → EachWay (Leads (In (held p n)) (In (held p (suc n)))) p.states i.s q q' ρ
    given n q q' ρ i = subst (EachWay (Leads (In (held p n)) (In (held p (suc n)))) p.states i.s q q') i.is
        (ways_steps p (Leads (In (held p n)) (In (held p (suc n)))) R (grown_next p (same (first p)) n) i.s q q' i.leads)

    up : (n k : ℕ) (f : Fact) → n ≤ k → T (held p n f) → T (held p k f)
    up = grown_up p (same (first p))

    pub why_held : {f : Fact} {n : ℕ} → Why p f n → T (held p n f)
    why_held at_start = held_start p 0
    why_held (exits {g = g} {q = q} {q' = q'} i) = given 0 q q' (exit g) i tt
    why_held (passes_on {g = g} {g1 = g1} {q = q} {q' = q'} {n = n} i x) = (given n q q' (direct g g1) i).0 (why_held x, tt)
    why_held (passes_back {g = g} {g1 = g1} {q = q} {q' = q'} {e = e} {n = n} i x) =
        let t = why_held x in
        (given n q q' (direct g g1) i).1 e (held_within p R n (triple q' g1 e) t).2 (t, tt)
    why_held (called {g = g} {g1 = g1} {g2 = g2} {q = q} {q' = q'} {n = n} i x) = (given n q q' (call g g1 g2) i).0 (why_held x, tt)
    why_held (returned {g = g} {g1 = g1} {g2 = g2} {q = q} {q' = q'} {e = e} {n = n} {k = k} i x y) =
        let t : T (held p (max n k) (triple q' g1 e)) = up k (max n k) (triple q' g1 e) (omega arith) (why_held y) in
        (given (max n k) q q' (call g g1 g2) i).1 e (held_within p R (max n k) (triple q' g1 e) t).2
        (up n (max n k) (head q g) (omega arith) (why_held x), (t, tt))
    why_held (erased {g = g} {g1 = g1} {g2 = g2} {q = q} {q' = q'} {e = e} {f = f} {n = n} {k = k} i x y) =
        let t : T (held p (max n k) (triple q' g1 e)) = up n (max n k) (triple q' g1 e) (omega arith) (why_held x) in
        let u : T (held p (max n k) (triple e g2 f)) = up k (max n k) (triple e g2 f) (omega arith) (why_held y) in
        (given (max n k) q q' (call g g1 g2) i).2 e f
        (held_within p R (max n k) (triple q' g1 e) t).2 (held_within p R (max n k) (triple e g2 f) u).2 (t, (u, tt))

    pub held_exactly : (n : ℕ) (f : Fact) → T (held p n f) ↔ Deep n f
    held_exactly n f = (held_why n f, λ (k, l, x). up k n f l (why_held x))

    -- a fact's rank is the least depth of any explanation
    pub rank_why : (f : Fact) (n : ℕ) → Rank p f n → Why p f n × ((k : ℕ) → Why p f k → n ≤ k)
    rank_why f n (t, least) =
        let (k, l, x) = held_why n f t in
        let e : k ≡ n = omega (arith, least k (why_held x)) in
        (subst (Why p f) e x, λ k y. least k (why_held y))
