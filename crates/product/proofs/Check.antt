-- An accepted table shows that no run reaches a final state; the table of a safe verdict is accepted; and the check's answer is right. Assumes nothing.
use mathlib.Core.Bool.{Bool, true, false, not, ◌&&◌}
use mathlib.Core.List.{List}
use mathlib.Core.Logic.{◌↔◌}
use mathlib.Core.Path.{◌≡◌, refl, subst}
use Prim.Native.Nat.{zero, ℕ, suc}
use native.Mathlib.Omega.{arith}
use lib.Dec.{T, T_not, not_T}
use Rattle.product.specs.Lists.{all, find, ◌∈◌}
use Rattle.product.specs.Product.{Step, Product, InRange}
use Rattle.product.specs.Runs.{State, Reaches}
use Rattle.product.specs.Facts.{Fact, needs, first, same, cells, ways_of, pairs, ways, Leads, Closed}
use Rattle.product.specs.Rounds.{held}
use Rattle.product.specs.Verdict.{violating, violated, adds, safe, IsVerdict}
use Rattle.product.specs.Check.{keeps, closed_at, clean, accepts, Checked, passes, fails, open_at, checked}
use Rattle.product.proofs.Lists.{and_left, and_right, both, if_then, then_if, all_of, All-of, All-map, All-at, All-in, All-over, over_at, not_any, find_none, find_some}
use Rattle.product.proofs.Rounds.{In, grown_later, held_start}
use Rattle.product.proofs.Range.{first_alone}
use Rattle.product.proofs.Growth.{nothing_new, quiet_closed}
use Rattle.product.proofs.Verdict.{no_run}

module _ (p : Product) (t : Fact → Bool) where
  -- what an accepted table is
  pub record Accepted : Type 0 where
    pub starts : T (t (first p))
    pub spotless : (f : Fact) → f ∈ cells p → T (violating p f) → T (t f) → ⊥
    pub closed : Closed p (In t)

  closed_table : T (all (closed_at p t) (pairs p)) → Closed p (In t)
  closed_table h =
      All-over (Leads (In t) (In t)) (pairs p) (ways_of p) λ s i.
      All-of (Leads (In t) (In t)) (keeps t) (λ w k l. if_then (all t (needs w)) (t w.gives) k (all_of (In t) t (λ _ x. x) (needs w) l)) (ways_of p s)
      (All-at (λ s. T (closed_at p t s)) (pairs p) (All-of (λ s. T (closed_at p t s)) (closed_at p t) (λ _ x. x) (pairs p) h) s i)

  table_closed : Closed p (In t) → T (all (closed_at p t) (pairs p))
  table_closed h =
      all_of (λ s. T (closed_at p t s)) (closed_at p t) (λ _ x. x) (pairs p)
      (All-in (λ s. T (closed_at p t s)) (pairs p) λ s i.
      all_of (Leads (In t) (In t)) (keeps t) (λ w k. then_if (all t (needs w)) (t w.gives) (λ x. k (All-of (In t) t (λ _ x. x) (needs w) x))) (ways_of p s)
      (over_at (Leads (In t) (In t)) (pairs p) (ways_of p) h s i))

  clean_table : T (clean p t) → (f : Fact) → f ∈ cells p → T (violating p f) → T (t f) → ⊥
  clean_table h f i v x =
      T_not (violating p f && t f)
      (All-at (λ f. T (not (violating p f && t f))) (cells p) (All-of (λ f. T (not (violating p f && t f))) (λ f. not (violating p f && t f)) (λ _ x. x) (cells p) h) f i)
      (both (violating p f) (t f) v x)

  pub accepts_is : T (accepts p t) → Accepted
  unfolding accepts
  accepts_is h =
      let k : T (t (first p) && clean p t) = and_left (t (first p) && clean p t) (all (closed_at p t) (pairs p)) h in
      record {
        starts = and_left (t (first p)) (clean p t) k;
        spotless = clean_table (and_right (t (first p)) (clean p t) k);
        closed = closed_table (and_right (t (first p) && clean p t) (all (closed_at p t) (pairs p)) h);
      }

  table_clean : ((f : Fact) → f ∈ cells p → T (violating p f) → T (t f) → ⊥) → T (clean p t)
  table_clean k =
      all_of (λ f. T (not (violating p f && t f))) (λ f. not (violating p f && t f)) (λ _ x. x) (cells p)
      (All-in (λ f. T (not (violating p f && t f))) (cells p) λ f i.
      not_T (violating p f && t f) (λ x. k f i (and_left (violating p f) (t f) x) (and_right (violating p f) (t f) x)))

  pub is_accepts : Accepted → T (accepts p t)
  unfolding accepts
  is_accepts a =
      both (t (first p) && clean p t) (all (closed_at p t) (pairs p)) (both (t (first p)) (clean p t) a.starts (table_clean a.spotless)) (table_closed a.closed)

  -- an accepted table has no run to a final state beside it
  pub accepted_right : InRange p → T (accepts p t) → (ss : List Step) (c : State) → Reaches p ss c → ⊥
  accepted_right R h = let a = accepts_is h in no_run p R (In t) a.closed a.starts (λ f i x v. a.spotless f i v x)

  -- the answer
  pub checked_is : (checked p t ≡ passes) ↔ T (accepts p t)
  unfolding checked accepts
  checked_is = (at (t (first p)) (clean p t), of (t (first p)) (clean p t))
    where
      at : (a b : Bool) → elim a as (λ _. Checked) [ false ↦ fails 1 0 0 | true ↦ elim b [ false ↦ fails 2 0 0 | true ↦ open_at (find (λ s. not (closed_at p t s)) (pairs p)) ] ] ≡ passes
          → T (a && b && all (closed_at p t) (pairs p))
      at true true e = go (all (closed_at p t) (pairs p)) refl
        where
          go : (b : Bool) → all (closed_at p t) (pairs p) ≡ b → T b
          go true x = tt
          go false x = let (s, _, _, i) = find_some (closed_at p t) (pairs p) (rw x tt) in let y : fails 3 s.by_rule s.by_move ≡ passes = subst (λ o. open_at o ≡ passes) i e in let z : ◌≡◌ {A = ℕ} 0 1 = cc in absurd (omega arith)
      at true false e = let z : ◌≡◌ {A = ℕ} 0 1 = cc in absurd (omega arith)
      at false b e = let z : ◌≡◌ {A = ℕ} 0 1 = cc in absurd (omega arith)

      of : (a b : Bool) → T (a && b && all (closed_at p t) (pairs p))
          → elim a as (λ _. Checked) [ false ↦ fails 1 0 0 | true ↦ elim b [ false ↦ fails 2 0 0 | true ↦ open_at (find (λ s. not (closed_at p t s)) (pairs p)) ] ] ≡ passes
      of true true h = rw (find_none (closed_at p t) (pairs p) h)
      of false b h = elim h [ ]
      of true false h = elim h [ ]

module _ (p : Product) (R : InRange p) where
  -- the table of a safe verdict is accepted
  pub safe_accepted : (n : ℕ) → IsVerdict p (safe n) → T (accepts p (held p n))
  unfolding accepts violated adds
  safe_accepted zero (_, (_, t)) = elim t [ ]
  safe_accepted (suc n) (_, (h, k)) =
      both (held p (suc n) (first p) && clean p (held p (suc n))) (all (closed_at p (held p (suc n))) (pairs p))
      (both (held p (suc n) (first p)) (clean p (held p (suc n))) (held_start p (suc n)) (not_any (λ f. violating p f && held p (suc n) f) (cells p) h))
      (table_closed p (held p (suc n)) (All-map (Leads (In (held p n)) (In (held p n))) (Leads (In (held p (suc n))) (In (held p (suc n))))
      (λ w i l. grown_later p (same (first p)) n w.gives (i (All-map (In (held p (suc n))) (In (held p n)) (nothing_new p (same (first p)) R (first_alone p R) n k) (needs w) l))) (ways p) (quiet_closed p (same (first p)) R (first_alone p R) n k)))
