-- What the facts mean: a head is explained exactly if a run reaches it, and a triple exactly if a run erases its symbol so. Assumes nothing.
use mathlib.Core.List.{List, [], ◌∷◌}
use mathlib.Core.Logic.{◌↔◌}
use Prim.Native.Nat.{ℕ, suc, max, ◌≤◌}
use native.Mathlib.Omega.{arith}
use Rattle.product.specs.Lists.{All}
use Rattle.product.specs.Product.{Step, Product, InRange}
use Rattle.product.specs.Runs.{Run, start}
use Rattle.product.specs.Facts.{Fact, head, triple, needs, ways, Leads, Closed}
use Rattle.product.specs.Trace.{trace}
use Rattle.product.specs.Why.{Why, at_start}
use Rattle.product.proofs.Lists.{All-map, All-at, All-in}
use Rattle.product.proofs.Closed.{head_reached, triple_reached}
use Rattle.product.proofs.Runs.{trace_run}
use Rattle.product.proofs.Why.{Deep, explain_next, why_held}

module _ (p : Product) where
  abbrev pub Known : Fact → Type 0
  Known f = (n : ℕ) × Why p f n

  deeper : (n k : ℕ) → n ≤ k → (f : Fact) → Deep p n f → Deep p k f
  deeper n k l f (j, i, x) = (j, omega arith, x)

  -- facts that are explained are so within one depth
  gathered : (fs : List Fact) → All Known fs → (n : ℕ) × All (Deep p n) fs
  gathered [] h = (0, tt)
  gathered (f ∷ fs) ((k, x), h) =
      let (n, l) = gathered fs h in
      (max k n, ((k, omega arith, x), All-map (Deep p n) (Deep p (max k n)) (deeper n (max k n) (omega arith)) fs l))

  known_closed : Closed p Known
  known_closed = All-in (Leads Known Known) (ways p) λ w i h.
      let (n, l) = gathered (needs w) h in
      let (k, _, x) = All-at (Leads (Deep p n) (Deep p (suc n))) (ways p) (explain_next p n) w i l in
      (k, x)

  pub head_meaning : InRange p → (q g : ℕ) → Known (head q g) ↔ ((ss : List Step) × (w : List ℕ) × Run p (start p) ss (q, g ∷ w))
  head_meaning R q g = (
    λ (n, x). let (w, run) = trace_run p n (head q g) (why_held p R x) in (trace p n (head q g), w, run),
    λ (ss, w, run). head_reached p R Known known_closed (0, at_start) ss q g w run,
  )

  pub triple_meaning : InRange p → (q g e : ℕ) → Known (triple q g e) ↔ ((ss : List Step) × Run p (q, g ∷ []) ss (e, []))
  triple_meaning R q g e = (
    λ (n, x). (trace p n (triple q g e), trace_run p n (triple q g e) (why_held p R x) []),
    λ (ss, run). triple_reached p R Known known_closed ss q g e run,
  )
