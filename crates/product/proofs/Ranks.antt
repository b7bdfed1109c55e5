-- The table after round n has the ranks up to n, and marks every other fact absent. Assumes nothing.
use mathlib.Core.Bool.{Bool, true, false, cond}
use mathlib.Core.Path.{◌≡◌, refl, fun_ext}
use Prim.Native.Nat.{ℕ, zero, suc, ◌<◌, ◌≤◌, zero-le}
use native.Mathlib.Omega.{arith}
use native.Mathlib.Decide.{dec_lt}
use lib.Dec.{T}
use borrow.Author.Tests.{ne_eqb}
use Rattle.product.specs.Product.{Product}
use Rattle.product.specs.Facts.{Fact, same, first}
use Rattle.product.specs.Rounds.{held, Rank}
use Rattle.product.specs.Table.{absent, present, ranks}
use Rattle.product.proofs.Rounds.{grown_up, grown_later}

module _ (p : Product) where
  -- a fact that is held after round n + 1 and not after n has rank n + 1
  new_rank : (n : ℕ) (f : Fact) → held p n f ≡ false → T (held p (suc n) f) → Rank p f (suc n)
  new_rank n f e t = (t, λ k u. go k u (dec_lt n k))
    where
      go : (k : ℕ) → T (held p k f) → Dec (n < k) → suc n ≤ k
      go k u (yes l) = l
      go k u (no l) = let h : k ≤ n = omega arith in absurd (rw e at (grown_up p (same (first p)) k n f h u))

  pub ranks_rank : (n : ℕ) (f : Fact) → T (held p n f) → Rank p f (ranks p n f)
  unfolding ranks
  ranks_rank zero f t = go (held p zero f) t
    where
      go : (b : Bool) → T b → Rank p f (cond b zero absent)
      go true _ = (t, λ k _. zero-le)
      go false x'' = elim x'' [ ]
  ranks_rank (suc n) f t = go (ranks_rank n f) (held p n f) refl
    where
      new : (b : Bool) → T b → held p n f ≡ false → Rank p f (cond b (suc n) absent)
      new true _ e = new_rank n f e t
      new false x3 e = elim x3 [ ]

      go : (T (held p n f) → Rank p f (ranks p n f)) → (b : Bool) → held p n f ≡ b → Rank p f (cond b (ranks p n f) (cond (held p (suc n) f) (suc n) absent))
      go ih true e = ih (rw e tt)
      go ih false e = new (held p (suc n) f) t e

  pub ranks_absent : (n : ℕ) (f : Fact) → held p n f ≡ false → ranks p n f ≡ absent
  unfolding ranks
  ranks_absent zero f e = rw e
  ranks_absent (suc n) f e = go (held p n f) refl
    where
      go : (b : Bool) → held p n f ≡ b → cond b (ranks p n f) (cond (held p (suc n) f) (suc n) absent) ≡ absent
      go true x = absurd (rw e at (grown_later p (same (first p)) n f (rw x tt)))
      go false x = rw e

  pub present_held : (n : ℕ) → n < absent → present (ranks p n) ≡ held p n
  present_held n l = fun_ext λ f. go f (held p n f) refl
    where
      go : (f : Fact) (b : Bool) → held p n f ≡ b → present (ranks p n) f ≡ b
      go f true e =
          let h : T (held p n f) = rw e tt in
          let i : ranks p n f ≤ n = (ranks_rank n f h).1 n h in
          rw (ne_eqb (ranks p n f) 65535 (omega arith))
      go f false e = rw (ranks_absent n f e)
