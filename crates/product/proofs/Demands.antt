-- Every line of specs/Demands.antt is proved. Assumes nothing.
use mathlib.Core.List.{List}
use mathlib.Core.Logic.{◌↔◌}
use mathlib.Core.Option.{some}
use mathlib.Core.Path.{◌≡◌, subst⁻¹}
use Prim.Native.Nat.{ℕ, ◌<◌, ◌≤◌, ◌+◌, ◌*◌}
use native.Mathlib.Nat.{mul-le-mul}
use native.Mathlib.Omega.{arith}
use lib.Arith.{digits_div, digits_mod}
use lib.Dec.{T}
use lib.ListN.{length}
use Rattle.product.specs.Product.{Product, Step, stored, loaded, InRange}
use Rattle.product.specs.Runs.{State, Reaches}
use Rattle.product.specs.Verdict.{Verdict, violation, safe, IsVerdict, answer, bound}
use Rattle.product.specs.Table.{left}
use Rattle.product.specs.Trace.{trace_of}
use Rattle.product.specs.Check.{accepts}
use Rattle.product.specs.Demands.{Violates, Demands}
use Rattle.product.proofs.Why.{held_exactly, rank_why}
use Rattle.product.proofs.Ranks.{ranks_rank, present_held}
use Rattle.product.proofs.Meaning.{head_meaning, triple_meaning}
use Rattle.product.proofs.Verdict.{violation_right, safe_right, one_verdict, rounds_least}
use Rattle.product.proofs.Budget.{answer_is, answer_more, answer_none, answer_bound, the_verdict}
use Rattle.product.proofs.Replay.{replay_is}
use Rattle.product.proofs.Check.{accepted_right, checked_is, safe_accepted}

module _ (p : Product) (R : InRange p) where
  violation_exactly : ((n : ℕ) × IsVerdict p (violation n)) ↔ Violates p
  violation_exactly = (
    λ (n, i). let (c, r) = violation_right p R n i in (trace_of p (violation n), c, r),
    λ (ss, c, r). go ss c r (the_verdict p R).0 (the_verdict p R).1,
  )
    where
      go : (ss : List Step) (c : State) → Reaches p ss c → (v : Verdict) → IsVerdict p v → (n : ℕ) × IsVerdict p (violation n)
      go ss c r (violation n) i = (n, i)
      go ss c r (safe n) i = absurd (safe_right p R n i ss c r)

  safe_exactly : ((n : ℕ) × IsVerdict p (safe n)) ↔ (Violates p → ⊥)
  safe_exactly = (
    λ (n, i) (ss, c, r). safe_right p R n i ss c r,
    λ k. go k (the_verdict p R).0 (the_verdict p R).1,
  )
    where
      go : (Violates p → ⊥) → (v : Verdict) → IsVerdict p v → (n : ℕ) × IsVerdict p (safe n)
      go k (safe n) i = (n, i)
      go k (violation n) i = absurd (k (violation_exactly.0 (n, i)))

  left_more : (budget more : ℕ) (v : Verdict) → answer p budget ≡ some v → answer p more ≡ some v → left p more ≡ left p budget
  left_more b c v e e' = rw (e, e')

  pub demands : Demands p
  demands = record {
    held_exactly = held_exactly p R;
    rank_least = rank_why p R;
    table_rank = ranks_rank p;
    head_exactly = head_meaning p R;
    triple_exactly = triple_meaning p R;
    verdict = the_verdict p R;
    one_verdict = one_verdict p;
    violation_exactly = violation_exactly;
    safe_exactly = safe_exactly;
    trace_reaches = violation_right p R;
    trace_replays = λ n i. (replay_is p (trace_of p (violation n))).1 (violation_right p R n i);
    replay_exactly = replay_is p;
    accepted_safe = λ t h (ss, c, r). accepted_right p t R h ss c r;
    checked_exactly = checked_is p;
    safe_accepted = λ n l i. subst⁻¹ (λ t. T (accepts p t)) (present_held p n l) (safe_accepted p R n i);
    answer_verdict = answer_is p;
    answer_more = λ b c v e l. let e' = answer_more p b c v e l in (e', left_more b c v e e');
    answer_below = answer_none p;
    answer_bound = λ b l. ((the_verdict p R).0, answer_bound p R b l);
    rounds_least = rounds_least p R;
  }

-- the bound within the sizes of the document: every rank is below the mark of an absent fact
pub bound_small : (p : Product) → p.symbols ≤ 32 → length p.states ≤ 8 → bound p ≤ 2304
bound_small p g q =
    let a : p.symbols * length p.states ≤ 32 * 8 = mul-le-mul g q in
    let b : length p.states + 1 ≤ 9 = omega arith in
    let c : p.symbols * length p.states * (length p.states + 1) ≤ 32 * 8 * 9 = mul-le-mul a b in
    omega arith

-- a stored step, taken apart again
pub loaded_stored : (s : Step) → s.by_move < 128 → loaded (stored s) ≡ s
loaded_stored s l = λ i. record { by_rule = digits_div s.by_rule l i; by_move = digits_mod s.by_rule l i }
