-- The replay's contract allows one outcome. It accepts exactly the runs from the start to a final state, of a valid record and over a stack with
-- room; and refusal 12 names the first bad step. Assumes nothing.
use mathlib.Core.Bool.{Bool, true, false, cond}
use mathlib.Core.List.{List, [], ◌∷◌}
use mathlib.Core.Logic.{◌↔◌}
use mathlib.Core.Path.{◌≡◌, refl, sym, ap, ◌∙◌}
use Prim.Native.Nat.{ℕ, suc, ◌+◌, ◌<◌}
use native.Mathlib.Omega.{arith}
use lib.Dec.{T, eqb, ltb, ltb→lt}
use lib.ListN.{length}
use borrow.Author.Tests.{lt-ltb}
use Rattle.product.specs.Lists.{each}
use Rattle.product.specs.Answer.{Answer, answered, refused, Acceptance}
use Rattle.product.specs.Product.{loaded}
use Rattle.product.specs.Runs.{State, start, Reaches}
use Rattle.product.specs.Replay as product
use Rattle.product.specs.Replay.{replays, stops, replay, replay_answer}
use Rattle.product.proofs.Lists.{T_true}
use Rattle.product.proofs.Answer.{apart}
use Rattle.product.proofs.Replay.{replay_is, StopsAt, replay_stops}
use Rattle.model.specs.declared.Model.{Model}
use Rattle.model.specs.Model.{product_of}
use Rattle.model.specs.Valid.{valid}
use Rattle.std.specs.Prelude.{Ok, Err}
use Rattle.replay.specs.declared.ReplayError.TheVariants.{Invalid, Short, Bad}
use Rattle.replay.specs.Replay.{Replayed, meaning, left, Replays}

-- the numbers tell the answers apart
abbrev meant : Answer Acceptance → Replayed
meant (answered a) = Ok tt
meant (refused n []) = Err Invalid
meant (refused n (k ∷ _)) = cond (eqb n 6) (Err Invalid) (cond (eqb n 7) (Err Short) (Err (Bad k)))

meant_meaning : (r : Replayed) → meant (meaning r) ≡ r
meant_meaning (Ok tt) = refl
meant_meaning (Err Invalid) = refl
meant_meaning (Err Short) = refl
meant_meaning (Err (Bad k)) = refl

pub meaning_one : (r r' : Replayed) → meaning r ≡ meaning r' → r ≡ r'
meaning_one = apart meant meant_meaning

module _ (m : Model) (steps stack : List ℕ) where
  pub one_outcome : {r r' : Replayed} {stack' stack'' : List ℕ} → Replays m steps stack r stack' → Replays m steps stack r' stack'' → (r ≡ r') × (stack' ≡ stack'')
  one_outcome {r} {r'} a b =
      let e : r ≡ r' = meaning_one r r' (a.answer ∙ sym b.answer) in
      (e, a.cells ∙ ap (λ (r : Replayed). left r (length steps + 1) stack) e ∙ sym b.cells)

  -- which of the tests decided
  decided : (x : product.Replayed) (v l : Bool) {r : Replayed} → r ≡ meant (cond v (cond l (replay_answer x) (refused 7 (0 ∷ []))) (refused 6 (0 ∷ [])))
      → (r ≡ Ok tt → T v × T l × (x ≡ replays)) × ((n : ℕ) → r ≡ Err (Bad n) → T v × T l × (x ≡ stops n))
  decided replays true true e = (λ a. (tt, tt, refl), λ n a. let z : ◌≡◌ {A = ℕ} 0 1 = cc in absurd (omega arith))
  decided (stops k) true true e = (λ a. let z : ◌≡◌ {A = ℕ} 0 1 = cc in absurd (omega arith), λ n a. (tt, tt, cc))
  decided x true false e = (λ a. let z : ◌≡◌ {A = ℕ} 0 1 = cc in absurd (omega arith), λ n a. let z : ◌≡◌ {A = ℕ} 0 1 = cc in absurd (omega arith))
  decided x false l e = (λ a. let z : ◌≡◌ {A = ℕ} 0 1 = cc in absurd (omega arith), λ n a. let z : ◌≡◌ {A = ℕ} 0 1 = cc in absurd (omega arith))

  module _ {r : Replayed} {stack' : List ℕ} (h : Replays m steps stack r stack') where
    abbrev got : product.Replayed
    got = replay (product_of m) (each steps loaded)

    of_tests : (r ≡ Ok tt → T (valid m) × T (ltb (length steps) (length stack)) × (got ≡ replays))
        × ((n : ℕ) → r ≡ Err (Bad n) → T (valid m) × T (ltb (length steps) (length stack)) × (got ≡ stops n))
    of_tests = decided got (valid m) (ltb (length steps) (length stack)) (sym (meant_meaning r) ∙ ap meant h.answer)

    pub accepted_is : (r ≡ Ok tt) ↔ (T (valid m) × (length steps < length stack) × ((c : State) × Reaches (product_of m) (each steps loaded) c))
    accepted_is = (
      λ e. let (v, l, x) = of_tests.0 e in (v, ltb→lt (length steps) (length stack) l, (replay_is (product_of m) (each steps loaded)).0 x),
      λ (v, l, run). meaning_one r (Ok tt) (h.answer ∙ rw (T_true (valid m) v, lt-ltb (length steps) (length stack) l, (replay_is (product_of m) (each steps loaded)).1 run)),
    )

    -- the steps before it are a run, and it is no step there, or the end is not final
    pub bad_is : (n : ℕ) → r ≡ Err (Bad n) → (j : ℕ) × (suc j ≡ n) × StopsAt (product_of m) j (start (product_of m)) (each steps loaded)
    bad_is n e = let (_, _, x) = of_tests.1 n e in replay_stops (product_of m) (each steps loaded) n x
