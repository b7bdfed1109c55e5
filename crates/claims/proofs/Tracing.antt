-- The promises of the trace call and the replay hold. Assumes nothing.
use mathlib.Core.Bool.{Bool, true, false, cond}
use mathlib.Core.List.{List, [], ◌∷◌, ◌++◌}
use mathlib.Core.Option.{Option, none, some}
use mathlib.Core.Path.{◌≡◌, refl, sym, ap, ap₂, ◌∙◌, subst, subst⁻¹}
use Prim.Native.Nat.{ℕ, suc, ◌+◌, ◌<◌, ◌≤◌}
use native.Mathlib.Omega.{arith}
use lib.Dec.{leb}
use borrow.Author.Tests.{leb-true, leb-false}
use lib.ListN.{length, take, drop, set}
use lib.Seq.{sets, sets-eq, take_at}
use Rattle.std.specs.Prelude.{Ok, Err}
use Rattle.product.specs.Lists.{each, All}
use Rattle.product.specs.Answer.{Answer, answered, refused}
use Rattle.product.specs.Product.{Product, Step, stored, loaded, InRange}
use Rattle.product.specs.Runs.{State, Run, Reaches}
use Rattle.product.specs.Verdict.{Verdict, violation, safe}
use Rattle.product.specs.Verdict as product
use Rattle.product.specs.Trace.{trace_of}
use Rattle.product.specs.Table.{left}
use Rattle.table.specs.Cells.{heads_of, triples_of}
use Rattle.product.proofs.Lists.{length_each}
use Rattle.product.proofs.Closed.{step_elim}
use Rattle.product.proofs.Demands.{demands, loaded_stored}
use Rattle.model.specs.declared.Model.{Model}
use Rattle.model.specs.Model.{product_of}
use Rattle.model.proofs.Valid.{valid_sizes, product_in_lem}
use Rattle.fitting.specs.Fits.{heads_of as head_count, triples_of as triple_count, Fits}
use Rattle.fitting.proofs.Tested.{tested_well, guarded_by, tested_same}
use Rattle.decide.specs.Decided.{within, decision, heads_left, triples_left}
use Rattle.trace.specs.declared.Traced.{Traced}
use Rattle.trace.specs.declared.TraceError.TheVariants.{Undecided, Cut}
use Rattle.decide.specs.declared.DecideError.TheVariants.{Spent}
use Rattle.trace.specs.Outcome.{TraceAnswer, traced, meaning, traced_by, steps_by, Outcome}
use Rattle.trace.proofs.Outcome.{Answered, answered_by, outcome_one}
use Rattle.replay.proofs.Outcomes.{accepted_is}
use Rattle.claims.specs.Tracing.{Tracing, Replaying}

pub replaying : Replaying
replaying m steps stack stack' h = let (_, _, (c, r)) = (accepted_is m steps stack h).0 refl in (each steps loaded, c, r)

-- the moves of a run are numbers of the product's moves
run_moves : (p : Product) → InRange p → (ss : List Step) (c d : State) → Run p c ss d → All (λ s. s.by_move < p.moves) ss
run_moves p R [] c d e = tt
run_moves p R (s ∷ ss) c d (b, e, run) =
    (step_elim p s (λ _ _. s.by_move < p.moves) (λ q q' w i. (R.steps_in s q q' i).1) c b e, run_moves p R ss b d run)

-- stored and loaded again
back : (ss : List Step) (k : ℕ) → k ≤ 128 → All (λ s. s.by_move < k) ss → each (each ss stored) loaded ≡ ss
back [] k l h = refl
back (s ∷ ss) k l (i, h) = ap₂ ◌∷◌ (loaded_stored s (omega arith)) (back ss k l h)

-- what stands in a room after a run of numbers: all of them, or as many as it has cells
sets_front : (l xs : List ℕ) → length xs ≤ length l → take (length xs) (sets l 0 xs) ≡ xs
sets_front l xs h = rw (sets-eq xs l 0 (omega arith)) (take_at xs (drop (0 + length xs) l) (length xs) refl)

sets_past : (l : List ℕ) (i : ℕ) (x y : ℕ) (xs : List ℕ) → sets (y ∷ l) (suc i) xs ≡ y ∷ sets l i xs
sets_past l i x y [] = refl
sets_past l i x y (z ∷ xs) = sets_past (set l i z) (suc i) x y xs

sets_full : (l xs : List ℕ) → length l ≤ length xs → sets l 0 xs ≡ take (length l) xs
sets_full [] xs h = none_there xs 0
  where
    none_there : (xs : List ℕ) (i : ℕ) → sets [] i xs ≡ []
    none_there [] i = refl
    none_there (x ∷ xs) i = none_there xs (suc i)
sets_full (y ∷ l) (x ∷ xs) h = sets_past l 0 x x xs ∙ ap (λ l. x ∷ l) (sets_full l xs (omega arith))
sets_full (y ∷ l) [] h = elim h [ ]

-- the trace of a violation comes only from a verdict of the decision
module _ (m : Model) (room : ℕ) where
  found_by : (n k : ℕ) (a : Answer Verdict) → answered (traced n k) ≡ traced_by m room a → (a ≡ answered (violation n)) × (k ≡ length (trace_of (product_of m) (violation n))) × (k ≤ room)
  found_by n k (answered (violation i)) e = go (leb (length (trace_of (product_of m) (violation i))) room) refl e
    where
      go : (b : Bool) → leb (length (trace_of (product_of m) (violation i))) room ≡ b → answered (traced n k) ≡ cond b (answered (traced i (length (trace_of (product_of m) (violation i))))) (refused 10 (i ∷ room ∷ []))
          → (answered (violation i) ≡ answered (violation n)) × (k ≡ length (trace_of (product_of m) (violation n))) × (k ≤ room)
      go true x e =
          let j : i ≡ n = cc in
          let l : k ≡ length (trace_of (product_of m) (violation i)) = cc in
          (ap (λ i. answered (violation i)) j, l ∙ ap (λ i. length (trace_of (product_of m) (violation i))) j, omega (arith, leb-true (length (trace_of (product_of m) (violation i))) room x))
      go false x e = let z : ◌≡◌ {A = ℕ} 0 1 = cc in absurd (omega arith)
  found_by n k (answered (safe i)) e = let z : ◌≡◌ {A = ℕ} 0 1 = cc in absurd (omega arith)
  found_by n k (refused i vs) e = let z : ◌≡◌ {A = ℕ} 0 1 = cc in absurd (omega arith)

  cut_by : (n k : ℕ) (a : Answer Verdict) → refused 10 (n ∷ k ∷ []) ≡ traced_by m room a → ((b : ℕ) (vs : List ℕ) → a ≡ refused b vs → b ≡ 10 → ⊥)
      → (a ≡ answered (violation n)) × (room ≤ length (trace_of (product_of m) (violation n)))
  cut_by n k (answered (violation i)) e h = go (leb (length (trace_of (product_of m) (violation i))) room) refl e
    where
      go : (b : Bool) → leb (length (trace_of (product_of m) (violation i))) room ≡ b → refused 10 (n ∷ k ∷ []) ≡ cond b (answered (traced i (length (trace_of (product_of m) (violation i))))) (refused 10 (i ∷ room ∷ []))
          → (answered (violation i) ≡ answered (violation n)) × (room ≤ length (trace_of (product_of m) (violation n)))
      go true x e = let z : ◌≡◌ {A = ℕ} 0 1 = cc in absurd (omega arith)
      go false x e =
          let j : i ≡ n = cc in
          (ap (λ i. answered (violation i)) j, subst (λ i. room ≤ length (trace_of (product_of m) (violation i))) j (omega (arith, leb-false (length (trace_of (product_of m) (violation i))) room x)))
  cut_by n k (answered (safe i)) e h = let z : ◌≡◌ {A = ℕ} 9 10 = cc in absurd (omega arith)
  cut_by n k (refused i vs) e h = let z : 10 ≡ i = cc in absurd (h i vs refl (sym z))

-- the decision's own refusals are 6, 7 and 8
module _ (m : Model) (budget h t : ℕ) where
  its_refusals : (b : ℕ) (vs : List ℕ) → decision m budget h t ≡ refused b vs → b ≡ 10 → ⊥
  unfolding decision
  its_refusals b vs e i =
      let (_, k) = guarded_by m h t (within budget (product.answer (product_of m) budget)) (refused b vs) (sym e) (λ w. let z : b ≡ 6 = cc in omega arith) (λ w. let z : b ≡ 7 = cc in omega arith) in
      go (product.answer (product_of m) budget) k
    where
      go : (o : Option Verdict) → refused b vs ≡ within budget o → ⊥
      go none e = let z : b ≡ 8 = cc in omega arith
      go (some v) e = let z : ◌≡◌ {A = ℕ} 0 1 = cc in omega arith

  -- where the budget is not spent, a larger one gives the same answer
  module _ (more : ℕ) (l : budget ≤ more) (unspent : decision m budget h t ≡ refused 8 (budget ∷ []) → ⊥) where
    more_gives : Fits m h t → (within more (product.answer (product_of m) more) ≡ within budget (product.answer (product_of m) budget)) × (left (product_of m) more ≡ left (product_of m) budget)
    unfolding decision
    more_gives f = go (product.answer (product_of m) budget) refl
      where
        go : (o : Option Verdict) → product.answer (product_of m) budget ≡ o
            → (within more (product.answer (product_of m) more) ≡ within budget (product.answer (product_of m) budget)) × (left (product_of m) more ≡ left (product_of m) budget)
        go none e = absurd (unspent (tested_well m h t f _ _ _ ∙ ap (within budget) e))
        go (some v) e =
            let (a, b) = (demands (product_of m) (product_in_lem m f.valid_model)).answer_more budget more v e l in
            (ap (within more) a ∙ sym (ap (within budget) e), b)

    same_decision : decision m more h t ≡ decision m budget h t
    unfolding decision
    same_decision = tested_same m h t _ _ _ _ (λ f. (more_gives f).0)

    same_left : Fits m h t → left (product_of m) more ≡ left (product_of m) budget
    same_left f = (more_gives f).1

module _ {m : Model} {budget : ℕ} {hs ts room : List ℕ} {r : TraceAnswer} {hs' ts' room' : List ℕ} (O : Outcome m budget hs ts room r hs' ts' room') where
  abbrev said : Answer Verdict
  said = decision m budget (length hs) (length ts)

  abbrev steps : ℕ → List Step
  steps n = trace_of (product_of m) (violation n)

  -- a violation was answered: its trace is a run to a final state, and is what was written
  module _ (n : ℕ) (x : said ≡ answered (violation n)) where
    A : Answered m budget (length hs) (length ts) (violation n)
    A = answered_by m budget (length hs) (length ts) (violation n) (sym x)

    R : InRange (product_of m)
    R = product_in_lem m A.fits.valid_model

    reaches : (c : State) × Reaches (product_of m) (steps n) c
    reaches = (demands (product_of m) R).trace_reaches n ((demands (product_of m) R).answer_verdict budget (violation n) A.verdict_is).0

    written : room' ≡ sets room 0 (each (steps n) stored)
    written = O.steps ∙ ap (λ a. sets room 0 (steps_by m a)) x

    module _ (k : ℕ) (y : k ≡ length (steps n)) (z : k ≤ length room) where
      front : take k room' ≡ each (steps n) stored
      front =
          let e : k ≡ length (each (steps n) stored) = y ∙ sym (length_each (steps n) stored) in
          rw (written, e) (sets_front room (each (steps n) stored) (omega (arith, e)))

      again : each (take k room') loaded ≡ steps n
      again =
          let (c, (run, _)) = reaches in
          ap (λ xs. each xs loaded) front ∙ back (steps n) m.moves (valid_sizes m A.fits.valid_model).moves (run_moves (product_of m) R (steps n) _ c run)

      as_run : (c : State) × Reaches (product_of m) (each (take k room') loaded) c
      as_run = subst⁻¹ (λ ss. (c : State) × Reaches (product_of m) ss c) again reaches

      as_many : length (take k room') ≡ k
      as_many = ap length front ∙ length_each (steps n) stored ∙ sym y

  -- which answers tell of a violation
  found : (t : Traced) → r ≡ Ok t → (said ≡ answered (violation t.rounds)) × (t.steps ≡ length (steps t.rounds)) × (t.steps ≤ length room)
  found t e = found_by m (length room) t.rounds t.steps said (sym (ap meaning e) ∙ O.answer)

  cut_begins : (n k : ℕ) → r ≡ Err (Cut n k) → room' ≡ take (length room) (each (steps n) stored)
  cut_begins n k e =
      let (x, y) = cut_by m (length room) n k said (sym (ap meaning e) ∙ O.answer) (its_refusals m budget (length hs) (length ts)) in
      written n x ∙ sets_full room (each (steps n) stored) (omega (arith, length_each (steps n) stored))

  spent : said ≡ refused 8 (budget ∷ []) → r ≡ Err (Undecided (Spent budget))
  spent e = (outcome_one m budget hs ts room r (Err (Undecided (Spent budget))) hs' hs' ts' ts' room' room' O
      (record { answer = sym (ap (traced_by m (length room)) e); heads = O.heads; triples = O.triples; steps = O.steps })).0

  module _ (more : ℕ) (l : budget ≤ more) (unspent : (b : ℕ) → r ≡ Err (Undecided (Spent b)) → ⊥) where
    not_spent : said ≡ refused 8 (budget ∷ []) → ⊥
    not_spent e = unspent budget (spent e)

    same_said : decision m more (length hs) (length ts) ≡ said
    same_said = same_decision m budget (length hs) (length ts) more l not_spent

    as_more : Outcome m more hs ts room r hs' ts' room'
    unfolding heads_left triples_left
    as_more = record {
      answer = O.answer ∙ ap (traced_by m (length room)) (sym same_said);
      heads = O.heads ∙ tested_same m (length hs) (length ts) _ _ _ _ (λ f. ap (λ t. heads_of m.symbols m.states t ++ drop (head_count m) hs) (sym (same f)));
      triples = O.triples ∙ tested_same m (length hs) (length ts) _ _ _ _ (λ f. ap (λ t. triples_of m.symbols m.states t ++ drop (triple_count m) ts) (sym (same f)));
      steps = O.steps ∙ ap (λ a. sets room 0 (steps_by m a)) (sym same_said);
    }
      where
        same : Fits m (length hs) (length ts) → left (product_of m) more ≡ left (product_of m) budget
        same = same_left m budget (length hs) (length ts) more l not_spent

  pub tracing : Tracing m budget hs ts room r hs' ts' room'
  tracing = record {
    fits_reaches = λ t e. let (x, y, z) = found t e in as_run t.rounds x t.steps y z;
    fits_replays = λ t e stack stack' a h l.
        let (x, y, z) = found t e in
        (accepted_is m (take t.steps room') stack h).1 ((A t.rounds x).fits.valid_model, omega (arith, as_many t.rounds x t.steps y z), as_run t.rounds x t.steps y z);
    cut_begins = cut_begins;
    same_more = λ more l u r' hs'' ts'' room'' O'. outcome_one m more hs ts room r' r hs'' hs' ts'' ts' room'' room' O' (as_more more l u);
  }
