-- The steps of a fact are those of its explanation: the run of its head, the step, and the runs of its triples. Assumes nothing.
use Rattle.std.specs.Prelude.{Some, None}
use mathlib.Core.List.{List, [], ◌∷◌, ◌++◌, append-nil}
use mathlib.Core.Option.{Option, none, some}
use mathlib.Core.Path.{◌≡◌, refl, sym, ap, ap₂, ◌∙◌, subst, subst⁻¹}
use Prim.Native.Nat.{ℕ, zero, suc, ◌+◌, ◌*◌, ◌<◌, ◌≤◌}
use native.Mathlib.Omega.{arith}
use lib.Dec.{T}
use lib.ListN.{length}
use Rattle.product.specs.Lists.{over, each, All}
use Rattle.product.specs.Product.{Product, Rule, exit, direct, call, Step, stored, rule_of}
use Rattle.product.specs.Facts.{Fact, Way, needs, same, first, ways}
use Rattle.product.specs.Rounds.{works, held, Rank}
use Rattle.product.specs.Table.{Table, ranks}
use Rattle.product.specs.Trace.{explanation, along, along_found, trace}
use Rattle.product.proofs.Lists.{All-left, All-right, All-map, All-at, over_append}
use Rattle.product.proofs.Rounds.{In, of_works, grown_up}
use Rattle.product.proofs.Ranks.{ranks_rank}
use Rattle.product.proofs.Falling.{along_same, unfolded, trace_later, trace_falls}
use Rattle.product.proofs.Ways.{EachWay, steps_ways}
use Rattle.table.specs.declared.Fact as code
use Rattle.table.specs.Places.{fact_of}
use Rattle.table.proofs.Places.{fact_back}
use Rattle.explain.specs.declared.Cause.{Cause}
use Rattle.explain.specs.Search.{way_by_rank}
use Rattle.explain.specs.Answers.{Found, first_in, second_in, cause_of, found_as, explained}
use Rattle.culprit.specs.Culprit.{Goal, goal_of}
use Rattle.trace.specs.Unfold.{Explains, HeldFor, steps_for, Unfolded}
use Rattle.culprit.proofs.First.{find_elim}
use Rattle.explain.proofs.Tried.{found_none, found_some}
use Rattle.text.specs.Put.{Put}
use Rattle.text.proofs.Puts.{none_put, past_put, then_put}
use Rattle.explain.proofs.Falls.{first_of, second_of, same_cause}

-- a way needs at most one head and two triples
abbrev Short : Way → Type 0
Short w = (length w.before ≤ 1) × (length w.after ≤ 2)

ways_short : (p : Product) → All Short (ways p)
ways_short p = steps_ways p Short (λ s q q' _. short s q q' (rule_of p s))
  where
    short : (s : Step) (q q' : ℕ) (ρ : Rule) → EachWay Short p.states s q q' ρ
    short s q q' (exit g) = omega arith
    short s q q' (direct g g1) = (omega arith, λ e _. omega arith)
    short s q q' (call g g1 g2) = (omega arith, λ e _. omega arith, λ e f _ _. omega arith)

module _ (t : Fact → List Step) where
  goal_steps : (f : Fact) → steps_for t (goal_of f) ≡ t f
  goal_steps f = ap t (fact_back f)

  over_one : (xs : List Fact) → length xs ≤ 1 → over xs t ≡ steps_for t (first_in xs)
  over_one [] l = refl
  over_one (x ∷ []) l = append-nil (t x) ∙ sym (goal_steps x)
  over_one (x ∷ y ∷ xs) l = absurd (omega arith)

  over_two : (xs : List Fact) → length xs ≤ 2 → over xs t ≡ steps_for t (first_in xs) ++ steps_for t (second_in xs)
  over_two [] l = refl
  over_two (x ∷ xs) l = ap₂ ◌++◌ (sym (goal_steps x)) (over_one xs (omega arith))

  along_short : (w : Way) → Short w
      → along t w ≡ steps_for t (first_in w.before) ++ w.by ∷ (steps_for t (first_in w.after) ++ steps_for t (second_in w.after))
  along_short w (i, j) = ap₂ (λ b a. b ++ w.by ∷ a) (over_one w.before i) (over_two w.after j)

module _ (p : Product) (n : ℕ) where
  up : (k : ℕ) → k ≤ n → (f : Fact) → T (held p k f) → T (held p n f)
  up k l f = grown_up p (same (first p)) k n f l

  -- a fact of rank k + 1, by its explanation
  trace_by : (f : Fact) (k : ℕ) → Rank p f (suc k) → suc k ≤ n → trace p n f ≡ along_found (trace p n) (explanation p k f)
  trace_by f k R l = trace_later p (suc k) n f l R.0 ∙ trace_falls p k f R ∙ go (explanation p k f) refl
    where
      lower : (d : Fact) → T (held p k d) → unfolded p k d ≡ trace p n d
      lower d h = let (r, below) = ranks_rank p k d h in sym (trace_later p (ranks p k d) n d (omega (arith, below k h)) r)

      go : (o : Option Way) → explanation p k f ≡ o → along_found (unfolded p k) o ≡ along_found (trace p n) o
      go none e = refl
      go (some w) e =
          let (_, u) = find_elim (works (held p k) f) (ways p) w e in
          let (_, h) = of_works (held p k) f w u in
          let s : All (λ d. unfolded p k d ≡ trace p n d) (needs w) = All-map (In (held p k)) (λ d. unfolded p k d ≡ trace p n d) lower (needs w) h in
          along_same (unfolded p k) (trace p n) w s

-- the steps of a fact, by a cause that was found
abbrev pub numbers : Product → ℕ → Goal → List ℕ
numbers p n f = each (steps_for (trace p n) f) stored

pub record Runs (p : Product) (n : ℕ) (f : Goal) (c : Cause) : Type 0 where
  pub before_held : HeldFor p n c.before
  pub first_held : HeldFor p n c.first
  pub second_held : HeldFor p n c.second
  pub runs : numbers p n f ≡ numbers p n c.before ++ ((c.rule * 128 + c.by) ∷ (numbers p n c.first ++ numbers p n c.second))

module _ (p : Product) (n : ℕ) (t : Table) (why : ℕ → Fact → Option Way) (E : Explains p n t why) where
  -- of rank 0 is the start head alone, which has no step
  start_steps : (f : Fact) → T (held p n f) → t f ≡ 0 → trace p n f ≡ []
  unfolding trace
  start_steps f h z =
      let r : Rank p f 0 = subst (Rank p f) (sym (E.rank f h) ∙ z) (ranks_rank p n f h) in
      trace_later p 0 n f (omega arith) r.0

  module _ (d : code.Fact) (h : T (held p n (fact_of d))) (k : ℕ) (is : suc k ≡ t (fact_of d)) where
    abbrev f : Fact
    f = fact_of d

    rank_of : Rank p f (suc k)
    rank_of = subst (Rank p f) (sym (is ∙ E.rank f h)) (ranks_rank p n f h)

    not_late : suc k ≤ n
    not_late = rank_of.1 n h

    way_of : why (suc k) f ≡ explanation p k f
    way_of = E.way k f not_late h

    none_steps : why (suc k) f ≡ none → trace p n f ≡ []
    none_steps e = trace_by p n f k rank_of not_late ∙ ap (along_found (trace p n)) (sym way_of ∙ e)

    some_runs : (w : Way) → why (suc k) f ≡ some w → Runs p n (Some d) (cause_of w)
    some_runs w e =
        let x : explanation p k f ≡ some w = sym way_of ∙ e in
        let (i, u) = find_elim (works (held p k) f) (ways p) w x in
        let (_, a) = of_works (held p k) f w u in
        let l : All (λ d. HeldFor p n (goal_of d)) (needs w) = All-map (In (held p k)) (λ d. HeldFor p n (goal_of d)) goal_held (needs w) a in
        let b : All (λ d. HeldFor p n (goal_of d)) w.before = All-left (λ d. HeldFor p n (goal_of d)) w.before w.after l in
        let c : All (λ d. HeldFor p n (goal_of d)) w.after = All-right (λ d. HeldFor p n (goal_of d)) w.before w.after l in
        record {
          before_held = first_of (HeldFor p n) tt w.before b;
          first_held = first_of (HeldFor p n) tt w.after c;
          second_held = second_of (HeldFor p n) tt w.after c;
          runs =
              ap (λ ss. each ss stored) (trace_by p n f k rank_of not_late ∙ ap (along_found (trace p n)) x ∙ along_short (trace p n) w (All-at Short (ways p) (ways_short p) w i))
              ∙ parts (steps_for (trace p n) (first_in w.before)) w.by (steps_for (trace p n) (first_in w.after)) (steps_for (trace p n) (second_in w.after));
        }
      where
        goal_held : (d : Fact) → T (held p k d) → HeldFor p n (goal_of d)
        goal_held d u = subst⁻¹ (λ d. T (held p n d)) (fact_back d) (up p n k (omega (arith, not_late)) d u)

        parts : (xs : List Step) (s : Step) (bs cs : List Step) → each (xs ++ s ∷ (bs ++ cs)) stored ≡ each xs stored ++ (stored s ∷ (each bs stored ++ each cs stored))
        parts xs s bs cs = over_append xs (s ∷ (bs ++ cs)) (λ s. stored s ∷ []) ∙ ap (λ l. each xs stored ++ (stored s ∷ l)) (over_append bs cs (λ s. stored s ∷ []))

    cause_runs : {a : Found} → a ≡ found_as (why (suc k) f) → {c : Cause} → a ≡ Some c → Runs p n (Some d) c
    cause_runs read told =
        let (w, e, by) = found_some (why (suc k) f) read told in
        subst⁻¹ (Runs p n (Some d)) (same_cause by) (some_runs w e)

  -- the same of the fact that is asked for, if one is
  pub none_numbers : (f : Goal) → HeldFor p n f → {d : Found} → d ≡ found_as (explained why t f) → d ≡ None → numbers p n f ≡ []
  none_numbers None h read told = refl
  none_numbers (Some f) h read told = ap (λ ss. each ss stored) (go (t (fact_of f)) refl (found_none (way_by_rank why (fact_of f) (t (fact_of f))) read told))
    where
      go : (k : ℕ) → k ≡ t (fact_of f) → way_by_rank why (fact_of f) k ≡ none → trace p n (fact_of f) ≡ []
      go zero is e = start_steps (fact_of f) h (sym is)
      go (suc k) is e = none_steps f h k is e

  pub found_runs : (f : Goal) → HeldFor p n f → {d : Found} → d ≡ found_as (explained why t f) → {c : Cause} → d ≡ Some c → Runs p n f c
  found_runs None h read told = let z : ◌≡◌ {A = ℕ} 0 1 = cc in absurd (omega arith)
  found_runs (Some f) h read told = go (t (fact_of f)) refl read told
    where
      go : (k : ℕ) → k ≡ t (fact_of f) → {d : Found} → d ≡ found_as (way_by_rank why (fact_of f) k) → {c : Cause} → d ≡ Some c → Runs p n (Some f) c
      go zero is read told = let z : ◌≡◌ {A = ℕ} 0 1 = cc in absurd (omega arith)
      go (suc k) is read told = cause_runs f h k is read told

-- what a call writes, by the way that it takes
module _ (t : Table) (why : ℕ → Fact → Option Way) (f : Goal) {room : List ℕ} {at : ℕ} where
  pub unfolded_cut : length room < at → at ≤ length room + 1 → Unfolded t why f room at at room
  unfolded_cut l i = record { within = i; steps = λ p n E h. past_put (numbers p n f) l i }

  module _ (i : at ≤ length room + 1) {d : Found} (read : d ≡ found_as (explained why t f)) where
    pub unfolded_none : d ≡ None → Unfolded t why f room at at room
    unfolded_none told = record {
      within = i;
      steps = λ p n E h. subst⁻¹ (λ l. Put room room at at l) (none_numbers p n t why E f h read told) (none_put room at (omega arith));
    }

    pub unfolded_by : {c : Cause} → d ≡ Some c → {r1 r2 r3 r4 : ℕ} {room1 room2 room3 room4 : List ℕ}
        → Unfolded t why c.before room at r1 room1 → Put room1 room2 r1 r2 ((c.rule * 128 + c.by) ∷ [])
        → Unfolded t why c.first room2 r2 r3 room3 → Unfolded t why c.second room3 r3 r4 room4
        → r4 ≤ length room + 1 → Unfolded t why f room at r4 room4
    unfolded_by {c} told {r4 = r4} {room4 = room4} u w v x last = record {
      within = last;
      steps = λ p n E h.
          let R : Runs p n f c = found_runs p n t why E f h read told in
          subst⁻¹ (λ l. Put room room4 at r4 l) R.runs
          (then_put (u.steps p n E R.before_held) (then_put w (then_put (v.steps p n E R.first_held) (x.steps p n E R.second_held))));
    }
