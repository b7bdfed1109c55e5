-- The rounds go on until there is an answer. Assumes nothing.
use mathlib.Core.Bool.{Bool, true, false, not}
use mathlib.Core.List.{List}
use mathlib.Core.Option.{Option, none, some}
use mathlib.Core.Path.{◌≡◌, refl, sym, ap, ◌∙◌, subst, subst⁻¹}
use Prim.Native.Nat.{ℕ, suc, ◌+◌, ◌<◌, ◌≤◌}
use native.Mathlib.Decide.{ℕ_discrete}
use native.Mathlib.Numerals.{add-one}
use native.Mathlib.Omega.{arith}
use lib.Dec.{T, T_not, eqb, eqb→eq, eqb_refl}
use lib.ListN.{length}
use Rattle.product.specs.Lists.{◌∈◌}
use Rattle.product.specs.Product.{Product}
use Rattle.product.specs.Facts.{head, triple}
use Rattle.product.specs.Rounds.{grown, held}
use Rattle.product.specs.Table.{ranks}
use Rattle.product.specs.Verdict.{violated, adds, Verdict, violation, safe, rounds, GoesOn, ran, answer}
use Rattle.product.proofs.Lists.{length_up_to, up_to_lt, and_right}
use Rattle.product.proofs.Verdict.{goes_bound, stopped, violated_by}
use Rattle.product.proofs.Budget.{Stands, decided, undecided, answer_stands, answer_of}
use Rattle.product.proofs.Demands.{bound_small}
use Rattle.table.specs.declared.Size.{Size}
use Rattle.bits.specs.Bit.{bit}
use Rattle.decide.specs.declared.Verdict.TheVariants.{Violation, Safe}
use Rattle.decide.specs.declared.DecideError.TheVariants.{Spent}
use Rattle.std.specs.Prelude.{Ok, Err}
use Rattle.decide.specs.Decided.{Decision, meaning, within}
use Rattle.decide.specs.Stamp.{of_heads, of_triples}
use Rattle.decide.specs.declared.Goal.{Goal}
use Rattle.decide.specs.declared.Next.{Next}
use Rattle.std.specs.Prelude as code
use Rattle.std.specs.Prelude.{Some, None}
use Rattle.decide.specs.Gather.{zeros}
use Rattle.decide.specs.Take.{TriplesReady, TriplesDone}
use Rattle.decide.specs.Show.{HeadsReady, HeadsDone}
use Rattle.decide.specs.Standing.{Begins, Kept}
use Rattle.decide.specs.Turn.{Chosen}
use Rattle.decide.specs.Driven.{violations, Tested, violates, is_safe, is_spent, goes_on, Judged, start_rows, Starts, Driving, Answers, Driven}
use Rattle.decide.proofs.Found.{found, not_found}
use Rattle.decide.proofs.Done.{heads_ready, triples_ready, round_ends}
use Rattle.decide.proofs.Turning.{triples_low, heads_low, after_turn}

-- After round n: what stands, with the rules for the next; the rounds before it went on; `more` tells whether it added a fact, and of the symbols
-- that are not in `changed` no head is in a final state.
pub record At (p : Product) (z : Size) (budget : ℕ) (rs tg hs ts : List ℕ) (n : ℕ) (t : Next) (by e hd hs' ts' : List ℕ) : Type 0 where
  pub begins : Begins p z n t.wt.words t.wh.words rs tg by e hd hs' ts'
  pub triples_kept : Kept of_triples z ts ts'
  pub heads_kept : Kept of_heads z hs hs'
  pub idle : t.more ≡ false → T (not (adds p n))
  pub busy : t.more ≡ true → T (adds p n)
  pub low : (s : ℕ) → T (bit t.changed s) → s < 32
  pub others : (q s : ℕ) → bit t.changed s ≡ false → T (held p n (head q s)) → T (not (p.final q))
  pub goes : (k : ℕ) → k < n → GoesOn p k
  pub in_budget : n ≤ budget

-- for every product that the arrays hold
pub record Going (z : Size) (goal : Goal) (t₀ : Next) (rs tg us hs ts : List ℕ) (budget n : ℕ) (t : Next) (by e hd hs' ts' : List ℕ) : Type 0 where
  pub few : n ≤ 2304
  pub heads_long : length hs' ≡ length hs
  pub triples_long : length ts' ≡ length ts
  pub at : (p : Product) → Starts p z goal t₀ rs tg us hs ts → At p z budget rs tg hs ts n t by e hd hs' ts'

not_of : (b : Bool) → (T b → ⊥) → T (not b)
not_of false h = tt
not_of true h = h tt

module _ {z : Size} {goal : Goal} {t₀ : Next} {rs tg us hs ts : List ℕ} where
  -- the numbers are in range
  pub small_state : Driving z goal t₀ rs tg us hs ts → goal.state < 8
  small_state d =
      let p = d.product in
      let a = d.starts.begins.arrays in
      omega (arith, d.starts.goals.state_is, a.frame.few_states, up_to_lt z.states p.start_state (subst (λ l. p.start_state ∈ l) a.frame.states_are a.in_range.state_in))

  pub small_symbol : Driving z goal t₀ rs tg us hs ts → goal.symbol < 32
  small_symbol d =
      let b = d.starts.begins in
      omega (arith, d.starts.goals.symbol_is, b.arrays.in_range.symbol_in, b.arrays.symbols_are, b.standing.triples_room.few)

  pub going_first : (budget : ℕ) → Driving z goal t₀ rs tg us hs ts → {hd : List ℕ} → hd ≡ start_rows goal → Going z goal t₀ rs tg us hs ts budget 0 t₀ (zeros 256) (zeros 32) hd hs ts
  unfolding adds grown
  going_first budget d {hd} hd-is = record { few = omega arith; heads_long = refl; triples_long = refl; at = λ p s. subst⁻¹ (λ hd. At p z budget rs tg hs ts 0 t₀ (zeros 256) (zeros 32) hd hs ts) hd-is (first p s) }
    where
      first : (p : Product) → Starts p z goal t₀ rs tg us hs ts → At p z budget rs tg hs ts 0 t₀ (zeros 256) (zeros 32) (start_rows goal) hs ts
      first p s = record {
        begins = s.begins;
        triples_kept = record { as_long = refl; past = refl };
        heads_kept = record { as_long = refl; past = refl };
        idle = λ x. absurd (subst T (sym s.more_is ∙ x) tt);
        busy = λ _. tt;
        low = λ x t. subst (λ n. n < 32) (eqb→eq goal.symbol x (subst T (s.changed_is x) t)) (small_symbol d);
        others = λ q' x c h.
            let i : p.start_symbol ≡ x = eqb→eq p.start_symbol x (and_right (eqb p.start_state q') (eqb p.start_symbol x) h) in
            absurd (subst T (ap (eqb goal.symbol) (s.goals.symbol_is ∙ i) ∙ sym (s.changed_is x) ∙ c) (eqb_refl goal.symbol));
        goes = λ k l. absurd (omega arith);
        in_budget = omega arith;
      }

  module _ {budget n : ℕ} {t : Next} {by e hd hs' ts' : List ℕ} (G : Going z goal t₀ rs tg us hs ts budget n t by e hd hs' ts') where
    pub changed_low : Driving z goal t₀ rs tg us hs ts → (s : ℕ) → T (bit t.changed s) → s < 32
    changed_low d = (G.at d.product d.starts).low

    -- the rounds are few, since each has added a fact
    few_rounds : (p : Product) → Starts p z goal t₀ rs tg us hs ts → (n : ℕ) → ((k : ℕ) → k < n → GoesOn p k) → n ≤ 2304
    few_rounds p s n h =
        let a = s.begins.arrays in
        omega (
          arith,
          goes_bound p a.in_range n h,
          bound_small p (omega (arith, a.symbols_are, s.begins.standing.triples_room.few))
              (omega (arith, ap length a.frame.states_are, length_up_to z.states, a.frame.few_states)),
        )

    answered : (d : Decision) → ((p : Product) → Starts p z goal t₀ rs tg us hs ts → (o : Option Verdict) × (meaning d ≡ within budget o) × (o ≡ answer p budget) × (ran budget o ≡ n))
        → Driven z goal t₀ rs tg us hs ts budget d hs' ts'
    answered d h = record { answers = at }
      where
        at : (p : Product) → Starts p z goal t₀ rs tg us hs ts → Answers p z hs ts budget d hs' ts'
        at p s =
            let (o, w, x, y) = h p s in
            let g = G.at p s in
            let n-is : n ≡ ran budget (answer p budget) = sym y ∙ ap (ran budget) x in
            record {
              answer_is = w ∙ ap (within budget) x;
              triples_ranked = λ q g' x. g.begins.standing.triples_ranked q g' x ∙ ap (λ n. ranks p n (triple q g' x)) n-is;
              heads_ranked = λ q g'. g.begins.standing.heads_ranked q g' ∙ ap (λ n. ranks p n (head q g')) n-is;
              triples_kept = g.triples_kept;
              heads_kept = g.heads_kept;
            }

    module _ (r : ℕ) (r-is : (x : ℕ) → bit r x ≡ violations goal.finals t.changed hd e goal.state goal.symbol x) where
      violated_now : (r ≡ 0 → ⊥) → Driven z goal t₀ rs tg us hs ts budget (Ok (Violation n)) hs' ts'
      violated_now k =
          answered (Ok (Violation n)) (λ p s.
          let b = G.at p s in
          (some (violation n), refl, sym (answer_of p budget (violation n) (b.goes, found b.begins s.goals t.changed b.low r r-is k) b.in_budget), refl))

      module _ (clean : r ≡ 0) where
        unviolated : (p : Product) → Starts p z goal t₀ rs tg us hs ts → T (not (violated p n))
        unviolated p s = let b = G.at p s in not_found b.begins s.goals t.changed b.low r r-is b.others clean

        safe_now : t.more ≡ false → Driven z goal t₀ rs tg us hs ts budget (Ok (Safe n)) hs' ts'
        safe_now x =
            answered (Ok (Safe n)) (λ p s.
            let b = G.at p s in
            (some (safe n), refl, sym (answer_of p budget (safe n) (b.goes, (unviolated p s, b.idle x)) b.in_budget), refl))

        module _ (x : t.more ≡ true) where
          went_on : (p : Product) → Starts p z goal t₀ rs tg us hs ts → (k : ℕ) → k < suc n → GoesOn p k
          went_on p s k l = at (ℕ_discrete k n)
            where
              at : Dec (k ≡ n) → GoesOn p k
              at (yes i) = subst⁻¹ (GoesOn p) i (unviolated p s, (G.at p s).busy x)
              at (no i) = (G.at p s).goes k (omega arith)

          spent_now : budget ≤ n → Driven z goal t₀ rs tg us hs ts budget (Err (Spent budget)) hs' ts'
          spent_now l = answered (Err (Spent budget)) (λ p s. (none, refl, sym (go p s (answer p budget) (answer_stands p budget)), omega (arith, (G.at p s).in_budget)))
            where
              go : (p : Product) → Starts p z goal t₀ rs tg us hs ts → (o : Option Verdict) → Stands p (suc budget) o → o ≡ none
              go p s _ (decided v i k) = absurd (stopped p v i.1 (went_on p s (rounds v) (omega (arith, (G.at p s).in_budget))))
              go p s _ (undecided _) = refl

          -- no head of the round before is in a final state
          not_final : (p : Product) → Starts p z goal t₀ rs tg us hs ts → (q' s' : ℕ) → T (held p n (head q' s')) → T (not (p.final q'))
          not_final p s q' s' h =
              not_of (p.final q') (λ u. T_not (violated p n) (unviolated p s) (violated_by p (G.at p s).begins.arrays.in_range n (head q' s') u h))

    -- what the tests say: an answer
    pub ends : {o : code.Option Decision} (d : Decision) → Judged goal n budget t hd e o → o ≡ Some d → Driven z goal t₀ rs tg us hs ts budget d hs' ts'
    ends d j i = go j.tested i
      where
        of_it : {d' : Decision} → d' ≡ d → Driven z goal t₀ rs tg us hs ts budget d' hs' ts' → Driven z goal t₀ rs tg us hs ts budget d hs' ts'
        of_it = subst (λ d. Driven z goal t₀ rs tg us hs ts budget d hs' ts')

        go : {o : code.Option Decision} → Tested n budget t.more j.seen o → o ≡ Some d → Driven z goal t₀ rs tg us hs ts budget d hs' ts'
        go (violates f) i = of_it (cc) (violated_now j.seen j.seen_is f)
        go (is_safe c x) i = of_it (cc) (safe_now j.seen j.seen_is c x)
        go (is_spent c x l) i = of_it (cc) (spent_now j.seen j.seen_is c x l)
        go (goes_on c x l) i = let z : ◌≡◌ {A = ℕ} 0 1 = cc in absurd (omega arith)

    -- or to go on: there is room for a round, which can be run
    module _ {o : code.Option Decision} (j : Judged goal n budget t hd e o) (i : o ≡ None) (d : Driving z goal t₀ rs tg us hs ts) where
      on : (j.seen ≡ 0) × (t.more ≡ true) × (n < budget)
      on = go j.tested i
        where
          go : {o : code.Option Decision} → Tested n budget t.more j.seen o → o ≡ None → (j.seen ≡ 0) × (t.more ≡ true) × (n < budget)
          go (violates f) i = let z : ◌≡◌ {A = ℕ} 0 1 = cc in absurd (omega arith)
          go (is_safe c x) i = let z : ◌≡◌ {A = ℕ} 0 1 = cc in absurd (omega arith)
          go (is_spent c x l) i = let z : ◌≡◌ {A = ℕ} 0 1 = cc in absurd (omega arith)
          go (goes_on c x l) i = (c, x, l)

      pub room : n < 2304
      room = let (c, x, _) = on in few_rounds d.product d.starts (suc n) (went_on j.seen j.seen_is c x d.product d.starts)

      abbrev stands : Begins d.product z n t.wt.words t.wh.words rs tg by e hd hs' ts'
      stands = (G.at d.product d.starts).begins

      pub can_heads : HeadsReady z t.wh.words rs tg e hd hs'
      can_heads = heads_ready stands

      pub can_triples : TriplesReady z t.wt.words rs tg by e ts'
      can_triples = triples_ready stands

      module _ {ce ch : ℕ} {by' nh' e' hd' hs'' ts'' : List ℕ} (a : HeadsDone z (n + 1) t.wh.words rs tg e hd hs' ch nh' hd' hs'')
          (b : TriplesDone z (n + 1) t.wt.words rs tg by e ts' ce by' e' ts'') where
        pub low_triples : (g : ℕ) → T (bit ce g) → g < 32
        low_triples = triples_low stands (round_ends stands (add-one n) a b)

        pub low_heads : (g : ℕ) → T (bit ch g) → g < 32
        low_heads = heads_low stands (round_ends stands (add-one n) a b)

        pub going_next : {t' : Next} → Chosen us ce ch t' → Going z goal t₀ rs tg us hs ts budget (n + 1) t' by' e' hd' hs'' ts''
        going_next {t'} c = record {
          few = omega (arith, room);
          heads_long = a.settles.took.table.as_long ∙ G.heads_long;
          triples_long = b.took.table.as_long ∙ G.triples_long;
          at = next;
        }
          where
            next : (p : Product) → Starts p z goal t₀ rs tg us hs ts → At p z budget rs tg hs ts (n + 1) t' by' e' hd' hs'' ts''
            next p s =
                let g = G.at p s in
                let o = after_turn g.begins (round_ends g.begins (add-one n) a b) s.uses c in
                let (clean, x, l) = on in
                rw add-one (record {
                  begins = o.begins;
                  triples_kept = record { as_long = o.triples_kept.as_long ∙ g.triples_kept.as_long; past = o.triples_kept.past ∙ g.triples_kept.past };
                  heads_kept = record { as_long = o.heads_kept.as_long ∙ g.heads_kept.as_long; past = o.heads_kept.past ∙ g.heads_kept.past };
                  idle = o.idle;
                  busy = o.busy;
                  low = o.low;
                  others = λ q' s' c h. not_final j.seen j.seen_is clean x p s q' s' (o.quiet q' s' c h);
                  goes = went_on j.seen j.seen_is clean x p s;
                  in_budget = l;
                })
