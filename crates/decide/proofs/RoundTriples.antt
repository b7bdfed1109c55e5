-- A round of the triples by matrices is the round of the definition. Assumes nothing.
use mathlib.Core.Bool.{Bool, true, false, cond, not, ◌&&◌, ◌||◌}
use mathlib.Core.List.{List}
use mathlib.Core.Path.{◌≡◌, refl, sym, ap, ap₂, ◌∙◌, subst, subst⁻¹}
use Prim.Native.Nat.{ℕ, zero, suc, ◌<◌}
use native.Mathlib.Omega.{arith}
use lib.Dec.{T, eqb, eqb→eq, eqb_refl}
use lib.ListN.{get_or}
use Rattle.product.specs.Lists.{up_to, ◌∈◌}
use Rattle.product.specs.Product.{Rule, exit, direct, call, symbol, Product, InRange}
use Rattle.product.specs.Facts.{Fact, head, triple, same, first}
use Rattle.product.specs.Rounds.{held}
use Rattle.product.specs.Table.{ranks}
use Rattle.product.proofs.Lists.{and_left, and_right, both, or_left, or_right, or_cases, same_truth, in_up_to, up_to_lt}
use Rattle.product.proofs.Rounds.{grown_later}
use mathlib.Core.Logic.{◌⊎◌, inl, inr}
use Rattle.product.proofs.Range.{held_within}
use Rattle.table.specs.declared.Size.{Size}
use Rattle.bits.specs.Bit.{bit}
use Rattle.bits.specs.Matrix.{entry, mat, mats, some, multiplied}
use Rattle.bits.proofs.Matrix.{multiplied_at}
use Rattle.bits.proofs.Some.{some_of, of_some}
use Rattle.relations.specs.Relations.{steps, erased, rest, followed, erases, made, looked}
use Rattle.relations.specs.Classes.{Classes}
use Rattle.relations.specs.Quiet.{Enough}
use Rattle.relations.proofs.Made.{through, middle, equal}
use Rattle.relations.proofs.Quiet.{made_next}
use Rattle.relations.proofs.Next.{ranks_next}
use Rattle.steps.specs.Steps.{symbol_of}
use Rattle.steps.proofs.Laws.{symbol_low}
use Rattle.steps.specs.Rows.{kind_of, kind_at, class_at, over_at, under_at, rule_by}
use Rattle.decide.specs.Gather.{rest_of, rest_at, added, added_by, Gains}
use Rattle.decide.specs.Stamp.{of_triples, view_of}
use Rattle.decide.specs.Take.{AllFit, Took, given_by, from_class, from_classes}
use Rattle.decide.specs.Sets.{chosen}
use Rattle.decide.specs.Frame.{Frame}
use Rattle.decide.specs.Standing.{Stored}
use Rattle.decide.proofs.Taking.{mat_in, mat_lt}
use Rattle.decide.proofs.Below.{identity_at}
use Rattle.decide.proofs.Members.{among_of, of_among}

module _ (p : Product) (R : InRange p) (Q : ℕ) (rs tg : List ℕ) (F : Frame p Q rs tg) where
  symbol_by : (r : ℕ) → r < p.rules → symbol (p.rule r) ≡ symbol_of (class_at rs r)
  symbol_by r l = ap symbol (F.rules_are r l) ∙ go (kind_at rs r)
    where
      go : (k : ℕ) → symbol (rule_by k (symbol_of (class_at rs r)) (over_at rs r) (under_at rs r)) ≡ symbol_of (class_at rs r)
      go zero = refl
      go (suc zero) = refl
      go (suc (suc k)) = refl

  pub classes_are : Classes p 256 (class_at rs) symbol_of (mats tg)
  classes_are = record { class_in = F.class_in; symbol_is = symbol_by; steps_are = λ r q q' l. F.steps_are r q q' l }

  pub in_states : (n : ℕ) → n < Q → n ∈ p.states
  in_states n l = subst⁻¹ (λ s. n ∈ s) F.states_are (in_up_to Q n l)

  pub states_in : (n : ℕ) → n ∈ p.states → n < Q
  states_in n i = up_to_lt Q n (subst (λ s. n ∈ s) F.states_are i)

  pub eight : {n : ℕ} → n < Q → n < 8
  eight l = omega (arith, F.few_states)

  -- the matrices e hold the triples of round n
  module _ (n : ℕ) (e : List ℕ) (held_is : (g q x : ℕ) → mats e g q x ≡ held p n (triple q g x)) where
    abbrev h : Fact → Bool
    h = held p n

    pub triple_in_lem : (q g x : ℕ) → T (h (triple q g x)) → (q < Q) × (x < Q)
    triple_in_lem q g x t = let (i, _, j) = held_within p R n (triple q g x) t in (states_in q i, states_in x j)

    -- what is run after the step
    by_kind : (kind g g1 g2 k x : ℕ) → k < 8 → x < 8 → mat (rest_of (kind_of kind) g1 g2 e) k x ≡ rest p.states h (rule_by kind g g1 g2) k x
    unfolding rest_of
    by_kind zero g g1 g2 k x hk hx = mat_in 0x8040201008040201 k x hk hx ∙ identity_at k x hk hx
    by_kind (suc zero) g g1 g2 k x hk hx = held_is g1 k x
    by_kind (suc (suc j)) g g1 g2 k x hk hx =
        mat_in (multiplied (get_or e g1 0) (get_or e g2 0)) k x hk hx
        ∙ multiplied_at (get_or e g1 0) (get_or e g2 0) k x hk hx
        ∙ same_truth (some 8 (λ m. entry (get_or e g1 0) k m && entry (get_or e g2 0) m x)) (followed p.states (erased h g1) (erased h g2) k x) to from
      where
        is : (g q y : ℕ) → q < 8 → y < 8 → entry (get_or e g 0) q y ≡ h (triple q g y)
        is g q y hq hy = sym (mat_in (get_or e g 0) q y hq hy) ∙ held_is g q y

        to : T (some 8 (λ m. entry (get_or e g1 0) k m && entry (get_or e g2 0) m x)) → T (followed p.states (erased h g1) (erased h g2) k x)
        to t =
            let (m, l, u) = of_some 8 (λ m. entry (get_or e g1 0) k m && entry (get_or e g2 0) m x) t in
            let v : T (h (triple k g1 m)) = subst T (is g1 k m hk l) (and_left (entry (get_or e g1 0) k m) (entry (get_or e g2 0) m x) u) in
            let w : T (h (triple m g2 x)) = subst T (is g2 m x l hx) (and_right (entry (get_or e g1 0) k m) (entry (get_or e g2 0) m x) u) in
            through p.states (erased h g1 k) (λ m. h (triple m g2 x)) m (in_states m (triple_in_lem k g1 m v).1) v w

        from : T (followed p.states (erased h g1) (erased h g2) k x) → T (some 8 (λ m. entry (get_or e g1 0) k m && entry (get_or e g2 0) m x))
        from t =
            let (m, i, v, w) = middle p.states (erased h g1 k) (λ m. h (triple m g2 x)) t in
            let l : m < 8 = eight (states_in m i) in
            some_of 8 (λ m. entry (get_or e g1 0) k m && entry (get_or e g2 0) m x) m l
            (both (entry (get_or e g1 0) k m) (entry (get_or e g2 0) m x) (subst⁻¹ T (is g1 k m hk l) v) (subst⁻¹ T (is g2 m x l hx) w))

    rest_is : (r k x : ℕ) → r < p.rules → k < 8 → x < 8 → mat (rest_at rs e r) k x ≡ rest p.states h (p.rule r) k x
    unfolding rest_at
    rest_is r k x l hk hx =
        by_kind (kind_at rs r) (symbol_of (class_at rs r)) (over_at rs r) (under_at rs r) k x hk hx
        ∙ ap (λ ρ. rest p.states h ρ k x) (sym (F.rules_are r l))

    rest_in : (ρ : Rule) (k x : ℕ) → k < Q → T (rest p.states h ρ k x) → x < Q
    rest_in (exit g) k x l t = subst (λ n. n < Q) (eqb→eq k x t) l
    rest_in (direct g g1) k x l t = (triple_in_lem k g1 x t).1
    rest_in (call g g1 g2) k x l t = let (m, _, _, b) = middle p.states (erased h g1 k) (λ m. h (triple m g2 x)) t in (triple_in_lem m g2 x b).1

    -- what is run after a step stays
    rest_later : (ρ : Rule) (k x : ℕ) → T (rest p.states h ρ k x) → T (rest p.states (held p (suc n)) ρ k x)
    rest_later (exit g) k x t = t
    rest_later (direct g g1) k x t = grown_later p (same (first p)) n (triple k g1 x) t
    rest_later (call g g1 g2) k x t =
        let (m, i, a, b) = middle p.states (erased h g1 k) (λ m. h (triple m g2 x)) t in
        through p.states (erased (held p (suc n)) g1 k) (λ m. held p (suc n) (triple m g2 x)) m i (grown_later p (same (first p)) n (triple k g1 m) a) (grown_later p (same (first p)) n (triple m g2 x) b)

    -- `by` was gathered from the rules of w; the classes of t have more than before
    module _ (w t by₀ by : List ℕ) (only : (r : ℕ) → T (chosen w r) → r < p.rules) (ch : ℕ → Bool) (enough : Enough p (chosen w) ch (held p n))
        (stored : Stored p n rs tg by₀) (gains : Gains (added_by rs e w) by₀ t by) where
      -- a rule of the class has what was gathered
      rests_of : (c k x : ℕ) → T (mats by c k x) → (r : ℕ) × (r < p.rules) × (class_at rs r ≡ c) × T (rest p.states h (p.rule r) k x)
      unfolding added_by
      rests_of c k x u = go (or_cases (mats by₀ c k x) (added_by rs e w c k x) (subst T (gains.entries c k x) u))
        where
          go : T (mats by₀ c k x) ⊎ T (added_by rs e w c k x) → (r : ℕ) × (r < p.rules) × (class_at rs r ≡ c) × T (rest p.states h (p.rule r) k x)
          go (inl a) = stored.sound c k x a
          go (inr a) =
              let (r, _, i, b) = of_among w (λ r. added rs e r c k x) a in
              let l = only r i in
              let (hk, hx, _) = mat_lt (rest_at rs e r) k x (and_right (eqb (class_at rs r) c) (mat (rest_at rs e r) k x) b) in (
                r,
                l,
                eqb→eq (class_at rs r) c (and_left (eqb (class_at rs r) c) (mat (rest_at rs e r) k x) b),
                subst T (rest_is r k x l hk hx) (and_right (eqb (class_at rs r) c) (mat (rest_at rs e r) k x) b),
              )

      -- every rule may be looked at
      enough_all : Enough p (λ _. true) ch (held p n)
      enough_all v i y = enough v i (narrow v.gives y)
        where
          narrow : (f : Fact) → looked (λ _. true) ch f v.by.by_rule ≡ false → looked (chosen w) ch f v.by.by_rule ≡ false
          narrow (head q g) z = z
          narrow (triple q g x) z = absurd (subst T z tt)

      -- through the steps of the class it is held in the next round
      pub next_held : (c q k x : ℕ) → T (mats tg c q k) → T (mats by c k x) → T (held p (suc n) (triple q (symbol_of c) x))
      next_held c q k x a b =
          let (r, l, y, u) = rests_of c k x b in
          let (_, ik) = F.steps_in c q k a in
          subst⁻¹ T (made_next p R (λ _. true) ch n enough_all (triple q (symbol_of c) x))
          (or_right (held p n (triple q (symbol_of c) x)) (made p (λ _. true) ch h (triple q (symbol_of c) x))
          (through (up_to p.rules) (λ _. true) (λ r. erases p h r q (symbol_of c) x) r (in_up_to p.rules r l) tt
          (both (eqb (symbol (p.rule r)) (symbol_of c)) (followed p.states (steps p r) (rest p.states h (p.rule r)) q x)
          (equal (symbol_by r l ∙ ap symbol_of y))
          (through p.states (steps p r q) (λ k. rest p.states h (p.rule r) k x) k (in_states k ik) (subst⁻¹ T (F.steps_are r q k l) (subst⁻¹ (λ c. T (mats tg c q k)) y a)) u))))

      -- an entry of what a class gives, by its middle state
      given_by_lem : (c q x : ℕ) → T (mat (given_by tg by c) q x) → (k : ℕ) × T (mats tg c q k) × T (mats by c k x)
      unfolding given_by
      given_by_lem c q x u =
          let (hq, hx, v) = mat_lt (multiplied (get_or tg c 0) (get_or by c 0)) q x u in
          let (k, hk, y) = of_some 8 (λ k. entry (get_or tg c 0) q k && entry (get_or by c 0) k x) (subst T (multiplied_at (get_or tg c 0) (get_or by c 0) q x hq hx) v) in (
            k,
            subst⁻¹ T (mat_in (get_or tg c 0) q k hq hk) (and_left (entry (get_or tg c 0) q k) (entry (get_or by c 0) k x) y),
            subst⁻¹ T (mat_in (get_or by c 0) k x hk hx) (and_right (entry (get_or tg c 0) q k) (entry (get_or by c 0) k x) y),
          )

      by_given : (c q k x : ℕ) → T (mats tg c q k) → T (mats by c k x) → T (mat (given_by tg by c) q x)
      unfolding given_by
      by_given c q k x a b =
          let (hq, hk, u) = mat_lt (get_or tg c 0) q k a in
          let (_, hx, v) = mat_lt (get_or by c 0) k x b in
          subst⁻¹ T (mat_in (multiplied (get_or tg c 0) (get_or by c 0)) q x hq hx ∙ multiplied_at (get_or tg c 0) (get_or by c 0) q x hq hx)
          (some_of 8 (λ k. entry (get_or tg c 0) q k && entry (get_or by c 0) k x) k hk (both (entry (get_or tg c 0) q k) (entry (get_or by c 0) k x) u v))

      -- what a class gives is in range
      pub all_fit : (z : Size) → z.states ≡ Q → z.symbols ≡ p.symbols → AllFit z tg by
      all_fit z s g c = record {
        small = symbol_low c;
        inside = λ q x u.
            let (k, a, b) = given_by_lem c q x u in
            let (i, j, l) = held_within p R (suc n) (triple q (symbol_of c) x) (next_held c q k x a b) in
            (subst⁻¹ (λ n. symbol_of c < n) g j, subst⁻¹ (λ n. q < n) s (states_in q i), subst⁻¹ (λ n. x < n) s (states_in x l));
      }

      abbrev gives : (q g x c : ℕ) → Bool
      gives q g x c = eqb (symbol_of c) g && mat (given_by tg by c) q x

      -- THE ROUND of the triples: what was held, and what the classes of t give
      pub classes_next : (q g x : ℕ) → held p (suc n) (triple q g x) ≡ held p n (triple q g x) || from_classes tg by t g q x
      unfolding from_classes from_class added_by
      classes_next q g x = same_truth (held p (suc n) (triple q g x)) (held p n (triple q g x) || from_classes tg by t g q x) to from
        where
          from : T (held p n (triple q g x) || from_classes tg by t g q x) → T (held p (suc n) (triple q g x))
          from u = go (or_cases (held p n (triple q g x)) (from_classes tg by t g q x) u)
            where
              go : T (held p n (triple q g x)) ⊎ T (from_classes tg by t g q x) → T (held p (suc n) (triple q g x))
              go (inl a) = grown_later p (same (first p)) n (triple q g x) a
              go (inr a) =
                  let (c, _, _, b) = of_among t (gives q g x) a in
                  let (k, d, f) = given_by_lem c q x (and_right (eqb (symbol_of c) g) (mat (given_by tg by c) q x) b) in
                  subst (λ g. T (held p (suc n) (triple q g x))) (eqb→eq (symbol_of c) g (and_left (eqb (symbol_of c) g) (mat (given_by tg by c) q x) b)) (next_held c q k x d f)

          to : T (held p (suc n) (triple q g x)) → T (held p n (triple q g x) || from_classes tg by t g q x)
          to u = go (or_cases (held p n (triple q g x)) (made p (chosen w) ch h (triple q g x)) (subst T (made_next p R (chosen w) ch n enough (triple q g x)) u))
            where
              here : (c k : ℕ) → symbol_of c ≡ g → T (mats tg c q k) → T (mats by c k x) → c < 256 → (b : Bool) → chosen t c ≡ b → T (held p n (triple q g x) || from_classes tg by t g q x)
              here c k y f m l true z =
                  or_right (held p n (triple q g x)) (from_classes tg by t g q x)
                  (among_of t (gives q g x) c l (subst⁻¹ T z tt) (both (eqb (symbol_of c) g) (mat (given_by tg by c) q x) (equal y) (by_given c q k x f m)))
              here c k y f m l false z =
                  or_left (held p n (triple q g x)) (from_classes tg by t g q x)
                  (subst (λ g. T (held p n (triple q g x))) y (stored.settled c q k x f (subst (λ n. T (mat n k x)) (gains.same c z) m)))

              go : T (held p n (triple q g x)) ⊎ T (made p (chosen w) ch h (triple q g x)) → T (held p n (triple q g x) || from_classes tg by t g q x)
              go (inl a) = or_left (held p n (triple q g x)) (from_classes tg by t g q x) a
              go (inr a) =
                  let (r, i, d, b) = middle (up_to p.rules) (chosen w) (λ r. erases p h r q g x) a in
                  let l : r < p.rules = up_to_lt p.rules r i in
                  let more : Bool = followed p.states (steps p r) (rest p.states h (p.rule r)) q x in
                  let y : symbol_of (class_at rs r) ≡ g = sym (symbol_by r l) ∙ eqb→eq (symbol (p.rule r)) g (and_left (eqb (symbol (p.rule r)) g) more b) in
                  let (k, _, f, v) = middle p.states (steps p r q) (λ k. rest p.states h (p.rule r) k x) (and_right (eqb (symbol (p.rule r)) g) more b) in
                  let f' : T (mats tg (class_at rs r) q k) = subst T (F.steps_are r q k l) f in
                  let (_, ik) = F.steps_in (class_at rs r) q k f' in
                  let hx : x < 8 = eight (rest_in (p.rule r) k x ik v) in
                  let m : T (mats by (class_at rs r) k x) =
                  subst⁻¹ T (gains.entries (class_at rs r) k x)
                  (or_right (mats by₀ (class_at rs r) k x) (added_by rs e w (class_at rs r) k x)
                  (among_of w (λ i. added rs e i (class_at rs r) k x) r (omega (arith, l, F.few_rules)) d
                  (both (eqb (class_at rs r) (class_at rs r)) (mat (rest_at rs e r) k x) (eqb_refl (class_at rs r)) (subst⁻¹ T (rest_is r k x l (eight ik) hx) v)))) in
                  here (class_at rs r) k y f' m (F.class_in r l) (chosen t (class_at rs r)) refl

      -- what is stored after the round
      pub stored_next : Stored p (suc n) rs tg by
      stored_next = record {
        long = gains.long;
        sound = λ c k x u. let (r, l, y, v) = rests_of c k x u in (r, l, y, rest_later (p.rule r) k x v);
        settled = next_held;
      }

      -- If the rules of w are enough, the matrices hold the triples of round n + 1 after it, and the table has their ranks.
      module _ (z : Size) (ts : List ℕ) (v : ℕ) (e' ts' : List ℕ) (took : Took of_triples z (suc n) (from_classes tg by t) e ts v e' ts') where
        pub triples_held : (g q x : ℕ) → mats e' g q x ≡ held p (suc n) (triple q g x)
        triples_held g q x = took.entries g q x ∙ ap (λ b. b || from_classes tg by t g q x) (held_is g q x) ∙ sym (classes_next q g x)

        -- what is new: held now, and not before
        new_is : (g q x : ℕ) → from_classes tg by t g q x && not (mats e g q x) ≡ held p (suc n) (triple q g x) && not (held p n (triple q g x))
        new_is g q x =
            ap (λ b. from_classes tg by t g q x && not b) (held_is g q x)
            ∙ go (held p n (triple q g x)) (from_classes tg by t g q x)
            ∙ ap (λ b. b && not (held p n (triple q g x))) (sym (classes_next q g x))
          where
            go : (a b : Bool) → b && not a ≡ (a || b) && not a
            go true true = refl
            go true false = refl
            go false true = refl
            go false false = refl

        pub triples_ranked : ((q g x : ℕ) → view_of of_triples z ts (triple q g x) ≡ ranks p n (triple q g x))
            → (q g x : ℕ) → view_of of_triples z ts' (triple q g x) ≡ ranks p (suc n) (triple q g x)
        triples_ranked was q g x =
            ap (λ t. t (triple q g x)) took.table.is
            ∙ ap₂ (λ b k. cond b (suc n) k) (new_is g q x) (was q g x)
            ∙ sym (ranks_next p n (triple q g x))

        -- the symbols that changed
        pub triples_quiet : (q g x : ℕ) → bit v g ≡ false → T (held p (suc n) (triple q g x)) → T (held p n (triple q g x))
        triples_quiet q g x y u = go (held p n (triple q g x)) (subst T (classes_next q g x) u) refl
          where
            go : (b : Bool) → T (b || from_classes tg by t g q x) → held p n (triple q g x) ≡ b → T b
            go true u i = tt
            go false u i = subst T (held_is g q x ∙ i) (took.quiet g y q x u)

        pub triples_fresh : (g : ℕ) → T (bit v g) → (q : ℕ) × (x : ℕ) × T (held p (suc n) (triple q g x)) × T (not (held p n (triple q g x)))
        triples_fresh g y =
            let (q, x, a, b) = took.fresh g y in
            let u : T (held p (suc n) (triple q g x) && not (held p n (triple q g x))) = subst T (new_is g q x) (both (from_classes tg by t g q x) (not (mats e g q x)) a b) in (
              q,
              x,
              and_left (held p (suc n) (triple q g x)) (not (held p n (triple q g x))) u,
              and_right (held p (suc n) (triple q g x)) (not (held p n (triple q g x))) u,
            )
