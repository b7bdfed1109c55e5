-- A round of the heads by rows of bits is the round of the definition. Assumes nothing.
use mathlib.Core.Bool.{Bool, true, false, cond, not, ◌&&◌, ◌||◌}
use mathlib.Core.List.{List}
use mathlib.Core.Path.{◌≡◌, refl, sym, ap, ap₂, ◌∙◌, subst, subst⁻¹}
use Prim.Native.Nat.{ℕ, zero, suc, ◌+◌, ◌*◌, ◌<◌}
use native.Mathlib.Nat.{zero-add}
use native.Mathlib.Omega.{arith}
use lib.Dec.{T, eqb}
use lib.ListN.{get_or}
use Rattle.product.specs.Lists.{any}
use Rattle.product.specs.Product.{Product, InRange}
use Rattle.product.specs.Facts.{Fact, head, triple}
use Rattle.product.specs.Rounds.{held}
use Rattle.product.specs.Table.{ranks}
use Rattle.product.proofs.Lists.{and_left, and_right, both, or_right, any_of, same_truth}
use Rattle.product.proofs.Lists
use Rattle.product.proofs.Range.{held_within}
use Rattle.table.specs.declared.Size.{Size}
use Rattle.bits.specs.Bit.{bit}
use Rattle.bits.specs.Matrix.{mat, mats, some}
use Rattle.bits.proofs.Some.{some_of, of_some}
use Rattle.bits.specs.Matrix.{passed}
use Rattle.relations.specs.Relations.{lands, uncovers, made}
use Rattle.relations.specs.Quiet.{Enough}
use Rattle.relations.proofs.Classes.{lands_by}
use Rattle.relations.proofs.Quiet.{made_next}
use Rattle.relations.proofs.Next.{ranks_next}
use Rattle.steps.specs.Steps.{symbol_of}
use Rattle.steps.specs.Rows.{kind_of, kind_at, class_at, over_at, under_at, rule_by}
use Rattle.decide.specs.Sets.{chosen}
use Rattle.decide.specs.Stamp.{of_heads, view_of}
use Rattle.decide.specs.Take.{Took}
use Rattle.decide.specs.Frame.{Frame}
use Rattle.decide.specs.Show.{landing, shown_by, shown, shown_all, RowsFit}
use Rattle.decide.proofs.Taking.{mat_in, mat_lt}
use Rattle.decide.proofs.Below.{any_alike, some_alike}
use Rattle.decide.proofs.Members.{among_any}
use Rattle.bits.proofs.Image.{image_at}
use native.Mathlib.Decide.{dec_lt}
use Rattle.decide.proofs.RoundTriples.{classes_are, in_states, states_in, eight}

module _ (p : Product) (R : InRange p) (Q : ℕ) (rs tg : List ℕ) (F : Frame p Q rs tg) where
  -- a number below 8 that passes, and a state that does
  some_states : (f : ℕ → Bool) → ((k : ℕ) → T (f k) → k < Q) → some 8 f ≡ any f p.states
  some_states f inside = same_truth (some 8 f) (any f p.states) to from
    where
      to : T (some 8 f) → T (any f p.states)
      to t = let (k, _, u) = of_some 8 f t in any_of f p.states k (in_states p R Q rs tg F k (inside k u)) u

      from : T (any f p.states) → T (some 8 f)
      from t = let (k, i, u) = Lists.some_of f p.states t in some_of 8 f k (eight p R Q rs tg F (states_in p R Q rs tg F k i)) u

  module _ (n : ℕ) (e hd : List ℕ)
      (triples_are : (g q x : ℕ) → mats e g q x ≡ held p n (triple q g x))
      (heads_are : (g x : ℕ) → mats hd g 0 x ≡ held p n (head x g)) where
    abbrev h : Fact → Bool
    h = held p n

    -- where the steps of a rule end
    landed_is : (r x : ℕ) → r < p.rules → bit (landing tg hd (class_at rs r)) x ≡ lands p h r x
    unfolding landing passed
    landed_is r x l =
        image_at (get_or hd (symbol_of (class_at rs r)) 0) (get_or tg (class_at rs r) 0) x
        ∙ some_alike 8 (λ k. mat (get_or hd (symbol_of (class_at rs r)) 0) 0 k && mats tg (class_at rs r) k x)
        (λ k. h (head k (symbol_of (class_at rs r))) && mats tg (class_at rs r) k x)
        (λ k _. ap (λ b. b && mats tg (class_at rs r) k x) (heads_are (symbol_of (class_at rs r)) k))
        ∙ some_states (λ k. h (head k (symbol_of (class_at rs r))) && mats tg (class_at rs r) k x)
        (λ k t. (F.steps_in (class_at rs r) k x (and_right (h (head k (symbol_of (class_at rs r)))) (mats tg (class_at rs r) k x) t)).0)
        ∙ sym (lands_by p 256 (class_at rs) symbol_of (mats tg) (classes_are p R Q rs tg F) h r x l)

    lands_lt : (r x : ℕ) → r < p.rules → T (lands p h r x) → x < Q
    lands_lt r x l t =
        let t' = subst T (lands_by p 256 (class_at rs) symbol_of (mats tg) (classes_are p R Q rs tg F) h r x l) t in
        let (k, _, u) = Lists.some_of (λ k. h (head k (symbol_of (class_at rs r))) && mats tg (class_at rs r) k x) p.states t' in
        (F.steps_in (class_at rs r) k x (and_right (h (head k (symbol_of (class_at rs r)))) (mats tg (class_at rs r) k x) u)).1

    -- by the kind of the rule
    by_kind : (kind g₀ g1 g2 : ℕ) (a b : ℕ → Bool) → ((x : ℕ) → a x ≡ b x) → ((x : ℕ) → T (b x) → x < Q)
        → (g x : ℕ) → shown_by (kind_of kind) g1 g2 e a g x ≡ uncovers p.states h (rule_by kind g₀ g1 g2) b x g
    by_kind zero g₀ g1 g2 a b same inside g x = refl
    by_kind (suc zero) g₀ g1 g2 a b same inside g x = ap (λ c. eqb g1 g && c) (same x)
    by_kind (suc (suc j)) g₀ g1 g2 a b same inside g x =
        ap₂ ◌||◌ (ap (λ c. eqb g1 g && c) (same x)) (ap (λ c. eqb g2 g && c)
        (some_alike 8 (λ k. a k && mats e g1 k x) (λ k. b k && h (triple k g1 x)) (λ k _. ap₂ ◌&&◌ (same k) (triples_are g1 k x))
        ∙ some_states (λ k. b k && h (triple k g1 x)) (λ k t. inside k (and_left (b k) (h (triple k g1 x)) t))))

    shown_is : (r g x : ℕ) → r < p.rules → shown rs tg e hd r g x ≡ uncovers p.states h (p.rule r) (lands p h r) x g
    unfolding shown
    shown_is r g x l =
        by_kind (kind_at rs r) (symbol_of (class_at rs r)) (over_at rs r) (under_at rs r) (bit (landing tg hd (class_at rs r))) (lands p h r)
        (λ x. landed_is r x l) (λ x. lands_lt r x l) g x
        ∙ ap (λ ρ. uncovers p.states h ρ (lands p h r) x g) (sym (F.rules_are r l))

    -- the rows nh were gathered from the rules of w, which are enough
    module _ (w nh : List ℕ) (only : (r : ℕ) → T (chosen w r) → r < p.rules)
        (rows_are : (g x : ℕ) → bit (get_or nh g 0) x ≡ shown_all rs tg e hd w g x)
        (ct : ℕ → Bool) (enough : Enough p ct (chosen w) (held p n)) where
      row_made : (g x : ℕ) → bit (get_or nh g 0) x ≡ made p ct (chosen w) h (head x g)
      unfolding shown_all
      row_made g x =
          rows_are g x ∙ among_any w (λ r. shown rs tg e hd r g x) p.rules F.few_rules only
          ∙ any_alike p.rules (λ r. chosen w r && shown rs tg e hd r g x) (λ r. chosen w r && uncovers p.states h (p.rule r) (lands p h r) x g)
          (λ r l. ap (λ b. chosen w r && b) (shown_is r g x l))

      next : (g x : ℕ) → held p (suc n) (head x g) ≡ held p n (head x g) || made p ct (chosen w) h (head x g)
      next g x = made_next p R ct (chosen w) n enough (head x g)

      made_in : (g x : ℕ) → T (made p ct (chosen w) h (head x g)) → (x < Q) × (g < p.symbols)
      made_in g x t =
          let (i, j) = held_within p R (suc n) (head x g) (subst⁻¹ T (next g x) (or_right (held p n (head x g)) (made p ct (chosen w) h (head x g)) t)) in
          (states_in p R Q rs tg F x i, j)

      -- a row has no bit outside of the table
      row_in : (g q x : ℕ) → T (mat (get_or nh g 0) q x) → (g < p.symbols) × (q ≡ 0) × (x < Q)
      row_in g q x t =
          let (_, _, u) = mat_lt (get_or nh g 0) q x t in
          let (i, j) = made_in g (q * 8 + x) (subst T (row_made g (q * 8 + x)) u) in
          (j, omega (arith, i, F.few_states), omega (arith, i))

      pub rows_fit : (z : Size) → z.states ≡ Q → z.symbols ≡ p.symbols → RowsFit z nh
      rows_fit z s y g l = record {
        small = l;
        inside = λ q x t. let (a, b, c) = row_in g q x t in (subst⁻¹ (λ n. g < n) y a, b, subst⁻¹ (λ n. x < n) s c);
      }

      pub rows_made : (g x : ℕ) → mats nh g 0 x ≡ made p ct (chosen w) h (head x g)
      rows_made g x = go (dec_lt x 8)
        where
          go : Dec (x < 8) → mats nh g 0 x ≡ made p ct (chosen w) h (head x g)
          go (yes l) = mat_in (get_or nh g 0) 0 x (omega arith) l ∙ ap (bit (get_or nh g 0)) (zero-add x) ∙ row_made g x
          go (no l) =
              same_truth (mats nh g 0 x) (made p ct (chosen w) h (head x g)) (λ t. let (_, i, _) = mat_lt (get_or nh g 0) 0 x t in absurd (omega arith))
              (λ t. let (i, _) = made_in g x t in let j : x < 8 = eight p R Q rs tg F i in absurd (omega arith))

      -- THE ROUND
      module _ (z : Size) (hs : List ℕ) (v : ℕ) (hd' hs' : List ℕ) (took : Took of_heads z (suc n) (mats nh) hd hs v hd' hs') where
        pub heads_held : (g x : ℕ) → mats hd' g 0 x ≡ held p (suc n) (head x g)
        heads_held g x = took.entries g 0 x ∙ ap₂ ◌||◌ (heads_are g x) (rows_made g x) ∙ sym (next g x)

        new_is : (g x : ℕ) → mats nh g 0 x && not (mats hd g 0 x) ≡ held p (suc n) (head x g) && not (held p n (head x g))
        new_is g x =
            ap₂ (λ a b. a && not b) (rows_made g x) (heads_are g x)
            ∙ go (held p n (head x g)) (made p ct (chosen w) h (head x g))
            ∙ ap (λ b. b && not (held p n (head x g))) (sym (next g x))
          where
            go : (a b : Bool) → b && not a ≡ (a || b) && not a
            go true true = refl
            go true false = refl
            go false true = refl
            go false false = refl

        pub heads_ranked : ((q g : ℕ) → view_of of_heads z hs (head q g) ≡ ranks p n (head q g))
            → (q g : ℕ) → view_of of_heads z hs' (head q g) ≡ ranks p (suc n) (head q g)
        heads_ranked was q g =
            ap (λ t. t (head q g)) took.table.is ∙ ap₂ (λ b k. cond b (suc n) k) (new_is g q) (was q g) ∙ sym (ranks_next p n (head q g))

        pub heads_quiet : (q g : ℕ) → bit v g ≡ false → T (held p (suc n) (head q g)) → T (held p n (head q g))
        heads_quiet q g y t = go (held p n (head q g)) (subst T (next g q) t) refl
          where
            go : (b : Bool) → T (b || made p ct (chosen w) h (head q g)) → held p n (head q g) ≡ b → T b
            go true u i = tt
            go false u i = subst T (heads_are g q ∙ i) (took.quiet g y 0 q (subst⁻¹ T (rows_made g q) u))

        pub heads_fresh : (g : ℕ) → T (bit v g) → (q : ℕ) × T (held p (suc n) (head q g)) × T (not (held p n (head q g)))
        heads_fresh g t =
            let (q, x, a, b) = took.fresh g t in
            let (_, y, _) = row_in g q x a in
            let u : T (held p (suc n) (head x g) && not (held p n (head x g))) =
            subst T (new_is g x) (subst (λ q. T (mats nh g q x && not (mats hd g q x))) y (both (mats nh g q x) (not (mats hd g q x)) a b)) in
            (x, and_left (held p (suc n) (head x g)) (not (held p n (head x g))) u, and_right (held p (suc n) (head x g)) (not (held p n (head x g))) u)
