-- Round 0 of a valid model stands, with the rules for the first round; and what the rounds leave is what was promised. Assumes nothing.
use mathlib.Core.Bool.{Bool, true, false, ◌&&◌}
use mathlib.Core.List.{List, ◌++◌}
use mathlib.Core.Logic.{⊎_elim}
use mathlib.Core.Path.{◌≡◌, refl, sym, ap, ap₂, ◌∙◌, subst, subst⁻¹, fun_ext}
use Prim.Native.Nat.{ℕ, zero, suc, ◌+◌, ◌*◌, ◌%◌, ◌^◌, ◌<◌, ◌≤◌}
use native.Mathlib.Nat.{zero-add}
use native.Mathlib.Omega.{arith}
use native.Mathlib.Decide.{ℕ_discrete}
use lib.Dec.{T, eqb, ltb, eqb→eq, ltb→lt}
use lib.ListN.{length, length-set, drop, get_or, set}
use lib.Seq.{get_or-set_same, get_or-set_other}
use borrow.Author.Tests.{eq-eqb, ne_eqb, lt-ltb}
use Rattle.product.specs.Product.{Rule, exit, direct, call}
use Rattle.product.specs.Facts.{Fact, head, triple, first}
use Rattle.product.specs.Rounds.{grown}
use Rattle.product.specs.Table.{absent, ranks, left}
use Rattle.product.proofs.Lists.{and_left, and_right, both}
use Rattle.relations.specs.Quiet.{FirstT, FirstH}
use Rattle.relations.proofs.Quiet.{enough_first}
use Rattle.table.specs.declared.Size.{Size}
use Rattle.table.specs.Cells.{view, store, put_head, cleared, heads_of, triples_of}
use Rattle.table.proofs.Cells.{length_cleared}
use Rattle.table.proofs.Store.{store_head, past_head, length_head}
use Rattle.table.proofs.LaidOut.{heads_laid, triples_laid, cleared_view, cleared_past_end}
use Rattle.fitting.specs.Fits.{size_of}
use Rattle.model.specs.declared.Model.{Model}
use Rattle.model.specs.Model.{rule, product_of}
use Rattle.model.specs.Valid.{valid}
use Rattle.model.proofs.Valid.{valid_sizes, product_in_lem}
use Rattle.model.proofs.Bounds.{start_state_in, start_symbol_in}
use Rattle.bits.specs.Bit.{bit}
use Rattle.bits.specs.Matrix.{mat, mats}
use Rattle.bits.proofs.Set.{bit_pow, one_shifted}
use Rattle.steps.specs.Steps.{symbol_of, class_steps}
use Rattle.steps.specs.Rows.{kind_at, class_at, over_at, under_at, rule_by}
use Rattle.decide.specs.Decided.{Decision}
use Rattle.decide.specs.declared.Goal.{Goal}
use Rattle.decide.specs.declared.Next.{Next}
use Rattle.decide.specs.Sets.{member, chosen}
use Rattle.decide.specs.Gather.{zeros}
use Rattle.decide.specs.Standing.{Standing, Stored, Sets}
use Rattle.decide.specs.Turn.{UsesOf, Uses}
use Rattle.decide.specs.Driven.{Goals, Starts, start_rows, Driving, Answers, Driven}
use Rattle.decide.specs.Build.{First, GoalOf}
use Rattle.decide.specs.Ran.{shape_of, Able, Started, Ran}
use Rattle.decide.proofs.Gathered.{mat_none}
use Rattle.decide.proofs.Emptied.{zeros_at}
use Rattle.decide.proofs.Choosing.{no_member, collected_cases, collected_new}
use Rattle.steps.proofs.Rows.{LiesIn, row_lent}
use Rattle.decide.proofs.Framed.{model_frame}

-- a set of one
pub one_bit : (g : ℕ) → g < 32 → (x : ℕ) → bit ((1 * 2 ^ g) % 2 ^ 64) x ≡ eqb g x
one_bit g l x = ap (λ n. bit n x) (one_shifted 64 g (omega arith)) ∙ bit_pow g x

pub one_low : (g : ℕ) → g < 32 → (x : ℕ) → T (bit ((1 * 2 ^ g) % 2 ^ 64) x) → x < 32
one_low g l x t = subst (λ n. n < 32) (eqb→eq g x (subst T (one_bit g l x) t)) l

module _ (m : Model) (v : T (valid m)) {rs : List ℕ} (same : LiesIn rs m) where
  abbrev z : Size
  z = size_of m

  pub q_in : m.startstate < 8
  q_in = omega (arith, start_state_in m v, (valid_sizes m v).states)

  pub g_in : m.startsymbol < 32
  g_in = omega (arith, start_symbol_in m v, (valid_sizes m v).symbols)

  -- what is looked for
  module _ {goal : Goal} (of : GoalOf (shape_of m) (product_of m).final goal) where
    pub state_in : goal.state < 8
    state_in = omega (arith, of.state_is, q_in)

    pub symbol_in : goal.symbol < 32
    symbol_in = omega (arith, of.symbol_is, g_in)

    goals : Goals (product_of m) goal
    goals = record {
      low = λ x t. ltb→lt x 8 (and_left (ltb x 8) ((product_of m).final x) (subst T (of.finals_are x) t));
      is = λ x t. and_right (ltb x 8) ((product_of m).final x) (subst T (of.finals_are x) t);
      all = λ x l t. subst⁻¹ T (of.finals_are x) (both (ltb x 8) ((product_of m).final x) (subst⁻¹ T (lt-ltb x 8 l) tt) t);
      state_is = of.state_is;
      symbol_is = of.symbol_is;
    }

    -- the rules by what they need, and those of the first round
    module _ {us : List ℕ} {t : Next} (f : First rs m.rules goal.symbol us t) where
      changed_bit : (x : ℕ) → bit t.changed x ≡ eqb goal.symbol x
      changed_bit x = ap (λ d. bit d x) f.changed_is ∙ one_bit goal.symbol symbol_in x

      uses_are : Uses (product_of m) us
      uses_are = record { there = λ r l. subst⁻¹ (UsesOf us r) (row_lent m v same r l) (f.uses.there r l); only = f.uses.only }

      no_exit : (k g₀ g1 g2 : ℕ) → eqb k 0 ≡ false → FirstT (rule_by k g₀ g1 g2)
      no_exit zero g₀ g1 g2 x = absurd (subst T x tt)
      no_exit (suc zero) g₀ g1 g2 x = tt
      no_exit (suc (suc k)) g₀ g1 g2 x = tt

      first_t : (r : ℕ) → r < m.rules → chosen t.wt.words r ≡ false → FirstT (rule m r)
      first_t r l x =
          subst⁻¹ FirstT (row_lent m v same r l)
          (no_exit (kind_at rs r) (symbol_of (class_at rs r)) (over_at rs r) (under_at rs r)
          (sym (ap (λ b. b && eqb (kind_at rs r) 0) (lt-ltb r m.rules l)) ∙ sym (f.exits.is r) ∙ x))

      not_start : (r g₀ : ℕ) → r < m.rules → chosen t.wh.words r ≡ false → T (member us (64 + g₀) r) → m.startsymbol ≡ g₀ → ⊥
      not_start r g₀ l x u e =
          subst T x (collected_new f.heads r g₀ (omega (arith, l, (valid_sizes m v).rules)) (subst (λ n. n < 32) e g_in)
          (subst⁻¹ T (changed_bit g₀ ∙ eq-eqb goal.symbol g₀ (of.symbol_is ∙ e)) tt) u)

      first_h : (r : ℕ) → r < m.rules → chosen t.wh.words r ≡ false → (ρ : Rule) → UsesOf us r ρ → FirstH m.startsymbol ρ
      first_h r l x (exit g₀) w = tt
      first_h r l x (direct g₀ g1) (_, u) = not_start r g₀ l x u
      first_h r l x (call g₀ g1 g2) (_, _, _, u) = not_start r g₀ l x u

      sets_first : Sets (product_of m) 0 t.wt.words t.wh.words
      sets_first = record {
        triples_long = f.exits.long;
        heads_long = f.heads.long;
        triples_only = λ r u. ltb→lt r m.rules (and_left (ltb r m.rules) (eqb (kind_at rs r) 0) (subst T (f.exits.is r) u));
        heads_only = λ r u. ⊎_elim (λ b. absurd (no_member r b)) (λ (s, h, b). f.uses.only s r h b) (collected_cases f.heads r u);
        enough = enough_first (product_of m) (product_in_lem m v) (chosen t.wt.words) (chosen t.wh.words)
            record { triples = first_t; heads = λ r l x. first_h r l x (rule m r) (uses_are.there r l) };
      }

  -- the arrays of round 0
  module _ {hs ts hs' ts' : List ℕ} (able : Able m hs ts) (st : Started z m.startstate m.startsymbol hs ts hs' ts') where
    abbrev H : List ℕ
    H = cleared (m.states * m.symbols) hs

    long_h : m.states * m.symbols ≤ length H
    long_h = omega (arith, length_cleared (m.states * m.symbols) hs, able.heads_long)

    heads_as_long : length hs' ≡ length hs
    heads_as_long = ap length st.heads ∙ length_head (start_state_in m v) (start_symbol_in m v) 0 H ∙ length_cleared (m.states * m.symbols) hs

    triples_as_long : length ts' ≡ length ts
    triples_as_long = ap length st.triples ∙ length_cleared (m.states * m.symbols * m.states) ts

    past_h : drop (m.states * m.symbols) hs' ≡ drop (m.states * m.symbols) hs
    past_h = ap (drop (m.states * m.symbols)) st.heads ∙ past_head (start_state_in m v) (start_symbol_in m v) 0 H ∙ cleared_past_end (m.states * m.symbols) hs

    past_t : drop (m.states * m.symbols * m.states) ts' ≡ drop (m.states * m.symbols * m.states) ts
    past_t = ap (drop (m.states * m.symbols * m.states)) st.triples ∙ cleared_past_end (m.states * m.symbols * m.states) ts

    whole : view m.symbols m.states hs' ts' ≡ store (λ _. absent) (first (product_of m)) 0
    whole =
        ap₂ (view m.symbols m.states) st.heads st.triples
        ∙ store_head (start_state_in m v) (start_symbol_in m v) 0 H (cleared (m.states * m.symbols * m.states) ts) long_h
        ∙ ap (λ t. store t (first (product_of m)) 0) (cleared_view m.symbols m.states hs ts able.heads_long able.triples_long)

    rank_0 : (f : Fact) → store (λ _. absent) (first (product_of m)) 0 f ≡ ranks (product_of m) 0 f
    unfolding ranks grown
    rank_0 f = refl

    in_hd : m.startsymbol < length (zeros 32)
    in_hd = g_in

    row_at : (g' x : ℕ) → Dec (m.startsymbol ≡ g')
        → mats (set (zeros 32) m.startsymbol ((1 * 2 ^ m.startstate) % 2 ^ 64)) g' 0 x ≡ eqb m.startstate x && eqb m.startsymbol g'
    row_at g' x (yes e) =
        subst (λ g'. mats (set (zeros 32) m.startsymbol ((1 * 2 ^ m.startstate) % 2 ^ 64)) g' 0 x ≡ eqb m.startstate x && eqb m.startsymbol g') e
        (ap (λ n. mat n 0 x) (get_or-set_same (zeros 32) m.startsymbol ((1 * 2 ^ m.startstate) % 2 ^ 64) 0 in_hd)
        ∙ ap (λ b. ltb x 8 && b) (ap (bit ((1 * 2 ^ m.startstate) % 2 ^ 64)) (zero-add x) ∙ one_bit m.startstate (omega (arith, q_in)) x) ∙ bound (eqb m.startstate x) refl
        ∙ ap (λ b. eqb m.startstate x && b) (sym (eq-eqb m.startsymbol m.startsymbol refl)))
      where
        bound : (b : Bool) → eqb m.startstate x ≡ b → ltb x 8 && b ≡ b && true
        bound true y = ap (λ b. b && true) (lt-ltb x 8 (subst (λ n. n < 8) (eqb→eq m.startstate x (subst⁻¹ T y tt)) q_in))
        bound false y = and_off (ltb x 8)
          where
            and_off : (a : Bool) → a && false ≡ false
            and_off true = refl
            and_off false = refl
    row_at g' x (no e) =
        ap (λ n. mat n 0 x) (get_or-set_other (zeros 32) m.startsymbol g' ((1 * 2 ^ m.startstate) % 2 ^ 64) 0 (λ y. e (sym y)))
        ∙ mat_none (get_or (zeros 32) g' 0) 0 x (zeros_at 32 g')
        ∙ sym (ap (λ b. eqb m.startstate x && b) (ne_eqb m.startsymbol g' e) ∙ and_off (eqb m.startstate x))
      where
        and_off : (a : Bool) → a && false ≡ false
        and_off true = refl
        and_off false = refl

    standing_first : Standing (product_of m) z 0 (zeros 32) (set (zeros 32) m.startsymbol ((1 * 2 ^ m.startstate) % 2 ^ 64)) hs' ts'
    unfolding grown
    standing_first = record {
      triples_held = λ g' q' x. mat_none (get_or (zeros 32) g' 0) q' x (zeros_at 32 g');
      heads_held = λ g' x. row_at g' x (ℕ_discrete m.startsymbol g');
      triples_ranked = λ q' g' x. ap (λ t. t (triple q' g' x)) whole ∙ rank_0 (triple q' g' x);
      heads_ranked = λ q' g'. ap (λ t. t (head q' g')) whole ∙ rank_0 (head q' g');
      triples_room = record { few = (valid_sizes m v).symbols; matrices = refl; long = omega (arith, triples_as_long, able.triples_long) };
      heads_room = record { few = (valid_sizes m v).symbols; matrices = length-set (zeros 32) m.startsymbol ((1 * 2 ^ m.startstate) % 2 ^ 64); long = omega (arith, heads_as_long, able.heads_long) };
    }

    nothing_stored : {tg : List ℕ} → Stored (product_of m) 0 rs tg (zeros 256)
    nothing_stored = record {
      long = refl;
      sound = λ c k x t. absurd (subst T (mat_none (get_or (zeros 256) c 0) k x (zeros_at 256 c)) t);
      settled = λ c q' k x _ t. absurd (subst T (mat_none (get_or (zeros 256) c 0) k x (zeros_at 256 c)) t);
    }

  -- THE START, of a goal, of the rules of the first round and of the arrays of round 0
  module _ {hs ts hs' ts' : List ℕ} {goal : Goal} {us tg : List ℕ} {t : Next} (able : Able m hs ts) (of : GoalOf (shape_of m) (product_of m).final goal)
      (st : Started z goal.state goal.symbol hs ts hs' ts') (f : First rs m.rules goal.symbol us t)
      (tg-is : tg ≡ class_steps m) where
    st' : Started z m.startstate m.startsymbol hs ts hs' ts'
    st' = subst (λ q. Started z q m.startsymbol hs ts hs' ts') of.state_is (subst (λ g. Started z goal.state g hs ts hs' ts') of.symbol_is st)

    rows_are : set (zeros 32) m.startsymbol ((1 * 2 ^ m.startstate) % 2 ^ 64) ≡ start_rows goal
    rows_are = ap₂ (λ g q. set (zeros 32) g ((1 * 2 ^ q) % 2 ^ 64)) (sym of.symbol_is) (sym of.state_is)

    starts : Starts (product_of m) z goal t rs tg us hs' ts'
    starts = record {
      begins = record {
        arrays = record { in_range = product_in_lem m v; frame = model_frame m v same tg-is; symbols_are = refl };
        sets = sets_first of f;
        stored = nothing_stored able st';
        standing = subst (λ hd. Standing (product_of m) z 0 (zeros 32) hd hs' ts') rows_are (standing_first able st');
      };
      uses = uses_are of f;
      goals = goals of;
      more_is = f.more_is;
      changed_is = changed_bit of f;
    }

    pub driving : Driving z goal t rs tg us hs' ts'
    driving = record { product = product_of m; starts = starts }

    module _ {budget : ℕ} {r : Decision} {hs'' ts'' : List ℕ} (d : Driven z goal t rs tg us hs' ts' budget r hs'' ts'') where
      b : Answers (product_of m) z hs' ts' budget r hs'' ts''
      b = d.answers (product_of m) starts

      -- the arrays are as long as they were
      pub heads_same : length hs'' ≡ length hs
      heads_same = b.heads_kept.as_long ∙ heads_as_long able st'

      pub triples_same : length ts'' ≡ length ts
      triples_same = b.triples_kept.as_long ∙ triples_as_long able st'

      at : (f : Fact) → view m.symbols m.states hs'' ts'' f ≡ left (product_of m) budget f
      at (head q' g') = b.heads_ranked q' g'
      at (triple q' g' x) = b.triples_ranked q' g' x

      -- the answer, and the whole table as it is laid out
      pub ran : Ran m budget hs ts r hs'' ts''
      ran = record {
        answer = b.answer_is;
        heads = heads_laid m.symbols m.states hs'' ts'' (left (product_of m) budget) (omega (arith, heads_same, able.heads_long)) (fun_ext at)
            ∙ ap (λ l. heads_of m.symbols m.states (left (product_of m) budget) ++ l) (b.heads_kept.past ∙ past_h able st');
        triples = triples_laid m.symbols m.states hs'' ts'' (left (product_of m) budget) (omega (arith, triples_same, able.triples_long)) (fun_ext at)
            ∙ ap (λ l. triples_of m.symbols m.states (left (product_of m) budget) ++ l) (b.triples_kept.past ∙ past_t able st');
      }

pub started_is : (z : Size) (q g : ℕ) (hs ts : List ℕ) {n n' : ℕ} → n ≡ z.states * z.symbols → n' ≡ z.states * z.symbols * z.states → (hs₁ : List ℕ) {ts' hs' : List ℕ}
    → hs₁ ≡ cleared n hs → ts' ≡ cleared n' ts → hs' ≡ put_head z.symbols z.states hs₁ q g 0 → Started z q g hs ts hs' ts'
started_is z q g hs ts e e' hs₁ h i j = record {
  heads = j ∙ ap (λ xs. put_head z.symbols z.states xs q g 0) (h ∙ ap (λ n. cleared n hs) e);
  triples = i ∙ ap (λ n. cleared n ts) e';
}
