-- The matrices of the classes are the steps of a valid model's product, rule by rule. Assumes nothing.
use mathlib.Core.Bool.{Bool, true, false, cond, ◌&&◌}
use mathlib.Core.List.{List}
use mathlib.Core.Logic.{◌↔◌}
use mathlib.Core.Option.{some}
use mathlib.Core.Path.{◌≡◌, refl, ap, ◌∙◌, subst, subst⁻¹}
use Prim.Native.Nat.{ℕ, ◌+◌, ◌*◌, ◌^◌, ◌<◌, min}
use native.Mathlib.Decide.{dec_lt}
use native.Mathlib.Nat.{zero-add}
use native.Mathlib.Omega.{arith}
use lib.Dec.{T, eqb, ltb, eqb→eq, ltb→lt, lt→ltb, lit<, eqb_refl}
use lib.ListN.{get_or}
use borrow.Author.Tests.{lt-ltb}
use Rattle.product.specs.Product.{symbol, Step}
use Rattle.product.proofs.Lists.{and_left, and_right, both, same_truth}
use Rattle.bits.specs.Bit.{bit}
use Rattle.bits.specs.Matrix.{mat, mats, passed}
use Rattle.bits.proofs.Image.{image_at}
use Rattle.bits.proofs.Set.{word_lt}
use Rattle.bits.proofs.Some.{some_of, of_some}
use Rattle.model.specs.declared.Model.{Model}
use Rattle.model.specs.Model.{shows_at, rule, move, product_of}
use Rattle.model.specs.Valid.{valid}
use Rattle.model.proofs.Bounds.{step_in}
use Rattle.model.proofs.Steps.{next_is, fits_next}
use Rattle.model.proofs.Valid.{valid_move, valid_sizes, product_in_lem}
use Rattle.steps.specs.Steps.{class_of, symbol_of, step_by, steps_by, steps_of, class_steps, states_after}
use Rattle.steps.specs.Steps as specs
use Rattle.steps.proofs.Words.{matrix_at, zero_at, gathered_at, gathered_past}

-- today a rule's class is its symbol
pub class_is : (M : Model) (r : ℕ) → r < 256 → symbol (rule M r) ≡ class_of M r
unfolding class_of
class_is M r l = rw (lt-ltb r 256 l)

pub symbol_low : (c : ℕ) → symbol_of c < 32
unfolding symbol_of
symbol_low c = omega arith

pub symbol_same : (c : ℕ) → c < 32 → symbol_of c ≡ c
unfolding symbol_of
symbol_same c l = omega arith

module _ (M : Model) where
  steps_of_lem : (c : ℕ) → get_or (class_steps M) c 0 ≡ steps_of M c
  unfolding class_steps steps_of
  steps_of_lem c = go (dec_lt c 256)
    where
      go : Dec (c < 256) → get_or (class_steps M) c 0 ≡ steps_of M c
      go (yes l) = gathered_at 256 (steps_of M) c l
      go (no l) =
          gathered_past 256 (steps_of M) c (omega arith)
          ∙ ap (λ b. cond b (specs.matrix (steps_by M c)) 0) (same_truth false (ltb c (min M.symbols 32)) (λ t. absurd t) (λ t. absurd (let i = ltb→lt c (min M.symbols 32) t in omega arith)))

  pub steps_lt : (c : ℕ) → get_or (class_steps M) c 0 < 2 ^ 64
  unfolding steps_of
  steps_lt c = subst⁻¹ (λ n. n < 2 ^ 64) (steps_of_lem c) (go (ltb c (min M.symbols 32)))
    where
      go : (b : Bool) → cond b (specs.matrix (steps_by M c)) 0 < 2 ^ 64
      go true = word_lt 64 _
      go false = lit< tt

  -- the entries of every matrix
  pub steps_at : (c q x : ℕ) → mats (class_steps M) c q x ≡ ltb c (min M.symbols 32) && (ltb q 8 && ltb x 8 && steps_by M c q x)
  unfolding steps_of
  steps_at c q x = ap (λ n. mat n q x) (steps_of_lem c) ∙ go (ltb c (min M.symbols 32))
    where
      go : (b : Bool) → mat (cond b (specs.matrix (steps_by M c)) 0) q x ≡ b && (ltb q 8 && ltb x 8 && steps_by M c q x)
      go true = matrix_at (steps_by M c) q x
      go false = zero_at q x

module _ (m : Model) (valid-m : T (valid m)) where
  abbrev tg : List ℕ
  tg = class_steps m

  -- the numbers of a move are in range
  move_in : (v : ℕ) → v < m.moves → ((move m v).source < m.states) × ((move m v).event < m.events) × ((move m v).target < m.states)
  move_in v l =
      let t = valid_move m valid-m v l in
      let a : Bool = ltb (move m v).source m.states in
      let b : Bool = ltb (move m v).event m.events in
      let c : Bool = ltb (move m v).target m.states in
      let u : T (a && b) = and_left (a && b) c t in
      (ltb→lt (move m v).source m.states (and_left a b u), ltb→lt (move m v).event m.events (and_right a b u), ltb→lt (move m v).target m.states (and_right (a && b) c t))

  -- an entry is a move of an event that the symbol shows
  pub entry_is : (c q q' : ℕ) → T (mats tg c q q')
      → (c < m.symbols) × (v : ℕ) × (v < m.moves) × ((move m v).source ≡ q) × T (shows_at m.shows c (move m v).event) × ((move m v).target ≡ q')
  unfolding steps_by
  entry_is c q q' t =
      let u = subst T (steps_at m c q q') t in
      let i : Bool = ltb c (min m.symbols 32) in
      let j : Bool = ltb q 8 && ltb q' 8 in
      let w = and_right j (steps_by m c q q') (and_right i (j && steps_by m c q q') u) in
      let (v, l, x) = of_some (min m.moves 128) (λ v. step_by m c v q q') w in
      let a : Bool = ltb (move m v).event 16 in
      let b : Bool = eqb (move m v).source q in
      let s : Bool = shows_at m.shows c (move m v).event in
      let d : Bool = eqb (move m v).target q' in
      let y = and_right a (b && s) (and_left (a && (b && s)) d x) in
      let k : c < min m.symbols 32 = ltb→lt c (min m.symbols 32) (and_left i (j && steps_by m c q q') u) in
      (omega arith, v, omega arith, eqb→eq (move m v).source q (and_left b s y), and_right b s y, eqb→eq (move m v).target q' (and_right (a && (b && s)) d x))

  is_entry : (c v : ℕ) → c < m.symbols → v < m.moves → T (shows_at m.shows c (move m v).event) → T (mats tg c (move m v).source (move m v).target)
  unfolding steps_by
  is_entry c v i l s =
      let z = valid_sizes m valid-m in
      let (x, y, w) = move_in v l in
      subst⁻¹ T (steps_at m c (move m v).source (move m v).target)
      (rw (lt-ltb c (min m.symbols 32) (omega arith), lt-ltb (move m v).source 8 (omega arith), lt-ltb (move m v).target 8 (omega arith))
      (some_of (min m.moves 128) (λ w. step_by m c w (move m v).source (move m v).target) v (omega arith)
      (both (ltb (move m v).event 16 && (eqb (move m v).source (move m v).source && shows_at m.shows c (move m v).event)) (eqb (move m v).target (move m v).target)
      (both (ltb (move m v).event 16) (eqb (move m v).source (move m v).source && shows_at m.shows c (move m v).event) (lt→ltb (move m v).event 16 (omega arith))
      (both (eqb (move m v).source (move m v).source) (shows_at m.shows c (move m v).event) (eqb_refl (move m v).source) s))
      (eqb_refl (move m v).target))))

  -- both ends are states
  pub steps_in : (c q q' : ℕ) → T (mats tg c q q') → (q < m.states) × (q' < m.states)
  steps_in c q q' t =
      let (_, v, l, x, _, y) = entry_is c q q' t in
      let (i, _, j) = move_in v l in
      (subst (λ n. n < m.states) x i, subst (λ n. n < m.states) y j)

  abbrev named : (r v : ℕ) → Step
  named r v = record { by_rule = r; by_move = v }

  module _ (r : ℕ) (there : r < m.rules) where
    pub class_of_lem : symbol (rule m r) ≡ class_of m r
    class_of_lem = class_is m r (omega (arith, there, (valid_sizes m valid-m).rules))

    -- a step of the product is an entry of its rule's matrix
    pub step_entry : (v q q' : ℕ) → (product_of m).next (named r v) q ≡ some q' → T (mats tg (symbol (rule m r)) q q')
    step_entry v q q' e =
        let (f, y) = next_is m (named r v) q q' e in
        subst (λ q. T (mats tg (symbol (rule m r)) q q')) f.here
        (subst (λ q'. T (mats tg (symbol (rule m r)) (move m v).source q')) y
        (is_entry (symbol (rule m r)) v ((product_in_lem m valid-m).rules_in r there).0 f.move_there f.seen))

    pub entry_step : (q q' : ℕ) → T (mats tg (symbol (rule m r)) q q') → (v : ℕ) × (v < m.moves) × ((product_of m).next (named r v) q ≡ some q')
    entry_step q q' t =
        let (_, v, l, x, s, y) = entry_is (symbol (rule m r)) q q' t in
        (v, l, fits_next m (named r v) q (symbol (rule m r)) (record { rule_there = there; move_there = l; top = refl; here = x; seen = s }) ∙ ap some y)

    -- a state is in `states_after` exactly if some move makes a step of the rule there, from a state of the set
    pub states_after_lem : (set q' : ℕ) → T (bit (states_after m tg r set) q') ↔ ((q : ℕ) × (v : ℕ) × T (bit set q) × ((product_of m).next (named r v) q ≡ some q'))
    unfolding states_after passed
    states_after_lem set q' = (to, from)
      where
        way : ℕ → Bool
        way k = mat set 0 k && mats tg (class_of m r) k q'

        to : T (bit (states_after m tg r set) q') → (q : ℕ) × (v : ℕ) × T (bit set q) × ((product_of m).next (named r v) q ≡ some q')
        to t =
            let (q, l, u) = of_some 8 way (subst T (image_at set (get_or tg (class_of m r) 0) q') t) in
            let a = and_right (ltb 0 8 && ltb q 8) (bit set (0 * 8 + q)) (and_left (mat set 0 q) (mats tg (class_of m r) q q') u) in
            let (v, _, e) = entry_step q q' (subst⁻¹ (λ c. T (mats tg c q q')) class_of_lem (and_right (mat set 0 q) (mats tg (class_of m r) q q') u)) in
            (q, v, subst (λ n. T (bit set n)) (zero-add q) a, e)

        from : (q : ℕ) × (v : ℕ) × T (bit set q) × ((product_of m).next (named r v) q ≡ some q') → T (bit (states_after m tg r set) q')
        from (q, v, a, e) =
            let l : q < 8 = omega (arith, (step_in m valid-m (named r v) q q' e).0, (valid_sizes m valid-m).states) in
            subst⁻¹ T (image_at set (get_or tg (class_of m r) 0) q')
            (some_of 8 way q l
            (both (mat set 0 q) (mats tg (class_of m r) q q')
            (both (ltb 0 8 && ltb q 8) (bit set (0 * 8 + q)) (lt→ltb q 8 l) (subst⁻¹ (λ n. T (bit set n)) (zero-add q) a))
            (subst (λ c. T (mats tg c q q')) class_of_lem (step_entry v q q' e))))
