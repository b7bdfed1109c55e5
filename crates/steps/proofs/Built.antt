-- The matrices of the classes, as they are built: those of the events that a symbol shows, joined. Assumes nothing.
use mathlib.Core.Bool.{Bool, true, false, cond, ◌&&◌, ◌||◌}
use mathlib.Core.List.{List}
use mathlib.Core.Path.{◌≡◌, refl, sym, ap, ap₂, ◌∙◌, subst⁻¹}
use Prim.Native.Nat.{ℕ, zero, suc, ◌+◌, ◌/◌, ◌%◌, ◌<◌, ◌≤◌, min}
use native.Mathlib.Decide.{ℕ_discrete}
use native.Mathlib.Omega.{arith}
use lib.Dec.{T, eqb, ltb, eqb→eq, eqb_refl, ltb→lt, lt→ltb}
use lib.ListN.{length, get_or, set, replicate, length-set}
use lib.Seq.{get_or-set_same, get_or-set_other}
use borrow.Author.Tests.{lt-ltb, le-ltb}
use Rattle.product.proofs.Lists.{and_left, and_right, both, same_truth}
use Rattle.bits.specs.Bit.{bit}
use Rattle.bits.specs.Matrix.{some, image}
use Rattle.bits.proofs.Some.{some_of, of_some}
use Rattle.product.specs.Product.{symbol, exit, direct, call}
use Rattle.model.specs.declared.Model.{Model}
use Rattle.model.specs.Model.{in_row, rule_by, move, shown, shows_at}
use Rattle.steps.specs.Steps.{matrix, class_of, step_by, steps_by, steps_of, class_steps, states_after}
use Rattle.steps.specs.Events.{move_by, event_steps}
use Rattle.steps.proofs.Words.{is_word, is_gathered, zeros_at}
use Rattle.steps.proofs.Events.{events_at}

some_alike : (n : ℕ) (f h : ℕ → Bool) → ((i : ℕ) → i < n → f i ≡ h i) → some n f ≡ some n h
some_alike zero f h k = refl
some_alike (suc n) f h k = ap₂ ◌||◌ (some_alike n f h (λ i l. k i (omega arith))) (k n (omega arith))

-- those of the first n events
module _ (on : List ℕ) (shows : List Bool) (g : ℕ) where
  abbrev pub Joined : (n m : ℕ) → Type 0
  Joined n m = (i : ℕ) → bit m i ≡ some n (λ e. shows_at shows g e && bit (get_or on e 0) i)

-- a symbol's steps are the moves of the events that it shows
module _ (M : Model) (g : ℕ) where
  abbrev moved : (e q x v : ℕ) → Bool
  moved e q x v = move_by M e v q x

  abbrev source : ℕ → ℕ
  source v = (move M v).source

  abbrev event : ℕ → ℕ
  event v = (move M v).event

  abbrev target : ℕ → ℕ
  target v = (move M v).target

  abbrev seen : (e q x : ℕ) → Bool
  seen e q x = shown M g e && some (min M.moves 128) (moved e q x)

  to : (q x : ℕ) → T (some 16 (λ e. seen e q x)) → T (steps_by M g q x)
  unfolding steps_by
  to q x t =
      let (e, l, u) = of_some 16 (λ e. seen e q x) t in
      let (v, k, w) = of_some (min M.moves 128) (moved e q x) (and_right (shown M g e) (some (min M.moves 128) (moved e q x)) u) in
      let y : event v ≡ e = eqb→eq (event v) e (and_left (eqb (event v) e) (eqb (source v) q && eqb (target v) x) w) in
      let z : T (eqb (source v) q && eqb (target v) x) = and_right (eqb (event v) e) (eqb (source v) q && eqb (target v) x) w in
      some_of (min M.moves 128) (λ v. step_by M g v q x) v k
      (both (ltb (event v) 16 && (eqb (source v) q && shown M g (event v))) (eqb (target v) x)
      (both (ltb (event v) 16) (eqb (source v) q && shown M g (event v)) (lt→ltb (event v) 16 (omega arith))
      (both (eqb (source v) q) (shown M g (event v)) (and_left (eqb (source v) q) (eqb (target v) x) z)
      (subst⁻¹ (λ n. T (shown M g n)) y (and_left (shown M g e) (some (min M.moves 128) (moved e q x)) u))))
      (and_right (eqb (source v) q) (eqb (target v) x) z))

  from : (q x : ℕ) → T (steps_by M g q x) → T (some 16 (λ e. seen e q x))
  unfolding steps_by
  from q x t =
      let (v, k, w) = of_some (min M.moves 128) (λ v. step_by M g v q x) t in
      let a : Bool = ltb (event v) 16 in
      let b : Bool = eqb (source v) q && shown M g (event v) in
      let u : T (a && b) = and_left (a && b) (eqb (target v) x) w in
      let s : T b = and_right a b u in
      some_of 16 (λ e. seen e q x) (event v) (ltb→lt (event v) 16 (and_left a b u))
      (both (shown M g (event v)) (some (min M.moves 128) (moved (event v) q x)) (and_right (eqb (source v) q) (shown M g (event v)) s)
      (some_of (min M.moves 128) (moved (event v) q x) v k
      (both (eqb (event v) (event v)) (eqb (source v) q && eqb (target v) x) (eqb_refl (event v))
      (both (eqb (source v) q) (eqb (target v) x) (and_left (eqb (source v) q) (shown M g (event v)) s) (and_right (a && b) (eqb (target v) x) w)))))

  seen_is : (q x : ℕ) → some 16 (λ e. seen e q x) ≡ steps_by M g q x
  seen_is q x = same_truth (some 16 (λ e. seen e q x)) (steps_by M g q x) (to q x) (from q x)

  -- and so is what is joined
  out : (n : ℕ) (b : Bool) (f h : ℕ → Bool) → some n (λ e. f e && (b && h e)) ≡ b && some n (λ e. f e && h e)
  out n true f h = refl
  out n false f h = same_truth (some n (λ e. f e && false)) false (λ t. let (e, _, u) = of_some n (λ e. f e && false) t in and_right (f e) false u) (λ t. absurd t)

  pub symbol_is : (m : ℕ) {on : List ℕ} → on ≡ event_steps M M.moves → Joined on M.shows g 16 m → m ≡ matrix (steps_by M g)
  symbol_is m is h =
      is_word 64 (λ i. steps_by M g (i / 8) (i % 8)) m λ i.
      h i
      ∙ ap (λ on. some 16 (λ e. shown M g e && bit (get_or on e 0) i)) is
      ∙ some_alike 16 (λ e. shown M g e && bit (get_or (event_steps M M.moves) e 0) i) (λ e. shown M g e && (ltb i 64 && some (min M.moves 128) (moved e (i / 8) (i % 8))))
      (λ e l. ap (λ b. shown M g e && b) (events_at M M.moves e i l))
      ∙ out 16 (ltb i 64) (shown M g) (λ e. some (min M.moves 128) (moved e (i / 8) (i % 8)))
      ∙ ap (λ b. ltb i 64 && b) (seen_is (i / 8) (i % 8))

-- class by class
module _ (M : Model) where
  abbrev pub Filled : (n : ℕ) → List ℕ → Type 0
  Filled n tg = (length tg ≡ 256) × ((c : ℕ) → get_or tg c 0 ≡ cond (ltb c n) (matrix (steps_by M c)) 0)

  pub filled_none : Filled 0 (replicate {A = ℕ} 256 0)
  filled_none = (refl, λ c. zeros_at 256 c ∙ ap (λ b. cond b (matrix (steps_by M c)) 0) (sym (le-ltb c 0 (omega arith))))

  pub filled_more : (g : ℕ) (tg : List ℕ) (m : ℕ) → g < 256 → Filled g tg → m ≡ matrix (steps_by M g) → Filled (g + 1) (set tg g m)
  filled_more g tg m l (long, at) is = (length-set tg g m ∙ long, λ c. go c (ℕ_discrete c g))
    where
      go : (c : ℕ) → Dec (c ≡ g) → get_or (set tg g m) c 0 ≡ cond (ltb c (g + 1)) (matrix (steps_by M c)) 0
      go c (yes e) =
          subst⁻¹ (λ c. get_or (set tg g m) c 0 ≡ cond (ltb c (g + 1)) (matrix (steps_by M c)) 0) e
          (get_or-set_same tg g m 0 (omega arith) ∙ is ∙ ap (λ b. cond b (matrix (steps_by M g)) 0) (sym (lt-ltb g (g + 1) (omega arith))))
      go c (no e) =
          get_or-set_other tg g c m 0 e ∙ at c
          ∙ ap (λ b. cond b (matrix (steps_by M c)) 0) (same_truth (ltb c g) (ltb c (g + 1))
          (λ t. lt→ltb c (g + 1) (omega (arith, ltb→lt c g t))) (λ t. lt→ltb c g (omega (arith, e, ltb→lt c (g + 1) t))))

  pub filled_all : (n : ℕ) (tg : List ℕ) → n ≡ min M.symbols 32 → Filled n tg → tg ≡ class_steps M
  unfolding class_steps steps_of
  filled_all n tg e (long, at) =
      is_gathered 256 (λ c. cond (ltb c (min M.symbols 32)) (matrix (steps_by M c)) 0) tg long
      (λ c _. at c ∙ ap (λ n. cond (ltb c n) (matrix (steps_by M c)) 0) e)

-- a rule's class, and where its steps lead, as the code reads them
symbol_by : (k g g1 g2 : ℕ) → symbol (rule_by k g g1 g2) ≡ g
symbol_by k g g1 g2 = go (eqb k 0) (eqb k 1)
  where
    go : (a b : Bool) → symbol (cond a (exit g) (cond b (direct g g1) (call g g1 g2))) ≡ g
    go true b = refl
    go false true = refl
    go false false = refl

module _ (M : Model) (r : ℕ) where
  pub class_past : 256 ≤ r → 0 ≡ class_of M r
  unfolding class_of
  class_past l = rw (le-ltb r 256 l)

  pub class_row : r < 256 → {c : ℕ} → c ≡ in_row 4 M.rulerows r 1 → c ≡ class_of M r
  unfolding class_of
  class_row l e =
      rw (lt-ltb r 256 l)
      (e ∙ sym (symbol_by (in_row 4 M.rulerows r 0) (in_row 4 M.rulerows r 1) (in_row 4 M.rulerows r 2) (in_row 4 M.rulerows r 3)))

pub is_after : (M : Model) (tg : List ℕ) (r from : ℕ) {c x : ℕ} → c ≡ class_of M r → x ≡ image from (get_or tg c 0) → x ≡ states_after M tg r from
unfolding states_after
is_after M tg r from e h = h ∙ ap (λ c. image from (get_or tg c 0)) e
