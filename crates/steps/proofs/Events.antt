-- The matrices of the events, move by move. Assumes nothing.
use mathlib.Core.Bool.{Bool, true, false, cond, ◌&&◌, ◌||◌}
use mathlib.Core.List.{List}
use mathlib.Core.Path.{◌≡◌, refl, sym, ap, ◌∙◌, subst, subst⁻¹}
use Prim.Native.Nat.{ℕ, ◌+◌, ◌*◌, ◌/◌, ◌%◌, ◌^◌, ◌<◌, ◌≤◌, min}
use native.Mathlib.Decide.{ℕ_discrete}
use native.Mathlib.Nat.{mod-lt, div-add-mod', div-lt_iff_lt-mul}
use native.Mathlib.Numerals.{add-one}
use native.Mathlib.Omega.{arith}
use lib.Arith.{digits_div, digits_mod}
use lib.Bits.{bit_or}
use lib.Dec.{T, eqb, ltb, eqb→eq, ltb→lt, lit<}
use lib.ListN.{length, get_or, set, replicate, length-set}
use lib.Seq.{get_or-set_same, get_or-set_other}
use borrow.Author.Tests.{eq-eqb, ne_eqb, lt-ltb, le-ltb}
use Rattle.product.proofs.Lists.{and_left, and_right, same_truth}
use Rattle.bits.specs.Bit.{bit}
use Rattle.bits.specs.Matrix.{some}
use Rattle.bits.proofs.Bit.{bit_or_lem, bit_zero}
use Rattle.bits.proofs.Set.{bit_pow, one_shifted}
use Rattle.model.specs.declared.Model.{Model}
use Rattle.model.specs.declared.Move.{Move}
use Rattle.model.specs.Model.{move}
use Rattle.steps.specs.Steps.{matrix}
use Rattle.steps.specs.Events.{move_by, event_steps, with_move}
use Rattle.steps.proofs.Words.{word_bits, is_word, gathered_at, is_gathered, zeros_at}

-- the entry of q and x, by its number
alone : (q x i : ℕ) → q < 8 → x < 8 → eqb (q * 8 + x) i ≡ ltb i 64 && (eqb q (i / 8) && eqb x (i % 8))
alone q x i hq hx = same_truth (eqb (q * 8 + x) i) (ltb i 64 && (eqb q (i / 8) && eqb x (i % 8))) to from
  where
    to : T (eqb (q * 8 + x) i) → T (ltb i 64 && (eqb q (i / 8) && eqb x (i % 8)))
    to t =
        let e : q * 8 + x ≡ i = eqb→eq (q * 8 + x) i t in
        rw (lt-ltb i 64 (omega arith), eq-eqb q (i / 8) (sym (digits_div q hx) ∙ ap (λ n. n / 8) e), eq-eqb x (i % 8) (sym (digits_mod q hx) ∙ ap (λ n. n % 8) e)) tt

    from : T (ltb i 64 && (eqb q (i / 8) && eqb x (i % 8))) → T (eqb (q * 8 + x) i)
    from t =
        let u : T (eqb q (i / 8) && eqb x (i % 8)) = and_right (ltb i 64) (eqb q (i / 8) && eqb x (i % 8)) t in
        let a : q ≡ i / 8 = eqb→eq q (i / 8) (and_left (eqb q (i / 8)) (eqb x (i % 8)) u) in
        let b : x ≡ i % 8 = eqb→eq x (i % 8) (and_right (eqb q (i / 8)) (eqb x (i % 8)) u) in
        rw (eq-eqb (q * 8 + x) i (omega (arith, div-add-mod' i 8))) tt

pub or_false : (b : Bool) → b ≡ b || false
or_false true = refl
or_false false = refl

and_false : (b : Bool) → b && false ≡ false
and_false true = refl
and_false false = refl

-- one move more
module _ (on : List ℕ) (q e x : ℕ) (long : length on ≡ 16) (d i : ℕ) (small : d < 16) where
  abbrev adds : Bool
  adds = ltb i 64 && (eqb e d && (eqb q (i / 8) && eqb x (i % 8)))

  placed : q < 8 → x < 8 → e < 16 → bit (get_or (set on e (bit_or (get_or on e 0) (2 ^ (q * 8 + x)))) d 0) i ≡ bit (get_or on d 0) i || adds
  placed hq hx he = go (ℕ_discrete d e)
    where
      go : Dec (d ≡ e) → bit (get_or (set on e (bit_or (get_or on e 0) (2 ^ (q * 8 + x)))) d 0) i ≡ bit (get_or on d 0) i || adds
      go (yes y) =
          subst⁻¹ (λ d. bit (get_or (set on e (bit_or (get_or on e 0) (2 ^ (q * 8 + x)))) d 0) i ≡ bit (get_or on d 0) i || (ltb i 64 && (eqb e d && (eqb q (i / 8) && eqb x (i % 8))))) y
          (ap (λ n. bit n i) (get_or-set_same on e (bit_or (get_or on e 0) (2 ^ (q * 8 + x))) 0 (omega arith))
          ∙ bit_or_lem (get_or on e 0) (2 ^ (q * 8 + x)) i
          ∙ ap (λ b. bit (get_or on e 0) i || b) (bit_pow (q * 8 + x) i ∙ alone q x i hq hx ∙ ap (λ b. ltb i 64 && (b && (eqb q (i / 8) && eqb x (i % 8)))) (sym (eq-eqb e e refl))))
      go (no y) =
          ap (λ n. bit n i) (get_or-set_other on e d (bit_or (get_or on e 0) (2 ^ (q * 8 + x))) 0 y)
          ∙ or_false (bit (get_or on d 0) i)
          ∙ ap (λ b. bit (get_or on d 0) i || b) (sym (ap (λ b. ltb i 64 && (b && (eqb q (i / 8) && eqb x (i % 8)))) (ne_eqb e d (λ z. y (sym z))) ∙ and_false (ltb i 64)))

  -- a move that adds has its place
  has_place : T adds → T (ltb q 8 && ltb x 8 && ltb e 16)
  has_place t =
      let u : T (eqb e d && (eqb q (i / 8) && eqb x (i % 8))) = and_right (ltb i 64) (eqb e d && (eqb q (i / 8) && eqb x (i % 8))) t in
      let w : T (eqb q (i / 8) && eqb x (i % 8)) = and_right (eqb e d) (eqb q (i / 8) && eqb x (i % 8)) u in
      let l : i < 64 = ltb→lt i 64 (and_left (ltb i 64) (eqb e d && (eqb q (i / 8) && eqb x (i % 8))) t) in
      let a : e ≡ d = eqb→eq e d (and_left (eqb e d) (eqb q (i / 8) && eqb x (i % 8)) u) in
      let b : q ≡ i / 8 = eqb→eq q (i / 8) (and_left (eqb q (i / 8)) (eqb x (i % 8)) w) in
      let c : x ≡ i % 8 = eqb→eq x (i % 8) (and_right (eqb q (i / 8)) (eqb x (i % 8)) w) in
      let m : i / 8 < 8 = (div-lt_iff_lt-mul {k = 8} {y = 8} (lit< tt)).1 l in
      let n : i % 8 < 8 = mod-lt i {m = 8} (lit< tt) in
      rw (lt-ltb q 8 (omega arith), lt-ltb x 8 (omega arith), lt-ltb e 16 (omega arith)) tt

  pub with_move_lem : bit (get_or (with_move on q e x) d 0) i ≡ bit (get_or on d 0) i || adds
  unfolding with_move
  with_move_lem = go (ltb q 8 && ltb x 8 && ltb e 16) refl
    where
      go : (b : Bool) → (ltb q 8 && ltb x 8 && ltb e 16) ≡ b
          → bit (get_or (cond b (set on e (bit_or (get_or on e 0) (2 ^ (q * 8 + x)))) on) d 0) i ≡ bit (get_or on d 0) i || adds
      go true y =
          let t : T (ltb q 8 && ltb x 8 && ltb e 16) = rw y tt in
          let u : T (ltb q 8 && ltb x 8) = and_left (ltb q 8 && ltb x 8) (ltb e 16) t in
          placed (ltb→lt q 8 (and_left (ltb q 8) (ltb x 8) u)) (ltb→lt x 8 (and_right (ltb q 8) (ltb x 8) u)) (ltb→lt e 16 (and_right (ltb q 8 && ltb x 8) (ltb e 16) t))
      go false y =
          or_false (bit (get_or on d 0) i)
          ∙ ap (λ b. bit (get_or on d 0) i || b) (same_truth false adds (λ t. absurd t) (λ t. subst T y (has_place t)))

-- as the code puts it
module _ (on : List ℕ) (q e x : ℕ) where
  pub no_source : 8 ≤ q → on ≡ with_move on q e x
  unfolding with_move
  no_source l = rw (le-ltb q 8 l)

  pub no_target : q < 8 → 8 ≤ x → on ≡ with_move on q e x
  unfolding with_move
  no_target i l = rw (lt-ltb q 8 i, le-ltb x 8 l)

  pub no_event : q < 8 → x < 8 → 16 ≤ e → on ≡ with_move on q e x
  unfolding with_move
  no_event i j l = rw (lt-ltb q 8 i, lt-ltb x 8 j, le-ltb e 16 l)

  pub is_put : q < 8 → x < 8 → e < 16 → set on e (bit_or (get_or on e 0) ((1 * 2 ^ (q * 8 + x)) % 2 ^ 64)) ≡ with_move on q e x
  unfolding with_move
  is_put i j l = rw (lt-ltb q 8 i, lt-ltb x 8 j, lt-ltb e 16 l, one_shifted 64 (q * 8 + x) (omega arith))

pub length_with : (on : List ℕ) (q e x : ℕ) → length (with_move on q e x) ≡ length on
unfolding with_move
length_with on q e x = go (ltb q 8 && ltb x 8 && ltb e 16)
  where
    go : (b : Bool) → length (cond b (set on e (bit_or (get_or on e 0) (2 ^ (q * 8 + x)))) on) ≡ length on
    go true = length-set on e (bit_or (get_or on e 0) (2 ^ (q * 8 + x)))
    go false = refl

and_or : (a b c : Bool) → (a && b) || (a && c) ≡ a && (b || c)
and_or true b c = refl
and_or false b c = refl

-- the moves before v are entered
module _ (M : Model) where
  abbrev pub Entered : (v : ℕ) → List ℕ → Type 0
  Entered v on = (length on ≡ 16) × ((d i : ℕ) → d < 16 → bit (get_or on d 0) i ≡ ltb i 64 && some v (λ w. move_by M d w (i / 8) (i % 8)))

  pub entered_none : Entered 0 (replicate {A = ℕ} 16 0)
  entered_none = (refl, λ d i _. ap (λ n. bit n i) (zeros_at 16 d) ∙ bit_zero i ∙ sym (and_false (ltb i 64)))

  pub entered_more : (v : ℕ) (on on' : List ℕ) {μ : Move} → μ ≡ move M v
      → Entered v on → on' ≡ with_move on μ.source μ.event μ.target → Entered (v + 1) on'
  entered_more v on on' {μ} by (long, at) is = (
    ap length is ∙ length_with on μ.source μ.event μ.target ∙ long,
    λ d i l. rw add-one
        (ap (λ xs. bit (get_or xs d 0) i) (is ∙ ap (λ (μ : Move). with_move on μ.source μ.event μ.target) by)
        ∙ with_move_lem on (move M v).source (move M v).event (move M v).target long d i l
        ∙ ap (λ z. z || (ltb i 64 && move_by M d v (i / 8) (i % 8))) (at d i l)
        ∙ and_or (ltb i 64) (some v (λ w. move_by M d w (i / 8) (i % 8))) (move_by M d v (i / 8) (i % 8))),
  )

  pub entered_all : (v moves : ℕ) (on : List ℕ) → v ≡ min moves 128 → Entered v on → on ≡ event_steps M moves
  unfolding event_steps
  entered_all v moves on e (long, at) =
      is_gathered 16 (λ d. matrix (λ q x. some (min moves 128) (λ w. move_by M d w q x))) on long
      (λ d l. is_word 64 (λ i. some (min moves 128) (λ w. move_by M d w (i / 8) (i % 8))) (get_or on d 0)
      (λ i. at d i l ∙ ap (λ n. ltb i 64 && some n (λ w. move_by M d w (i / 8) (i % 8))) e))

  pub events_at : (moves d i : ℕ) → d < 16 → bit (get_or (event_steps M moves) d 0) i ≡ ltb i 64 && some (min moves 128) (λ w. move_by M d w (i / 8) (i % 8))
  unfolding event_steps
  events_at moves d i l =
      ap (λ n. bit n i) (gathered_at 16 (λ d. matrix (λ q x. some (min moves 128) (λ w. move_by M d w q x))) d l)
      ∙ word_bits 64 (λ i. some (min moves 128) (λ w. move_by M d w (i / 8) (i % 8))) i
