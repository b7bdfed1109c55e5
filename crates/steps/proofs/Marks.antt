-- The events that a symbol shows, marked in two words, and their matrices, joined mark by mark. Assumes nothing.
use mathlib.Core.Bool.{Bool, true, false, cond, ◌&&◌, ◌||◌, and-true}
use mathlib.Core.List.{List}
use mathlib.Core.Logic.{◌⊎◌, inl, inr}
use mathlib.Core.Path.{◌≡◌, refl, sym, ap, ap₂, ◌∙◌, subst, subst⁻¹}
use Prim.Native.Nat.{ℕ, zero, suc, ◌+◌, ◌-◌, ◌*◌, ◌/◌, ◌%◌, ◌^◌, ◌<◌}
use native.Mathlib.Decide.{ℕ_discrete, dec_lt}
use native.Mathlib.Nat.{mul-div_cancel, zero-add}
use native.Mathlib.Numerals.{add-one}
use native.Mathlib.Omega.{arith}
use lib.Bits.{bit_and, bit_or}
use lib.Dec.{T, eqb, ltb, lit<, eqb→eq, eqb_refl}
use lib.ListN.{get_or}
use borrow.Author.Tests.{eq-eqb, ne_eqb, lt-ltb, le-ltb}
use Rattle.product.proofs.Lists.{and_left, and_right, both, or_left, or_right, or_cases, same_truth}
use Rattle.bits.specs.Bit.{bit, word}
use Rattle.bits.specs.Matrix.{some}
use Rattle.bits.specs.Ones.{Lowest}
use Rattle.bits.proofs.Bit.{bit_and_lem, bit_or_lem, bit_zero, bit_shl, bit_shl_below, bit_past}
use Rattle.bits.proofs.Set.{bit_pow}
use Rattle.bits.proofs.Some.{some_of, of_some, some_taken, some_none}
use Rattle.model.specs.Model.{shows_at}
use Rattle.lent.specs.Lending.{is_true}
use Rattle.steps.specs.Events.{marks, marked}
use Rattle.steps.proofs.Words.{same_bits, word_bits}
use Rattle.steps.proofs.Events.{or_false}
use Rattle.steps.proofs.Built.{Joined}

and_off : (a : Bool) → a && false ≡ false
and_off true = refl
and_off false = refl

-- of a byte that is placed in a word the lowest bit is its mark
abbrev lows : ℕ
lows = 72340172838076673

lows_bits : (i : ℕ) → bit lows i ≡ ltb i 64 && eqb (i % 8) 0
unfolding word
lows_bits i = word_bits 64 (λ i. eqb (i % 8) 0) i

module _ (b k : ℕ) (small : b < 256) (in-word : k < 8) where
  abbrev byte : ℕ
  byte = (b * 2 ^ (k * 8)) % 2 ^ 64

  lowest_bit : bit byte (k * 8) ≡ is_true b
  unfolding bit
  lowest_bit = ap (bit byte) (sym (zero-add (k * 8))) ∙ bit_shl b 64 (k * 8) 0 (omega arith)

  marked_bit : (i : ℕ) → Dec (i ≡ k * 8) → bit byte i && bit lows i ≡ bit (cond (is_true b) (2 ^ (k * 8)) 0) i
  marked_bit i (yes e) =
      ap₂ ◌&&◌ (ap (bit byte) e ∙ lowest_bit) (lows_bits i ∙ here) ∙ and-true (is_true b) ∙ sym (ap (bit (cond (is_true b) (2 ^ (k * 8)) 0)) e ∙ one (is_true b))
    where
      here : ltb i 64 && eqb (i % 8) 0 ≡ true
      here = rw (lt-ltb i 64 (omega arith), eq-eqb (i % 8) 0 (omega arith))

      one : (t : Bool) → bit (cond t (2 ^ (k * 8)) 0) (k * 8) ≡ t
      one true = bit_pow (k * 8) (k * 8) ∙ eq-eqb (k * 8) (k * 8) refl
      one false = bit_zero (k * 8)
  marked_bit i (no n) = none (dec_lt i (k * 8)) ∙ sym (off (is_true b))
    where
      off : (t : Bool) → bit (cond t (2 ^ (k * 8)) 0) i ≡ false
      off true = bit_pow (k * 8) i ∙ ne_eqb (k * 8) i (λ e. n (sym e))
      off false = bit_zero i

      past : ltb i 64 && eqb (i % 8) 0 ≡ false → bit byte i && bit lows i ≡ false
      past f = ap (λ c. bit byte i && c) (lows_bits i ∙ f) ∙ and_off (bit byte i)

      above : (d : ℕ) → i ≡ d + k * 8 → Dec (i < 64) → Dec (d < 8) → bit byte i && bit lows i ≡ false
      above d e (no l) y = past (rw (le-ltb i 64 (omega arith)))
      above d e (yes l) (no y) =
          ap (λ c. c && bit lows i) (ap (bit byte) e ∙ bit_shl b 64 (k * 8) d (omega arith) ∙ bit_past b 8 d small (omega arith))
      above d e (yes l) (yes y) = past (rw (lt-ltb i 64 l, ne_eqb (i % 8) 0 (omega arith)))

      none : Dec (i < k * 8) → bit byte i && bit lows i ≡ false
      none (yes l) = ap (λ c. c && bit lows i) (bit_shl_below b 64 (k * 8) i (omega arith) l)
      none (no l) = above (i - k * 8) (omega arith) (dec_lt i 64) (dec_lt (i - k * 8) 8)

  byte_mark : bit_and byte lows ≡ cond (is_true b) (2 ^ (k * 8)) 0
  byte_mark = same_bits (bit_and byte lows) (cond (is_true b) (2 ^ (k * 8)) 0) (λ i. bit_and_lem byte lows i ∙ marked_bit i (ℕ_discrete i (k * 8)))

and_either : (a b c : Bool) → (a || b) && c ≡ (a && c) || (b && c)
and_either true true true = refl
and_either true true false = refl
and_either true false true = refl
and_either true false false = refl
and_either false b c = refl

mark_or : (x y : ℕ) → bit_and (bit_or x y) lows ≡ bit_or (bit_and x lows) (bit_and y lows)
mark_or x y = same_bits (bit_and (bit_or x y) lows) (bit_or (bit_and x lows) (bit_and y lows)) λ i.
    bit_and_lem (bit_or x y) lows i ∙ ap (λ c. c && bit lows i) (bit_or_lem x y i) ∙ and_either (bit x i) (bit y i) (bit lows i)
    ∙ sym (bit_or_lem (bit_and x lows) (bit_and y lows) i ∙ ap₂ ◌||◌ (bit_and_lem x lows i) (bit_and_lem y lows i))

-- the truths before k are marked in the lowest bits of the bytes
module _ (shows : List Bool) (at : ℕ) where
  pub marks_none : bit_and 0 lows ≡ marks shows at 0
  unfolding marks
  marks_none = refl

  pub marks_more : (k b w x : ℕ) → k < 8 → b < 256 → bit_and w lows ≡ marks shows at k → x ≡ (b * 2 ^ (k * 8)) % 2 ^ 64 → is_true b ≡ get_or shows (at + k) false
      → bit_and (bit_or w x) lows ≡ marks shows at (k + 1)
  unfolding marks
  marks_more k b w x l small a e t =
      rw add-one
      (mark_or w x ∙ ap₂ bit_or a (ap (λ x. bit_and x lows) e ∙ byte_mark b k small l ∙ ap (λ c. cond c (2 ^ (k * 8)) 0) t))

  pub marks_all : (k w : ℕ) → k ≡ 8 → bit_and w lows ≡ marks shows at k → bit_and w lows ≡ marks shows at 8
  marks_all k w e h = h ∙ ap (marks shows at) e

  marks_bit : (n j : ℕ) → bit (marks shows at n) j ≡ some n (λ k. get_or shows (at + k) false && eqb (k * 8) j)
  unfolding marks
  marks_bit zero j = bit_zero j
  marks_bit (suc n) j = bit_or_lem (marks shows at n) (cond (get_or shows (at + n) false) (2 ^ (n * 8)) 0) j ∙ ap₂ ◌||◌ (marks_bit n j) (go (get_or shows (at + n) false))
    where
      go : (b : Bool) → bit (cond b (2 ^ (n * 8)) 0) j ≡ b && eqb (n * 8) j
      go true = bit_pow (n * 8) j
      go false = bit_zero j

-- a marked event is one whose truth is so
module _ (on : List ℕ) (shows : List Bool) (at first i : ℕ) where
  abbrev has : ℕ → Bool
  has k = bit (get_or on (first + k) 0) i

  abbrev so : ℕ → Bool
  so k = get_or shows (at + k) false

  eighth : (k : ℕ) → k * 8 / 8 ≡ k
  eighth k = mul-div_cancel k (lit< tt)

  to : T (some 64 (λ j. bit (marks shows at 8) j && has (j / 8))) → T (some 8 (λ k. so k && has k))
  to t =
      let (j, _, u) = of_some 64 (λ j. bit (marks shows at 8) j && has (j / 8)) t in
      let (k, l, v) = of_some 8 (λ k. so k && eqb (k * 8) j) (subst T (marks_bit shows at 8 j) (and_left (bit (marks shows at 8) j) (has (j / 8)) u)) in
      let e : k * 8 ≡ j = eqb→eq (k * 8) j (and_right (so k) (eqb (k * 8) j) v) in
      some_of 8 (λ k. so k && has k) k l
      (both (so k) (has k) (and_left (so k) (eqb (k * 8) j) v)
      (subst (λ n. T (has n)) (ap (λ n. n / 8) (sym e) ∙ eighth k) (and_right (bit (marks shows at 8) j) (has (j / 8)) u)))

  from : T (some 8 (λ k. so k && has k)) → T (some 64 (λ j. bit (marks shows at 8) j && has (j / 8)))
  from t =
      let (k, l, u) = of_some 8 (λ k. so k && has k) t in
      some_of 64 (λ j. bit (marks shows at 8) j && has (j / 8)) (k * 8) (omega arith)
      (both (bit (marks shows at 8) (k * 8)) (has (k * 8 / 8))
      (subst⁻¹ T (marks_bit shows at 8 (k * 8))
      (some_of 8 (λ m. so m && eqb (m * 8) (k * 8)) k l (both (so k) (eqb (k * 8) (k * 8)) (and_left (so k) (has k) u) (eqb_refl (k * 8)))))
      (subst⁻¹ (λ n. T (has n)) (eighth k) (and_right (so k) (has k) u)))

  marked_so : marked on first (marks shows at 8) i ≡ some 8 (λ k. so k && has k)
  unfolding marked
  marked_so = same_truth (some 64 (λ j. bit (marks shows at 8) j && has (j / 8))) (some 8 (λ k. so k && has k)) to from

-- mark by mark: what is left, with what is joined, makes what was asked
module _ (on : List ℕ) (first : ℕ) where
  abbrev pub Left : (w m d r : ℕ) → Type 0
  Left w m d r = (i : ℕ) → bit r i || marked on first d i ≡ bit m i || marked on first w i

  or_assoc : (a b c : Bool) → (a || b) || c ≡ a || (b || c)
  or_assoc true b c = refl
  or_assoc false b c = refl

  pub left_first : (w m : ℕ) → {d : ℕ} → d ≡ w → Left w m d m
  left_first w m e i = ap (λ d. bit m i || marked on first d i) e

  pub left_next : (w m d r : ℕ) → {j d' : ℕ} → Lowest d j d' → Left w m d r → Left w m d' (bit_or r (get_or on (first + j / 8) 0))
  unfolding marked
  left_next w m d r {j} {d'} t l i =
      let x : ℕ = get_or on (first + j / 8) 0 in
      ap (λ b. b || marked on first d' i) (bit_or_lem r x i)
      ∙ or_assoc (bit r i) (bit x i) (marked on first d' i)
      ∙ ap (λ b. bit r i || b) (sym (some_taken t (λ j. bit (get_or on (first + j / 8) 0) i)))
      ∙ l i

  pub left_last : (w m d r : ℕ) → d ≡ 0 → Left w m d r → (i : ℕ) → bit r i ≡ bit m i || marked on first w i
  unfolding marked
  left_last w m d r e l i =
      or_false (bit r i)
      ∙ ap (λ b. bit r i || b) (sym (ap (λ d. marked on first d i) e ∙ some_none 64 (λ j. bit (get_or on (first + j / 8) 0) i)))
      ∙ l i

-- event 0, and the marks of a symbol's two words, are the events that it shows
module _ (on : List ℕ) (shows : List Bool) (g i : ℕ) where
  abbrev f : ℕ → Bool
  f e = bit (get_or on e 0) i

  abbrev seen : ℕ → Bool
  seen e = shows_at shows g e && f e

  abbrev low : ℕ → Bool
  low k = get_or shows (g * 16 + k) false && f (0 + k)

  abbrev high : ℕ → Bool
  high k = get_or shows (g * 16 + 8 + k) false && f (8 + k)

  shown_of : T ((f 0 || some 8 low) || some 8 high) → T (some 16 seen)
  shown_of t = go (or_cases (f 0 || some 8 low) (some 8 high) t)
    where
      first : T (f 0) ⊎ T (some 8 low) → T (some 16 seen)
      first (inl t) = some_of 16 seen 0 (lit< tt) t
      first (inr t) =
          let (k, l, u) = of_some 8 low t in
          some_of 16 seen k (omega arith)
          (both (shows_at shows g k) (f k) (or_right (eqb k 0) (get_or shows (g * 16 + k) false) (and_left (get_or shows (g * 16 + k) false) (f (0 + k)) u))
          (subst (λ n. T (f n)) (zero-add k) (and_right (get_or shows (g * 16 + k) false) (f (0 + k)) u)))

      go : T (f 0 || some 8 low) ⊎ T (some 8 high) → T (some 16 seen)
      go (inl t) = first (or_cases (f 0) (some 8 low) t)
      go (inr t) =
          let (k, l, u) = of_some 8 high t in
          let e : g * 16 + 8 + k ≡ g * 16 + (8 + k) = omega arith in
          some_of 16 seen (8 + k) (omega arith)
          (both (shows_at shows g (8 + k)) (f (8 + k))
          (or_right (eqb (8 + k) 0) (get_or shows (g * 16 + (8 + k)) false) (subst (λ n. T (get_or shows n false)) e (and_left (get_or shows (g * 16 + 8 + k) false) (f (8 + k)) u)))
          (and_right (get_or shows (g * 16 + 8 + k) false) (f (8 + k)) u))

  of_shown : T (some 16 seen) → T ((f 0 || some 8 low) || some 8 high)
  of_shown t =
      let (e, l, u) = of_some 16 seen t in
      go e l (and_left (shows_at shows g e) (f e) u) (and_right (shows_at shows g e) (f e) u) (ℕ_discrete e 0) (dec_lt e 8)
    where
      go : (e : ℕ) → e < 16 → T (shows_at shows g e) → T (f e) → Dec (e ≡ 0) → Dec (e < 8) → T ((f 0 || some 8 low) || some 8 high)
      go e l s t (yes z) _ = or_left (f 0 || some 8 low) (some 8 high) (or_left (f 0) (some 8 low) (subst (λ n. T (f n)) z t))
      go e l s t (no z) (yes h) =
          or_left (f 0 || some 8 low) (some 8 high)
          (or_right (f 0) (some 8 low)
          (some_of 8 low e h
          (both (get_or shows (g * 16 + e) false) (f (0 + e)) (subst (λ b. T (b || get_or shows (g * 16 + e) false)) (ne_eqb e 0 z) s) (subst⁻¹ (λ n. T (f n)) (zero-add e) t))))
      go e l s t (no z) (no h) =
          let a : g * 16 + e ≡ g * 16 + 8 + (e - 8) = omega arith in
          let b : e ≡ 8 + (e - 8) = omega arith in
          or_right (f 0 || some 8 low) (some 8 high)
          (some_of 8 high (e - 8) (omega arith)
          (both (get_or shows (g * 16 + 8 + (e - 8)) false) (f (8 + (e - 8)))
          (subst (λ n. T (get_or shows n false)) a (subst (λ b. T (b || get_or shows (g * 16 + e) false)) (ne_eqb e 0 z) s))
          (subst (λ n. T (f n)) b t)))

  shown_is : (f 0 || some 8 low) || some 8 high ≡ some 16 seen
  shown_is = same_truth ((f 0 || some 8 low) || some 8 high) (some 16 seen) shown_of of_shown

pub joined_shown : (on : List ℕ) (shows : List Bool) (g : ℕ) {v w : ℕ} (m r : ℕ) → v ≡ marks shows (g * 16) 8 → w ≡ marks shows (g * 16 + 8) 8
    → ((i : ℕ) → bit m i ≡ bit (get_or on 0 0) i || marked on 0 v i) → ((i : ℕ) → bit r i ≡ bit m i || marked on 8 w i) → Joined on shows g 16 r
joined_shown on shows g m r a b first second i =
    second i
    ∙ ap₂ ◌||◌ (first i ∙ ap (λ z. bit (get_or on 0 0) i || z) (ap (λ v. marked on 0 v i) a ∙ marked_so on shows (g * 16) 0 i))
    (ap (λ w. marked on 8 w i) b ∙ marked_so on shows (g * 16 + 8) 8 i)
    ∙ shown_is on shows g i
