-- Members of sets: put in, taken out, joined; and what some member passes. Assumes nothing.
use Rattle.std.specs.Prelude.{Option, Some, None}
use mathlib.Core.Bool.{Bool, true, false, not, ◌&&◌, ◌||◌}
use mathlib.Core.List.{List, [], ◌∷◌}
use mathlib.Core.Logic.{◌⊎◌, inl, inr}
use mathlib.Core.Path.{◌≡◌, refl, sym, ap, ap₂, ◌∙◌, subst, subst⁻¹}
use Prim.Native.Nat.{ℕ, zero, suc, ◌+◌, ◌*◌, ◌/◌, ◌%◌, ◌^◌, ◌<◌, ◌≤◌}
use native.Mathlib.Nat.{div-add-mod', mod-lt, zero-lt-suc, div-lt_iff_lt-mul}
use native.Mathlib.Omega.{arith}
use native.Mathlib.Decide.{ℕ_discrete, dec_lt}
use lib.Arith.{digits_div, digits_mod}
use lib.Bits.{bit_or}
use lib.Dec.{T, eqb, eqb→eq}
use lib.ListN.{length, length-set, get_or, set}
use lib.Seq.{get_or-set_same, get_or-set_other}
use borrow.Author.Tests.{eq-eqb, ne_eqb}
use Rattle.product.specs.Lists.{any, up_to}
use Rattle.product.proofs.Lists
use Rattle.product.proofs.Lists.{and_left, and_right, both, or_left, or_right, or_cases, any_of, same_truth, in_up_to, up_to_lt}
use Rattle.bits.specs.Bit.{bit}
use Rattle.bits.proofs.Bit.{bit_or_lem, bit_zero}
use Rattle.bits.proofs.Set.{bit_set}
use Rattle.bits.specs.Ones.{Lowest}
use Rattle.bits.proofs.Lowest.{cleared_less}
use Rattle.bits.proofs.Some.{some_of, of_some, bit_taken, bits_left}
use Rattle.decide.specs.Sets.{member, chosen, among, With, weight, Taken, PickedIn, Picked, Joined, Put}

sixty_four : 0 < 64
sixty_four = zero-lt-suc 63

pub or_false : (b : Bool) → b ≡ b || false
or_false true = refl
or_false false = refl

and_true : (b : Bool) → b ≡ b && true
and_true true = refl
and_true false = refl

-- two numbers with the same word are the same exactly if their places in it are
place : (r r' : ℕ) → r / 64 ≡ r' / 64 → eqb (r % 64) (r' % 64) ≡ eqb r r'
place r r' b = same_truth (eqb (r % 64) (r' % 64)) (eqb r r')
    (λ t. subst⁻¹ T (eq-eqb r r' (sym (div-add-mod' r 64) ∙ ap₂ (λ d m. d * 64 + m) b (eqb→eq (r % 64) (r' % 64) t) ∙ div-add-mod' r' 64)) tt)
    (λ t. subst⁻¹ T (eq-eqb (r % 64) (r' % 64) (ap (λ n. n % 64) (eqb→eq r r' t))) tt)

flip : (a b : ℕ) → eqb a b ≡ eqb b a
flip a b = same_truth (eqb a b) (eqb b a) (λ t. subst⁻¹ T (eq-eqb b a (sym (eqb→eq a b t))) tt) (λ t. subst⁻¹ T (eq-eqb a b (sym (eqb→eq b a t))) tt)

apart : (r r' : ℕ) → (r / 64 ≡ r' / 64 → ⊥) → eqb r r' ≡ false
apart r r' h = ne_eqb r r' (λ e. h (ap (λ n. n / 64) e))

pub word_of : (c : ℕ) → c < 256 → c / 64 < 4
word_of c h = (div-lt_iff_lt-mul sixty_four).1 (omega arith)

-- a word of the set is another
module _ (w : List ℕ) (k n : ℕ) (l : k < length w) where
  other_word : (x : ℕ) → (k ≡ x / 64 → ⊥) → chosen (set w k n) x ≡ chosen w x
  unfolding chosen
  other_word x h = ap (λ m. bit m (x % 64)) (get_or-set_other w k (x / 64) n 0 (λ y. h (sym y)))

  same_word : (x : ℕ) → k ≡ x / 64 → chosen (set w k n) x ≡ bit n (x % 64)
  unfolding chosen
  same_word x e = ap (λ m. bit m (x % 64)) (ap (λ i. get_or (set w k n) i 0) (sym e) ∙ get_or-set_same w k n 0 l)

pub with_is : (w : List ℕ) (c : ℕ) → length w ≡ 4 → c < 256 → With w c (set w (c / 64) (bit_or (get_or w (c / 64) 0) ((1 * 2 ^ (c % 64)) % 2 ^ 64)))
unfolding chosen
with_is w c long h = record { long = length-set w (c / 64) new ∙ long; is = λ x. at x (ℕ_discrete (c / 64) (x / 64)) }
  where
    new : ℕ
    new = bit_or (get_or w (c / 64) 0) ((1 * 2 ^ (c % 64)) % 2 ^ 64)

    in_w : c / 64 < length w
    in_w = omega (arith, word_of c h)

    at : (x : ℕ) → Dec (c / 64 ≡ x / 64) → chosen (set w (c / 64) (bit_or (get_or w (c / 64) 0) ((1 * 2 ^ (c % 64)) % 2 ^ 64))) x ≡ chosen w x || eqb c x
    at x (yes y) =
        same_word w (c / 64) new in_w x y ∙ bit_set (get_or w (c / 64) 0) 64 (c % 64) (x % 64) (mod-lt c sixty_four)
        ∙ ap₂ (λ n b. bit (get_or w n 0) (x % 64) || b) y (place c x y)
    at x (no y) = other_word w (c / 64) new in_w x y ∙ or_false (chosen w x) ∙ ap (λ b. chosen w x || b) (sym (apart c x y))

-- the lowest of the first word that is not empty
module _ (w : List ℕ) (k : ℕ) (long : length w ≡ 4) (k-in : k < 4) {d i d' : ℕ} (t : Lowest d i d') (d-is : get_or w k 0 ≡ d) where
  abbrev r : ℕ
  r = k * 64 + i

  word_is : r / 64 ≡ k
  word_is = digits_div k t.below

  place_is : r % 64 ≡ i
  place_is = digits_mod k t.below

  pub taken : Taken w (k * 64 + i) (set w k d')
  unfolding chosen
  taken = record {
    small = omega (arith, t.below);
    long = length-set w k d' ∙ long;
    there = is_there;
    less = lighter k k-in d-is;
    rest = λ x. at x (ℕ_discrete k (x / 64));
  }
    where
      is_there : T (chosen w r)
      is_there = subst⁻¹ T (ap₂ (λ i j. bit (get_or w i 0) j) word_is place_is ∙ ap (λ n. bit n i) d-is) (bit_taken t)

      fewer : d' < d
      fewer = rw t.others (cleared_less d t.some_left)

      other : (k i n : ℕ) → (i ≡ k → ⊥) → get_or (set w k n) i 0 ≡ get_or w i 0
      other k i n h = get_or-set_other w k i n 0 h

      own : (k n : ℕ) → k < 4 → get_or (set w k n) k 0 ≡ n
      own k n h = get_or-set_same w k n 0 (omega (arith, long))

      lighter : (k : ℕ) → k < 4 → get_or w k 0 ≡ d → weight (set w k d') < weight w
      lighter zero h e = let n = d' in omega (arith, fewer, own 0 n h, other 0 1 n (λ y. omega arith), other 0 2 n (λ y. omega arith), other 0 3 n (λ y. omega arith))
      lighter (suc zero) h e = let n = d' in omega (arith, fewer, own 1 n h, other 1 0 n (λ y. omega arith), other 1 2 n (λ y. omega arith), other 1 3 n (λ y. omega arith))
      lighter (suc (suc zero)) h e = let n = d' in omega (arith, fewer, own 2 n h, other 2 0 n (λ y. omega arith), other 2 1 n (λ y. omega arith), other 2 3 n (λ y. omega arith))
      lighter (suc (suc (suc zero))) h e = let n = d' in omega (arith, fewer, own 3 n h, other 3 0 n (λ y. omega arith), other 3 1 n (λ y. omega arith), other 3 2 n (λ y. omega arith))
      lighter (suc (suc (suc (suc k)))) h e = absurd (omega arith)

      at : (x : ℕ) → Dec (k ≡ x / 64) → chosen (set w k d') x ≡ chosen w x && not (eqb x r)
      at x (yes y) =
          same_word w k d' (omega (arith, long)) x y ∙ bits_left t (x % 64)
          ∙ ap₂ (λ n b. bit n (x % 64) && not b) (sym d-is ∙ ap (λ i. get_or w i 0) y)
          (ap (eqb (x % 64)) (sym place_is) ∙ place x r (sym y ∙ sym word_is))
      at x (no y) =
          other_word w k d' (omega (arith, long)) x y
          ∙ and_true (chosen w x) ∙ ap (λ b. chosen w x && not b) (sym (apart x r (λ e. y (sym word_is ∙ sym e))))

-- no word is left
none_left : (w : List ℕ) → length w ≡ 4 → ((k : ℕ) → k < 4 → get_or w k 0 ≡ 0) → (x : ℕ) → chosen w x ≡ false
unfolding chosen
none_left w long word x = at x (dec_lt (x / 64) 4)
  where
    at : (x : ℕ) → Dec (x / 64 < 4) → chosen w x ≡ false
    at x (yes l) = ap (λ n. bit n (x % 64)) (word (x / 64) l) ∙ bit_zero (x % 64)
    at x (no l) = ap (λ n. bit n (x % 64)) (past w (x / 64) (omega (arith, long))) ∙ bit_zero (x % 64)
      where
        past : (w : List ℕ) (i : ℕ) → length w ≤ i → get_or w i 0 ≡ 0
        past [] i h = refl
        past (a ∷ w) zero h = absurd (omega arith)
        past (a ∷ w) (suc i) h = past w i (omega arith)

-- word after word: the set is as it was, and the first k words are empty
pub record Passed (w₀ : List ℕ) (k : ℕ) (w : List ℕ) : Type 0 where
  pub same : w ≡ w₀
  pub empty : (j : ℕ) → j < k → get_or w₀ j 0 ≡ 0

module _ {w₀ : List ℕ} where
  pub passed_first : Passed w₀ 0 w₀
  passed_first = record { same = refl; empty = λ j h. absurd (omega arith) }

  module _ {k : ℕ} {w : List ℕ} (p : Passed w₀ k w) where
    pub passed_next : {w' : List ℕ} → (w' ≡ w) × (get_or w k 0 ≡ 0) → Passed w₀ (suc k) w'
    passed_next (s, z) = record { same = s ∙ p.same; empty = λ j h. at j h (ℕ_discrete j k) z }
      where
        at : (j : ℕ) → j < suc k → Dec (j ≡ k) → get_or w k 0 ≡ 0 → get_or w₀ j 0 ≡ 0
        at j h (yes e) z = ap (λ j. get_or w₀ j 0) e ∙ ap (λ w. get_or w k 0) (sym p.same) ∙ z
        at j h (no e) z = p.empty j (omega arith)

    pub passed_pick : {r : ℕ} {w' : List ℕ} → Taken w r w' → Taken w₀ r w'
    passed_pick {r} {w'} = subst (λ w. Taken w r w') p.same

  -- the last word
  pub passed_last : {w : List ℕ} (w' : List ℕ) (o : Option ℕ) → length w₀ ≡ 4 → Passed w₀ 3 w → PickedIn w 3 o w' → Picked w₀ o w'
  passed_last w' (Some i) n p t = passed_pick p t
  passed_last w' None n p t = let q = passed_next p t in none_left w₀ n (λ j l. q.empty j (omega arith))

-- a set joined with set number s, word by word: the first k are done
pub record JoinedTo (w l : List ℕ) (s k : ℕ) (w' : List ℕ) : Type 0 where
  pub few : k ≤ 4
  pub long : length w' ≡ 4
  pub done : (j : ℕ) → j < k → get_or w' j 0 ≡ bit_or (get_or w j 0) (get_or l (s * 4 + j) 0)
  pub same : (j : ℕ) → k ≤ j → get_or w' j 0 ≡ get_or w j 0

module _ {w l : List ℕ} {s : ℕ} where
  pub joined_none : length w ≡ 4 → JoinedTo w l s 0 w
  joined_none n = record { few = omega arith; long = n; done = λ j h. absurd (omega arith); same = λ j h. refl }

  pub joined_more : {k : ℕ} {w' : List ℕ} → k < 4 → JoinedTo w l s k w' → JoinedTo w l s (k + 1) (set w' k (bit_or (get_or w' k 0) (get_or l (s * 4 + k) 0)))
  joined_more {k} {w'} h a = record {
    few = omega arith;
    long = length-set w' k (bit_or (get_or w' k 0) (get_or l (s * 4 + k) 0)) ∙ a.long;
    done = λ j i. at j i (ℕ_discrete j k);
    same = λ j i. get_or-set_other w' k j (bit_or (get_or w' k 0) (get_or l (s * 4 + k) 0)) 0 (λ e. omega arith) ∙ a.same j (omega arith);
  }
    where
      at : (j : ℕ) → j < k + 1 → Dec (j ≡ k) → get_or (set w' k (bit_or (get_or w' k 0) (get_or l (s * 4 + k) 0))) j 0 ≡ bit_or (get_or w j 0) (get_or l (s * 4 + j) 0)
      at j i (yes e) =
          subst⁻¹ (λ j. get_or (set w' k (bit_or (get_or w' k 0) (get_or l (s * 4 + k) 0))) j 0 ≡ bit_or (get_or w j 0) (get_or l (s * 4 + j) 0)) e
          (get_or-set_same w' k (bit_or (get_or w' k 0) (get_or l (s * 4 + k) 0)) 0 (omega (arith, a.long)) ∙ ap (λ n. bit_or n (get_or l (s * 4 + k) 0)) (a.same k (omega arith)))
      at j i (no e) = get_or-set_other w' k j (bit_or (get_or w' k 0) (get_or l (s * 4 + k) 0)) 0 e ∙ a.done j (omega arith)

  pub joined_all : {k : ℕ} {w' : List ℕ} → 4 ≤ k → JoinedTo w l s k w' → Joined w l s w'
  unfolding chosen member
  joined_all {k} {w'} h a = record {
    long = a.long;
    is = λ x i.
        ap (λ n. bit n (x % 64)) (a.done (x / 64) (omega (arith, word_of x i)))
        ∙ bit_or_lem (get_or w (x / 64) 0) (get_or l (s * 4 + x / 64) 0) (x % 64);
  }

pub put_is : (l : List ℕ) (s r : ℕ) → length l ≡ 384 → s < 96 → r < 256
    → Put l s r (set l (s * 4 + r / 64) (bit_or (get_or l (s * 4 + r / 64) 0) ((1 * 2 ^ (r % 64)) % 2 ^ 64)))
unfolding member
put_is l s r long hs hr = record { long = length-set l (s * 4 + r / 64) new ∙ long; is = λ s' x h. at s' x h (ℕ_discrete (s * 4 + r / 64) (s' * 4 + x / 64)) }
  where
    new : ℕ
    new = bit_or (get_or l (s * 4 + r / 64) 0) ((1 * 2 ^ (r % 64)) % 2 ^ 64)

    in_l : s * 4 + r / 64 < length l
    in_l = omega (arith, word_of r hr)

    at : (s' x : ℕ) → x < 256 → Dec (s * 4 + r / 64 ≡ s' * 4 + x / 64)
        → member (set l (s * 4 + r / 64) (bit_or (get_or l (s * 4 + r / 64) 0) ((1 * 2 ^ (r % 64)) % 2 ^ 64))) s' x ≡ member l s' x || (eqb s s' && eqb r x)
    at s' x h (yes y) =
        let a : s ≡ s' = sym (digits_div s (word_of r hr)) ∙ ap (λ n. n / 4) y ∙ digits_div s' (word_of x h) in
        let b : r / 64 ≡ x / 64 = sym (digits_mod s (word_of r hr)) ∙ ap (λ n. n % 4) y ∙ digits_mod s' (word_of x h) in
        ap (λ n. bit (get_or (set l (s * 4 + r / 64) new) n 0) (x % 64)) (sym y)
        ∙ ap (λ n. bit n (x % 64)) (get_or-set_same l (s * 4 + r / 64) new 0 in_l)
        ∙ bit_set (get_or l (s * 4 + r / 64) 0) 64 (r % 64) (x % 64) (mod-lt r sixty_four)
        ∙ ap₂ (λ n c. bit (get_or l n 0) (x % 64) || c) y (place r x b ∙ ap (λ c. c && eqb r x) (sym (eq-eqb s s' a)))
    at s' x h (no y) =
        ap (λ n. bit n (x % 64)) (get_or-set_other l (s * 4 + r / 64) (s' * 4 + x / 64) new 0 (λ z. y (sym z)))
        ∙ or_false (member l s' x) ∙ ap (λ c. member l s' x || c) (sym (none (eqb s s' && eqb r x) refl))
      where
        none : (c : Bool) → eqb s s' && eqb r x ≡ c → eqb s s' && eqb r x ≡ false
        none false e = e
        none true e =
            let t : T (eqb s s' && eqb r x) = subst⁻¹ T e tt in
            absurd (y (ap₂ (λ a b. a * 4 + b / 64) (eqb→eq s s' (and_left (eqb s s') (eqb r x) t)) (eqb→eq r x (and_right (eqb s s') (eqb r x) t))))

-- some member passes
pub among_of : (w : List ℕ) (f : ℕ → Bool) (r : ℕ) → r < 256 → T (chosen w r) → T (f r) → T (among w f)
unfolding among
among_of w f r h a b = some_of 256 (λ r. chosen w r && f r) r h (both (chosen w r) (f r) a b)

pub of_among : (w : List ℕ) (f : ℕ → Bool) → T (among w f) → (r : ℕ) × (r < 256) × T (chosen w r) × T (f r)
unfolding among
of_among w f t = let (r, h, u) = of_some 256 (λ r. chosen w r && f r) t in (r, h, and_left (chosen w r) (f r) u, and_right (chosen w r) (f r) u)

module _ (w : List ℕ) (f : ℕ → Bool) where
  -- the member that was picked, and the others
  pub among_picked : {r : ℕ} {w' : List ℕ} → Taken w r w' → among w f ≡ f r || among w' f
  among_picked {r} {w'} p = same_truth (among w f) (f r || among w' f) to from
    where
      to : T (among w f) → T (f r || among w' f)
      to t = let (x, l, a, b) = of_among w f t in go x l a b (ℕ_discrete x r)
        where
          go : (x : ℕ) → x < 256 → T (chosen w x) → T (f x) → Dec (x ≡ r) → T (f r || among w' f)
          go x l a b (yes e) = or_left (f r) (among w' f) (subst (λ x. T (f x)) e b)
          go x l a b (no e) = or_right (f r) (among w' f) (among_of w' f x l (subst⁻¹ T (p.rest x) (both (chosen w x) (not (eqb x r)) a (rw (ne_eqb x r e) tt))) b)

      from : T (f r || among w' f) → T (among w f)
      from t = go (or_cases (f r) (among w' f) t)
        where
          go : T (f r) ⊎ T (among w' f) → T (among w f)
          go (inl u) = among_of w f r p.small p.there u
          go (inr u) =
              let (x, l, a, b) = of_among w' f u in
              among_of w f x l (and_left (chosen w x) (not (eqb x r)) (subst T (p.rest x) a)) b

  -- and where there is none
  pub among_none : ((x : ℕ) → chosen w x ≡ false) → among w f ≡ false
  among_none h = same_truth (among w f) false (λ t. let (x, _, a, _) = of_among w f t in subst T (h x) a) (λ t. absurd t)

  -- by the numbers below n, where the set has no others
  pub among_any : (n : ℕ) → n ≤ 256 → ((r : ℕ) → T (chosen w r) → r < n) → among w f ≡ any (λ r. chosen w r && f r) (up_to n)
  among_any n few only = same_truth (among w f) (any (λ r. chosen w r && f r) (up_to n)) to from
    where
      to : T (among w f) → T (any (λ r. chosen w r && f r) (up_to n))
      to t = let (r, _, a, b) = of_among w f t in any_of (λ r. chosen w r && f r) (up_to n) r (in_up_to n r (only r a)) (both (chosen w r) (f r) a b)

      from : T (any (λ r. chosen w r && f r) (up_to n)) → T (among w f)
      from t =
          let (r, i, u) = Lists.some_of (λ r. chosen w r && f r) (up_to n) t in
          let l = up_to_lt n r i in
          among_of w f r (omega arith) (and_left (chosen w r) (f r) u) (and_right (chosen w r) (f r) u)

pub positive : (n : ℕ) → (n ≡ 0 → ⊥) → 0 < n
positive zero h = absurd (h refl)
positive (suc n) h = zero-lt-suc n
