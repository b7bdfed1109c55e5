-- The line that a text begins with, by the place of its first tab or line feed: the bytes a and b here. Assumes nothing.
use mathlib.Core.Path.{◌≡◌, refl, ap, sym, ◌∙◌}
use mathlib.Core.Bool.{Bool, true, false, ◌||◌}
use mathlib.Core.List.{List, [], ◌∷◌}
use Prim.Native.Nat.{ℕ, zero, suc, ◌+◌, ◌<◌, ◌≤◌}
use native.Mathlib.Nat.{not-suc-le-zero, le_of_suc-le-suc}
use native.Mathlib.Omega.{arith}
use lib.Dec.{eqb, ltb}
use lib.ListN.{length, get_or, drop, length-drop, get_or-eq_default}
use lib.Seq.{get_or-take}
use borrow.Author.Tests.{eq-eqb, ne_eqb, eqb-true, eqb-false, ltb-true, ltb-false}
use Rattle.text.specs.Split.{pick, first, later, split}
use Rattle.text.proofs.Lists.{tail_part}
use Rattle.text.proofs.Split.{first_at, first_next, first_end, first_take, place_within, no_later, later_after, after}

-- an element that is there, whatever stands for those that are not
pub there : (s : List ℕ) (i d k : ℕ) → i < length s → get_or s i d ≡ get_or s i k
there [] i d k h = absurd (not-suc-le-zero h)
there (x ∷ s) zero d k h = refl
there (x ∷ s) (suc i) d k h = there s i d k (le_of_suc-le-suc h)

-- how the piece before the first a or b goes on at i
module _ (a b : ℕ) (s : List ℕ) (i : ℕ) where
  pub either_b : i < length s → get_or s i 0 ≡ b → first a (first b (drop i s)) ≡ []
  unfolding first
  either_b h e = rw (first_at b s i h e)

  pub either_a : i < length s → get_or s i 0 ≡ a → first a (first b (drop i s)) ≡ []
  unfolding first
  either_a h e = go (eqb (get_or s i 0) b) refl
    where
      go : (t : Bool) → eqb (get_or s i 0) b ≡ t → first a (first b (drop i s)) ≡ []
      go true k = either_b h (eqb-true _ _ k)
      go false k = rw (first_next b s i h (eqb-false _ _ k), eq-eqb _ _ e)

  pub either_next : i < length s → (get_or s i 0 ≡ a → ⊥) → (get_or s i 0 ≡ b → ⊥) → first a (first b (drop i s)) ≡ get_or s i 0 ∷ first a (first b (drop (i + 1) s))
  unfolding first
  either_next h e k = rw (first_next b s i h k, ne_eqb _ _ e)

  pub either_end : length s ≤ i → first a (first b (drop i s)) ≡ []
  unfolding first
  either_end h = rw (first_end b s i h)

  -- it ends at i, by the byte there; past the end there stands a b
  pub either_stop : (eqb (get_or s i b) a || eqb (get_or s i b) b) ≡ eqb (length (first a (first b (drop i s)))) 0
  either_stop = go (ltb i (length s)) (eqb (get_or s i 0) a) (eqb (get_or s i 0) b) refl refl refl
    where
      left : (x y : Bool) → y ≡ true → (x || y) ≡ true
      left true y e = refl
      left false y e = e

      go : (x y z : Bool) → ltb i (length s) ≡ x → eqb (get_or s i 0) a ≡ y → eqb (get_or s i 0) b ≡ z
          → (eqb (get_or s i b) a || eqb (get_or s i b) b) ≡ eqb (length (first a (first b (drop i s)))) 0
      go false y z p q r =
          left (eqb (get_or s i b) a) (eqb (get_or s i b) b) (eq-eqb _ _ (get_or-eq_default s b (ltb-false _ _ p)))
          ∙ sym (eq-eqb _ 0 (ap length (either_end (ltb-false _ _ p))))
      go true true z p q r = rw (there s i b 0 (ltb-true _ _ p), q) (sym (eq-eqb _ 0 (ap length (either_a (ltb-true _ _ p) (eqb-true _ _ q)))))
      go true false true p q r = rw (there s i b 0 (ltb-true _ _ p), q, r) (sym (eq-eqb _ 0 (ap length (either_b (ltb-true _ _ p) (eqb-true _ _ r)))))
      go true false false p q r =
          rw (there s i b 0 (ltb-true _ _ p), q, r)
          (sym (ne_eqb _ 0 (λ k. let z = sym (ap length (either_next (ltb-true _ _ p) (eqb-false _ _ q) (eqb-false _ _ r))) ∙ k in omega arith)))

-- the byte at the end of the first piece, and what is left of the piece at i
first_stop : (c : ℕ) (s : List ℕ) → length (first c s) < length s → get_or s (length (first c s)) 0 ≡ c
unfolding first
first_stop c [] h = absurd (not-suc-le-zero h)
first_stop c (x ∷ s) h = go (first_stop c s) (eqb x c) refl h
  where
    go : (length (first c s) < length s → get_or s (length (first c s)) 0 ≡ c) → (t : Bool) → eqb x c ≡ t
        → length (pick t [] (x ∷ first c s)) < suc (length s) → get_or (x ∷ s) (length (pick t [] (x ∷ first c s))) 0 ≡ c
    go more true e h = eqb-true x c e
    go more false e h = more (le_of_suc-le-suc h)

first_drop : (c : ℕ) (s : List ℕ) (i : ℕ) → i ≤ length (first c s) → drop i (first c s) ≡ first c (drop i s)
unfolding first
first_drop c s zero h = refl
first_drop c [] (suc i) h = absurd (not-suc-le-zero h)
first_drop c (x ∷ s) (suc i) h = go (first_drop c s i) (eqb x c) h
  where
    go : (i ≤ length (first c s) → drop i (first c s) ≡ first c (drop i s)) → (t : Bool)
        → suc i ≤ length (pick t [] (x ∷ first c s)) → drop (suc i) (pick t [] (x ∷ first c s)) ≡ first c (drop i s)
    go more true h = absurd (not-suc-le-zero h)
    go more false h = more (le_of_suc-le-suc h)

-- the line up to the first b, by the place e of the first a or b; past the end there stands a b
module _ (a b : ℕ) (s : List ℕ) {e : ℕ} (f : e ≡ length (first a (first b s))) where
  pub at_a : e < length (first b s) → get_or s e 0 ≡ a
  at_a h =
      sym (get_or-take (length (first b s)) s e 0 h)
      ∙ ap (λ l. get_or l e 0) (first_take b s)
      ∙ rw f (first_stop a (first b s) (rw f at h))

  pub line_end : (a ≡ b → ⊥) → get_or s e b ≡ b → length (first b s) ≡ e
  line_end n g = go (ltb e (length (first b s))) refl
    where
      go : (t : Bool) → ltb e (length (first b s)) ≡ t → length (first b s) ≡ e
      go false l = omega (arith, ltb-false e (length (first b s)) l, place_within a (first b s) f)
      go true l =
          let h : e < length (first b s) = ltb-true _ _ l in
          absurd (n (sym (at_a h) ∙ there s e 0 b (omega (arith, place_within b s refl)) ∙ g))

  pub line_on : (get_or s e b ≡ b → ⊥) → e < length (first b s)
  line_on n = go (ltb e (length (first b s))) refl
    where
      past : length (first b s) ≤ e → (t : Bool) → ltb e (length s) ≡ t → get_or s e b ≡ b
      past h false k = get_or-eq_default s b (ltb-false _ _ k)
      past h true k =
          let l : e < length s = ltb-true _ _ k in
          let q : length (first b s) ≡ e = omega (arith, place_within a (first b s) f) in
          there s e b 0 l ∙ rw (← q) (first_stop b s (rw (← q) at l))

      go : (t : Bool) → ltb e (length (first b s)) ≡ t → e < length (first b s)
      go true l = ltb-true _ _ l
      go false l = absurd (n (past (ltb-false _ _ l) (ltb e (length s)) refl))

  pub no_fields : length (first b s) ≡ e → later a (first b s) ≡ []
  no_fields h = no_later a (first b s) f (omega arith)

  module _ (h : e < length (first b s)) where
    rest : drop (e + 1) (first b s) ≡ first b (after e s)
    rest = first_drop b s (e + 1) (omega arith) ∙ ap (first b) (sym (tail_part s (e + 1)))

    pub fields_after : later a (first b s) ≡ split a (first b (after e s))
    fields_after = later_after a (first b s) f h ∙ ap (split a) (tail_part (first b s) (e + 1) ∙ rest)

    pub end_after : e + 1 + length (first b (after e s)) ≡ length (first b s)
    end_after = omega (arith, ap length rest, length-drop (e + 1) (first b s))

    pub place_inside : e < length s
    place_inside = omega (arith, place_within b s refl)
