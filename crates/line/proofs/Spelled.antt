-- A text that begins with a word and a tab has the word for its first field. Assumes nothing.
use mathlib.Core.Path.{◌≡◌, refl, ap, sym, ◌∙◌}
use mathlib.Core.Bool.{Bool, true, false, not, ◌&&◌, ◌||◌}
use mathlib.Core.List.{List, [], ◌∷◌}
use Prim.Native.Nat.{ℕ, suc, ◌<◌, ◌≤◌}
use native.Mathlib.Omega.{arith}
use lib.Dec.{T, eqb, ltb}
use lib.ListN.{length, get_or, take, get_or-eq_default}
use borrow.Author.Tests.{eq-eqb, ne_eqb, eqb-true, ltb-true, ltb-false}
use Rattle.text.specs.Split.{pick, first, same_bytes, without}
use Rattle.text.proofs.Bytes.{same_equal}
use Rattle.text.proofs.Stops.{there, either_stop, at_a}
use Rattle.numbers.specs.Field.{field}
use Rattle.line.specs.Line.{spells}

-- by the byte behind the word
module _ (s w : List ℕ) where
  pub too_short : length s ≤ length w → false ≡ spells s w
  too_short h = rw (get_or-eq_default s 0 h)

  pub no_tab : (get_or s (length w) 0 ≡ 9 → ⊥) → false ≡ spells s w
  no_tab h = rw (ne_eqb _ _ h)

  pub tabbed : get_or s (length w) 0 ≡ 9 → same_bytes (take (length w) s) w ≡ spells s w
  tabbed h = rw (eq-eqb _ _ h)

-- a field ends before a tab or a line feed; past the end there stands a line feed
abbrev stop : ℕ → Bool
stop b = eqb b 9 || eqb b 10

empty_same : (f : List ℕ) → same_bytes f [] ≡ eqb (length f) 0
unfolding same_bytes
empty_same [] = refl
empty_same (b ∷ f) = sym (ne_eqb (suc (length f)) 0 (λ e. omega arith))

and_true : (b : Bool) → (b && true) ≡ b
and_true true = refl
and_true false = refl

and_false : (b : Bool) → (b && false) ≡ false
and_false true = refl
and_false false = refl

-- a word, which has no tab and no line feed, is the first field if a field ends behind it
spelled : (s w : List ℕ) → T (without 9 w) → T (without 10 w) → (stop (get_or s (length w) 10) && same_bytes (take (length w) s) w) ≡ same_bytes (field s) w
unfolding same_bytes first without
spelled s [] p q = and_true (stop (get_or s 0 10)) ∙ either_stop 9 10 s 0 ∙ sym (empty_same (field s))
spelled [] (b ∷ w) p q = refl
spelled (a ∷ s) (b ∷ w) p q = go (spelled s w) (eqb a b) refl p q
  where
    -- the byte is another
    other : eqb a b ≡ false → (y z : Bool) → eqb a 9 ≡ y → same_bytes (first 9 (pick z [] (a ∷ first 10 s))) (b ∷ w) ≡ false
    other e y true k = refl
    other e true false k = rw k
    other e false false k = rw (k, e)

    go : (T (without 9 w) → T (without 10 w) → (stop (get_or s (length w) 10) && same_bytes (take (length w) s) w) ≡ same_bytes (field s) w) → (x : Bool) → eqb a b ≡ x → T (without 9 (b ∷ w)) → T (without 10 (b ∷ w))
        → (stop (get_or s (length w) 10) && pick x (same_bytes (take (length w) s) w) false) ≡ same_bytes (field (a ∷ s)) (b ∷ w)
    go more false e p q = and_false (stop (get_or s (length w) 10)) ∙ sym (other e (eqb a 9) (eqb a 10) refl)
    go more true e p q = same (eqb a 9) (eqb a 10) refl refl (rw (← eqb-true a b e) at p) (rw (← eqb-true a b e) at q)
      where
        same : (y z : Bool) → eqb a 9 ≡ y → eqb a 10 ≡ z → T (not y && without 9 w) → T (not z && without 10 w)
            → (stop (get_or s (length w) 10) && same_bytes (take (length w) s) w) ≡ same_bytes (first 9 (pick z [] (a ∷ first 10 s))) (b ∷ w)
        same false false k l p q = rw (k, e) (more p q)
        same false true k l p q = elim q [ ]
        same true z k l p q = elim p [ ]

-- what the answer tells of the fields of the line
module _ (s w : List ℕ) (p : T (without 9 w)) (q : T (without 10 w)) {b : Bool} (e : b ≡ spells s w) where
  pub begins : b ≡ true → (field s ≡ w) × (get_or s (length w) 10 ≡ 9)
  begins h = go (eqb (get_or s (length w) 0) 9) refl (sym e ∙ h)
    where
      go : (t : Bool) → eqb (get_or s (length w) 0) 9 ≡ t → (t && same_bytes (take (length w) s) w) ≡ true → (field s ≡ w) × (get_or s (length w) 10 ≡ 9)
      go true k same =
          let tab : get_or s (length w) 10 ≡ 9 = there s (length w) 10 0 (inside k) ∙ eqb-true _ _ k in
          (same_equal (field s) w (sym (spelled s w p q) ∙ rw (tab, same)), tab)
        where
          inside : eqb (get_or s (length w) 0) 9 ≡ true → length w < length s
          inside k = within (ltb (length w) (length s)) refl
            where
              within : (t : Bool) → ltb (length w) (length s) ≡ t → length w < length s
              within true l = ltb-true _ _ l
              within false l = absurd (let z = sym (get_or-eq_default s 0 (ltb-false _ _ l)) ∙ eqb-true _ _ k in omega arith)
      go false k same = absurd (let z : ◌≡◌ {A = ℕ} 0 1 = cc in omega arith)

  -- another word, if there is a tab behind the field
  pub differs : b ≡ false → length (field s) < length (first 10 s) → same_bytes (field s) w ≡ false
  differs h on = go (same_bytes (field s) w) refl
    where
      go : (t : Bool) → same_bytes (field s) w ≡ t → t ≡ false
      go false k = refl
      go true k =
          let tab : get_or s (length w) 0 ≡ 9 = ap (λ f. get_or s (length f) 0) (sym (same_equal (field s) w k)) ∙ at_a 9 10 s refl on in
          both (stop (get_or s (length w) 10)) (spelled s w p q ∙ k) (tabbed s w tab)
        where
          both : (x : Bool) → (x && same_bytes (take (length w) s) w) ≡ true → same_bytes (take (length w) s) w ≡ spells s w → ◌≡◌ {A = Bool} true false
          both true same r = sym same ∙ r ∙ sym e ∙ h
          both false same r = sym same
