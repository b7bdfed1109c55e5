-- The pieces of a list: how they go on at a place, what find's answer says of them, and that splitting and joining undo
-- each other. Assumes nothing.
use mathlib.Core.Path.{◌≡◌, refl, ap, sym, ◌∙◌}
use mathlib.Core.Bool.{Bool, true, false, not, ◌&&◌}
use mathlib.Core.List.{List, [], ◌∷◌, ◌++◌}
use Prim.Native.Nat.{ℕ, suc, ◌+◌, ◌-◌, ◌<◌, ◌≤◌, zero-le, suc-le-suc}
use native.Mathlib.Numerals.{add-one}
use native.Mathlib.Nat.{not-suc-le-zero, le_of_suc-le-suc, le_refl}
use native.Mathlib.Omega.{arith}
use lib.Dec.{T, eqb}
use lib.ListN.{length, get_or, take, drop, drop_of_length-le, length-drop}
use lib.Seq.{take_all}
use borrow.Author.Tests.{eq-eqb, ne_eqb, eqb-true}
use Rattle.text.specs.Split.{pick, first, later, split, joined, without, Each}
use Rattle.text.proofs.Lists.{next, tail_part}

-- how the first piece goes on at i
module _ (c : ℕ) (s : List ℕ) (i : ℕ) where
  pub first_at : i < length s → get_or s i 0 ≡ c → first c (drop i s) ≡ []
  unfolding first
  first_at h e = rw (next s i h) (simp (eq-eqb _ _ e))

  pub first_next : i < length s → (get_or s i 0 ≡ c → ⊥) → first c (drop i s) ≡ get_or s i 0 ∷ first c (drop (i + 1) s)
  unfolding first
  first_next h e = rw (next s i h) (simp (ne_eqb _ _ e))

  pub first_end : length s ≤ i → first c (drop i s) ≡ []
  unfolding first
  first_end h = rw (drop_of_length-le s h)

-- how the first piece begins
module _ (c b : ℕ) (s : List ℕ) where
  pub first_hit : b ≡ c → length (first c (b ∷ s)) ≡ 0
  unfolding first
  first_hit e = rw (eq-eqb _ _ e)

  pub first_miss : (b ≡ c → ⊥) → length (first c (b ∷ s)) ≡ length (first c s) + 1
  unfolding first
  first_miss n = rw (ne_eqb _ _ n) (omega arith)

pub first_none : (c : ℕ) → length (first c []) ≡ 0
unfolding first
first_none c = refl

-- the first piece is the part before the place that find answers
pub first_take : (c : ℕ) (s : List ℕ) → take (length (first c s)) s ≡ first c s
unfolding first
first_take c [] = refl
first_take c (b ∷ s) = go (first_take c s) (eqb b c)
  where
    go : take (length (first c s)) s ≡ first c s → (t : Bool) → take (length (pick t [] (b ∷ first c s))) (b ∷ s) ≡ pick t [] (b ∷ first c s)
    go more true = refl
    go more false = ap (λ l. b ∷ l) more

first_short : (c : ℕ) (s : List ℕ) → length (first c s) ≤ length s
unfolding first
first_short c [] = zero-le
first_short c (b ∷ s) = go (first_short c s) (eqb b c)
  where
    go : length (first c s) ≤ length s → (t : Bool) → length (pick t [] (b ∷ first c s)) ≤ suc (length s)
    go more true = zero-le
    go more false = suc-le-suc more

later_drop : (c : ℕ) (s : List ℕ) → length (first c s) < length s → later c s ≡ split c (drop (suc (length (first c s))) s)
unfolding first later
later_drop c [] h = absurd (not-suc-le-zero h)
later_drop c (b ∷ s) h = go (later_drop c s) (eqb b c) h
  where
    go : (length (first c s) < length s → later c s ≡ split c (drop (suc (length (first c s))) s)) → (t : Bool)
        → length (pick t [] (b ∷ first c s)) < suc (length s) → pick t (split c s) (later c s) ≡ split c (drop (length (pick t [] (b ∷ first c s))) s)
    go more true h = refl
    go more false h = more (le_of_suc-le-suc h)

later_none : (c : ℕ) (s : List ℕ) → length s ≤ length (first c s) → later c s ≡ []
unfolding first later
later_none c [] h = refl
later_none c (b ∷ s) h = go (later_none c s) (eqb b c) h
  where
    go : (length s ≤ length (first c s) → later c s ≡ []) → (t : Bool)
        → suc (length s) ≤ length (pick t [] (b ∷ first c s)) → pick t (split c s) (later c s) ≡ []
    go more true h = absurd (not-suc-le-zero h)
    go more false h = more (le_of_suc-le-suc h)

-- `s[e + 1..]`, as the code has it
abbrev pub after : ℕ → List ℕ → List ℕ
after e s = take (length s - (e + 1)) (drop (e + 1) s)

-- the parts of s by the place e that find answers
module _ (c : ℕ) (s : List ℕ) {e : ℕ} (f : e ≡ length (first c s)) where
  pub place_within : e ≤ length s
  place_within = rw f (first_short c s)

  -- `s[..e]`
  pub first_piece : take e s ≡ first c s
  first_piece = rw f (first_take c s)

  pub later_pieces : e < length s → later c s ≡ split c (drop (e + 1) s)
  later_pieces h = rw add-one (rw f (later_drop c s (rw f at h)))

  pub later_after : e < length s → later c s ≡ split c (after e s)
  later_after h = later_pieces h ∙ ap (split c) (sym (tail_part s (e + 1)))

  pub no_later : length s ≤ e → later c s ≡ []
  no_later h = later_none c s (rw f at h)

  pub whole_piece : length s ≤ e → first c s ≡ s
  whole_piece h = sym first_piece ∙ take_all e s h

pub after_shorter : (e : ℕ) (s : List ℕ) → e < length s → length (after e s) < length s
after_shorter e s h = omega (arith, ap length (tail_part s (e + 1)), length-drop (e + 1) s)

-- a list without the separator is its own first piece, and has no other
pub first_without : (c : ℕ) (s : List ℕ) → T (without c s) → first c s ≡ s
unfolding first without
first_without c [] t = refl
first_without c (b ∷ s) t = go (first_without c s) (eqb b c) t
  where
    go : (T (without c s) → first c s ≡ s) → (d : Bool) → T (not d && without c s) → pick d [] (b ∷ first c s) ≡ b ∷ s
    go more false t = ap (λ l. b ∷ l) (more t)
    go more true t = elim t [ ]

pub later_without : (c : ℕ) (s : List ℕ) → T (without c s) → later c s ≡ []
later_without c s t = later_none c s (rw (first_without c s t) (le_refl _))

-- the first piece has no separator in it
pub without_first : (c : ℕ) (s : List ℕ) → T (without c (first c s))
unfolding first without
without_first c [] = tt
without_first c (b ∷ s) = go (without_first c s) (eqb b c) refl
  where
    go : T (without c (first c s)) → (d : Bool) → eqb b c ≡ d → T (without c (pick d [] (b ∷ first c s)))
    go more true e = tt
    go more false e = rw e more

pub without_append : (c : ℕ) (s t : List ℕ) → T (without c s) → T (without c t) → T (without c (s ++ t))
unfolding without
without_append c [] t h k = k
without_append c (b ∷ s) t h k = go (without_append c s t) (eqb b c) h
  where
    go : (T (without c s) → T (without c t) → T (without c (s ++ t))) → (d : Bool) → T (not d && without c s) → T (not d && without c (s ++ t))
    go more false h = more h k
    go more true h = elim h [ ]

-- splitting takes a piece off
pub split_append : (c : ℕ) (s t : List ℕ) → T (without c s) → split c (s ++ c ∷ t) ≡ s ∷ split c t
unfolding first later without
split_append c [] t h = rw (eq-eqb c c refl)
split_append c (b ∷ s) t h = go (split_append c s t) (eqb b c) h
  where
    on_first : ℕ → List (List ℕ) → List (List ℕ)
    on_first d [] = []
    on_first d (p ∷ ps) = (d ∷ p) ∷ ps

    go : (T (without c s) → split c (s ++ c ∷ t) ≡ s ∷ split c t) → (d : Bool) → T (not d && without c s)
        → pick d [] (b ∷ first c (s ++ c ∷ t)) ∷ pick d (split c (s ++ c ∷ t)) (later c (s ++ c ∷ t)) ≡ (b ∷ s) ∷ split c t
    go more false h = ap (on_first b) (more h)
    go more true h = elim h [ ]

-- splitting loses nothing: the pieces joined again are the list
pub joined_split : (c : ℕ) (s : List ℕ) → joined c (first c s) (later c s) ≡ s
unfolding first later joined
joined_split c [] = refl
joined_split c (b ∷ s) = go (joined_split c s) (eqb b c) refl
  where
    on_first : (p : List ℕ) (ps : List (List ℕ)) → joined c (b ∷ p) ps ≡ b ∷ joined c p ps
    on_first p [] = refl
    on_first p (q ∷ qs) = refl

    go : joined c (first c s) (later c s) ≡ s → (d : Bool) → eqb b c ≡ d → joined c (pick d [] (b ∷ first c s)) (pick d (split c s) (later c s)) ≡ b ∷ s
    go more true e = ap (λ l. c ∷ l) more ∙ ap (λ x. x ∷ s) (sym (eqb-true b c e))
    go more false e = on_first (first c s) (later c s) ∙ ap (λ l. b ∷ l) more

-- joining loses nothing either, if no piece has the separator
pub split_joined : (c : ℕ) (p : List ℕ) (ps : List (List ℕ)) → T (without c p) → Each (λ q. T (without c q)) ps → split c (joined c p ps) ≡ p ∷ ps
unfolding joined
split_joined c p [] h k = ap (λ q. q ∷ later c p) (first_without c p h) ∙ ap (λ qs. p ∷ qs) (later_without c p h)
split_joined c p (q ∷ qs) h k = split_append c p (joined c q qs) h ∙ ap (λ r. p ∷ r) (split_joined c q qs k.0 k.1)
