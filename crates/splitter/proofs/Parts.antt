-- The two parts of a text: together they are the text, no line of the first starts with `safe`, and the second is empty or is
-- a line's beginning that starts with it. Assumes nothing.
use mathlib.Core.Path.{◌≡◌, refl, ap, sym, ◌∙◌}
use mathlib.Core.Bool.{Bool, true, false, ◌&&◌}
use mathlib.Core.List.{List, [], ◌∷◌, ◌++◌}
use mathlib.Core.Logic.{◌⊎◌, inl, inr}
use Prim.Native.Nat.{ℕ, zero, suc, ◌-◌, ◌<◌, ◌≤◌}
use native.Mathlib.Omega.{arith}
use lib.Dec.{eqb}
use lib.ListN.{length, get_or, take, drop, take-append-drop}
use lib.Seq.{take-append-le}
use borrow.Author.Tests.{eqb-true}
use Rattle.text.specs.Split.{pick, first, later, split, same_bytes, Each}
use Rattle.text.proofs.Split.{first_take}
use Rattle.listingline.specs.Line.{safe}
use Rattle.splitter.specs.Part.{starts_safe, place_from, place, listing_of, model_part}
use Rattle.splitter.proofs.Place.{too_short}

pub whole : (text : List ℕ) → model_part text ++ listing_of text ≡ text
whole text = take-append-drop (place text) text

-- what has a front that starts with it starts with it
front_starts : (p s : List ℕ) → starts_safe p ≡ true → starts_safe (p ++ s) ≡ true
front_starts p s e = go (long p e)
  where
    long : (q : List ℕ) → starts_safe q ≡ true → 4 ≤ length q
    long [] e = absurd (let z : false ≡ true = too_short [] (omega arith) ∙ e in let y : ◌≡◌ {A = ℕ} 0 1 = cc in omega arith)
    long (a ∷ []) e = absurd (let z : false ≡ true = too_short (a ∷ []) (omega arith) ∙ e in let y : ◌≡◌ {A = ℕ} 0 1 = cc in omega arith)
    long (a ∷ b ∷ []) e = absurd (let z : false ≡ true = too_short (a ∷ b ∷ []) (omega arith) ∙ e in let y : ◌≡◌ {A = ℕ} 0 1 = cc in omega arith)
    long (a ∷ b ∷ c ∷ []) e = absurd (let z : false ≡ true = too_short (a ∷ b ∷ c ∷ []) (omega arith) ∙ e in let y : ◌≡◌ {A = ℕ} 0 1 = cc in omega arith)
    long (a ∷ b ∷ c ∷ d ∷ q) e = omega arith

    go : 4 ≤ length p → starts_safe (p ++ s) ≡ true
    go h = ap (λ l. same_bytes l safe) (take-append-le 4 p s h) ∙ e

-- so neither does a front of what does not
front_not : (p s : List ℕ) → starts_safe (p ++ s) ≡ false → starts_safe p ≡ false
front_not p s e = go (starts_safe p) refl
  where
    go : (t : Bool) → starts_safe p ≡ t → t ≡ false
    go false k = refl
    go true k = sym (front_starts p s k) ∙ e

-- the first piece of a front of s is a front of s
piece : (c k : ℕ) (s : List ℕ) → (t : List ℕ) × (first c (take k s) ++ t ≡ s)
piece c k s =
    let p : List ℕ = take k s in (
      drop (length (first c p)) p ++ drop k s,
      front (first c p) (drop (length (first c p)) p) (drop k s) p s
          (ap (λ l. l ++ drop (length (first c p)) p) (sym (first_take c p)) ∙ take-append-drop (length (first c p)) p) (take-append-drop k s),
    )
  where
    front : (a b d p s : List ℕ) → a ++ b ≡ p → p ++ d ≡ s → a ++ (b ++ d) ≡ s
    front a b d p s e h = assoc a b d ∙ ap (λ l. l ++ d) e ∙ h
      where
        assoc : (a b d : List ℕ) → a ++ (b ++ d) ≡ (a ++ b) ++ d
        assoc [] b d = refl
        assoc (x ∷ a) b d = ap (λ l. x ∷ l) (assoc a b d)

-- the lines of the first part from a place on: none starts with it, but perhaps the first, if no line begins there
none_from : (begins : Bool) (s : List ℕ)
    → (begins ≡ true → starts_safe (first 10 (take (place_from begins s) s)) ≡ false) × Each (λ l. starts_safe l ≡ false) (later 10 (take (place_from begins s) s))
unfolding place_from first later
none_from begins [] = (λ _. sym (too_short [] (omega arith)), tt)
none_from begins (b ∷ s) = go (λ u. none_from u s) (begins && starts_safe (b ∷ s)) refl (eqb b 10) refl
  where
    Fine : Bool → List ℕ → Type 0
    Fine begins t = (begins ≡ true → starts_safe (first 10 t) ≡ false) × Each (λ l. starts_safe l ≡ false) (later 10 t)

    here : (t : List ℕ) → (begins && starts_safe (b ∷ s)) ≡ false → begins ≡ true → (r : List ℕ) × (t ++ r ≡ s) → starts_safe (b ∷ t) ≡ false
    here t e g (r, k) = front_not (b ∷ t) r (ap (λ l. starts_safe (b ∷ l)) k ∙ (rw g at e))

    go : ((u : Bool) → Fine u (take (place_from u s) s)) → (t : Bool) → (begins && starts_safe (b ∷ s)) ≡ t → (u : Bool) → eqb b 10 ≡ u
        → Fine begins (take (pick t 0 (suc (place_from u s))) (b ∷ s))
    go more true e u f = (λ _. sym (too_short [] (omega arith)), tt)
    go more false e true f = rw f (λ _. sym (too_short [] (omega arith)), ((more true).0 refl, (more true).1))
    go more false e false f = rw f (λ g. here (first 10 (take (place_from false s) s)) e g (piece 10 (place_from false s) s), (more false).1)

-- no line of the first part starts with it
pub none_before : (text : List ℕ) → Each (λ l. starts_safe l ≡ false) (split 10 (model_part text))
none_before text = ((none_from true text).0 refl, (none_from true text).1)

-- k is the place found in s: nothing stands from there on, or what starts with it, and at the start a line begins, or a line feed stands before it
abbrev Found : Bool → List ℕ → ℕ → Type 0
Found begins s k = (drop k s ≡ []) ⊎ ((starts_safe (drop k s) ≡ true) × (((k ≡ 0) × (begins ≡ true)) ⊎ ((0 < k) × (get_or s (k - 1) 0 ≡ 10))))

found_next : (begins : Bool) (b : ℕ) (s : List ℕ) (k : ℕ) → Found (eqb b 10) s k → Found begins (b ∷ s) (suc k)
found_next begins b s k (inl e) = inl e
found_next begins b s k (inr (e, inl (z, l))) = inr (e, inr (omega arith, rw z (eqb-true b 10 l)))
found_next begins b s k (inr (e, inr (z, l))) = inr (e, inr (omega arith, at k z l))
  where
    at : (k : ℕ) → 0 < k → get_or s (k - 1) 0 ≡ 10 → get_or (b ∷ s) (suc k - 1) 0 ≡ 10
    at zero z l = absurd (omega arith)
    at (suc k) z l = let e : suc (suc k) - 1 ≡ suc k = omega arith in let d : suc k - 1 ≡ k = omega arith in rw e (rw d at l)

found_from : (begins : Bool) (s : List ℕ) → Found begins s (place_from begins s)
unfolding place_from
found_from begins [] = inl refl
found_from begins (b ∷ s) = go (found_from (eqb b 10) s) begins (starts_safe (b ∷ s)) refl
  where
    go : Found (eqb b 10) s (place_from (eqb b 10) s) → (t u : Bool) → starts_safe (b ∷ s) ≡ u → Found t (b ∷ s) (pick (t && u) 0 (suc (place_from (eqb b 10) s)))
    go more true true e = inr (e, inl (refl, refl))
    go more true false e = found_next true b s _ more
    go more false true e = found_next false b s _ more
    go more false false e = found_next false b s _ more

-- the second part is empty, or starts with it where a line begins: at the text's start, or behind a line feed
pub begins_safe : (text : List ℕ) → Found true text (place text)
begins_safe text = found_from true text
