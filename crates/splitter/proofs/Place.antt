-- How the search for the listing goes on at a place, and the two parts by the place that it finds. Assumes nothing.
use mathlib.Core.Path.{◌≡◌, refl, ap, sym, ◌∙◌}
use Rattle.std.specs.Prelude.{Option, None, Some}
use mathlib.Core.Bool.{Bool, true, false, ◌&&◌}
use mathlib.Core.List.{List, [], ◌∷◌}
use Prim.Native.Nat.{ℕ, zero, suc, ◌+◌, ◌-◌, ◌<◌, ◌≤◌, zero-le, suc-le-suc}
use native.Mathlib.Omega.{arith}
use native.Mathlib.Nat.{le_refl}
use lib.Dec.{eqb, ltb}
use borrow.Author.Tests.{ltb-true, ltb-false, eqb-true, eqb-false}
use lib.Seq.{get_or-take, get_or-drop, length-take-le}
use Rattle.std.specs.Cmp.Lexicographic.{pointwise}
use lib.ListN.{length, get_or, take, drop, drop_of_length-le, length-drop}
use Rattle.text.specs.Split.{pick, same_bytes}
use Rattle.text.proofs.Lists.{next, tail_part}
use Rattle.text.proofs.Bytes.{same_equal}
use Rattle.listingline.specs.Line.{safe}
use Rattle.splitter.specs.Part.{starts_safe, place_from, place, listing_of, model_part}
use Rattle.splitter.specs.Search.{safe_behind, safe_at, letter_of}

-- a text of fewer than four bytes does not start with it
pub too_short : (s : List ℕ) → length s < 4 → false ≡ starts_safe s
unfolding same_bytes
too_short [] h = refl
too_short (a ∷ []) h = go (eqb a 115)
  where
    go : (t : Bool) → false ≡ pick t false false
    go true = refl
    go false = refl
too_short (a ∷ b ∷ []) h = go (eqb a 115) (eqb b 97)
  where
    go : (t u : Bool) → false ≡ pick t (pick u false false) false
    go true true = refl
    go true false = refl
    go false u = refl
too_short (a ∷ b ∷ c ∷ []) h = go (eqb a 115) (eqb b 97) (eqb c 102)
  where
    go : (t u v : Bool) → false ≡ pick t (pick u (pick v false false) false) false
    go true true true = refl
    go true true false = refl
    go true false v = refl
    go false u v = refl
too_short (a ∷ b ∷ c ∷ d ∷ s) h = absurd (omega arith)

-- what `starts_with` tests, byte by byte, is what `same_bytes` does
pub pointwise_same : (a b : List ℕ) → pointwise eqb a b ≡ same_bytes b a
unfolding same_bytes
pointwise_same [] [] = refl
pointwise_same [] (y ∷ ys) = refl
pointwise_same (x ∷ xs) [] = refl
pointwise_same (x ∷ xs) (y ∷ ys) = go (eqb x y) refl (eqb y x) refl (pointwise_same xs ys)
  where
    go : (t : Bool) → eqb x y ≡ t → (u : Bool) → eqb y x ≡ u → pointwise eqb xs ys ≡ same_bytes ys xs → (t && pointwise eqb xs ys) ≡ pick u (same_bytes ys xs) false
    go true e true f h = h
    go true e false f h = absurd (eqb-false y x f (sym (eqb-true x y e)))
    go false e true f h = absurd (eqb-false x y e (sym (eqb-true y x f)))
    go false e false f h = refl

-- a line that starts with the word stands where the word stands
not_there : (s : List ℕ) (i : ℕ) → starts_safe (drop i s) ≡ false → safe_at s i ≡ false
not_there s i e = rw e (go (eqb (get_or (10 ∷ s) i 0) 10))
  where
    go : (t : Bool) → (t && false) ≡ false
    go true = refl
    go false = refl

there : (s : List ℕ) (i : ℕ) → safe_at s i ≡ true → starts_safe (drop i s) ≡ true
there s i e = go (starts_safe (drop i s)) refl
  where
    go : (t : Bool) → starts_safe (drop i s) ≡ t → t ≡ true
    go true f = refl
    go false f = sym (not_there s i f) ∙ e

-- a line begins at the start of a text, and behind a line feed
abbrev begins : List ℕ → ℕ → Bool
begins s i = eqb (get_or (10 ∷ s) i 0) 10

module _ (s : List ℕ) where
  pub begins_first : (i : ℕ) → i ≡ 0 → {b : Bool} → b ≡ eqb i 0 → b ≡ begins s i
  begins_first i z e = e ∙ rw z

  pub begins_inside : (i : ℕ) → (i ≡ 0 → ⊥) → {b : Bool} → b ≡ eqb (get_or s (i - 1) 0) 10 → b ≡ begins s i
  begins_inside zero z e = absurd (z refl)
  begins_inside (suc i) z e = let p : suc i - 1 ≡ i = omega arith in e ∙ rw p

  pub safe_there : (i : ℕ) {b r : Bool} → b ≡ begins s i → b ≡ true → r ≡ starts_safe (take (length s - i) (drop i s)) → r ≡ safe_at s i
  safe_there i e t f = let p : begins s i ≡ true = sym e ∙ t in rw p (f ∙ ap starts_safe (tail_part s i))

  pub safe_inside : (i : ℕ) {b : Bool} → b ≡ begins s i → b ≡ false → b ≡ safe_at s i
  safe_inside i e f = let p : begins s i ≡ false = sym e ∙ f in rw p f

-- where no place before n is that of the listing, the search goes on at n
skip : (c : ℕ) (s : List ℕ) (n : ℕ) → n ≤ length s → ((i : ℕ) → i < n → safe_behind c s i ≡ false)
    → place_from (eqb c 10) s ≡ n + place_from (eqb (get_or (c ∷ s) n 0) 10) (drop n s)
unfolding place_from
skip c s zero h none = omega arith
skip c [] (suc n) h none = absurd (omega arith)
skip c (b ∷ s) (suc n) h none =
    let e : safe_behind c (b ∷ s) 0 ≡ false = none 0 (omega arith) in
    let more = skip b s n (omega arith) (λ i k. none (suc i) (omega arith)) in
    rw e (ap suc more ∙ omega arith)

-- as the code sees it: none before k is the place
module _ (s : List ℕ) (k : ℕ) (none : (i : ℕ) → i < k → safe_at s i ≡ false) where
  pub place_here : k < length s → safe_at s k ≡ true → k ≡ place s
  unfolding place_from
  place_here h e =
      let z : place_from (eqb (get_or (10 ∷ s) k 0) 10) (drop k s) ≡ 0 = let n = next s k h in rw n (rw (rw n at e)) in
      omega (arith, skip 10 s k (omega arith) none)

letters : (j : ℕ) → j < 4 → letter_of (get_or safe j 0) ≡ Some j
letters zero h = refl
letters (suc zero) h = refl
letters (suc (suc zero)) h = refl
letters (suc (suc (suc zero))) h = refl
letters (suc (suc (suc (suc j)))) h = absurd (omega arith)

-- a letter of the word is one of four
letter_small : (b : ℕ) {k : ℕ} → letter_of b ≡ Some k → k < 4
letter_small b {k} e = go (eqb b 115) (eqb b 97) (eqb b 102) (eqb b 101) e
  where
    few : {j : ℕ} → j < 4 → Some j ≡ Some k → k < 4
    few {j} h e = let i : j ≡ k = cc in omega arith

    go : (t u v w : Bool) → pick t (Some 0) (pick u (Some 1) (pick v (Some 2) (pick w (Some 3) None))) ≡ Some k → k < 4
    go true u v w e = few (omega arith) e
    go false true v w e = few (omega arith) e
    go false false true w e = few (omega arith) e
    go false false false true e = few (omega arith) e
    go false false false false e = cc

-- where the word stands, each byte says which letter it is
word_letter : (s : List ℕ) (i j : ℕ) → j < 4 → starts_safe (drop i s) ≡ true → letter_of (get_or s (i + j) 0) ≡ Some j
word_letter s i j h e =
    let q : get_or s (i + j) 0 ≡ get_or safe j 0 = sym (get_or-drop i s j 0) ∙ sym (get_or-take 4 (drop i s) j 0 h) ∙ ap (λ l. get_or l j 0) (same_equal _ _ e) in
    ap letter_of q ∙ letters j h

-- four places in a row, of which `last` is the last: none before them is the listing's
module _ (s : List ℕ) (last : ℕ) (none : (i : ℕ) → i + 3 < last → safe_at s i ≡ false) where
  -- where the text ends, four bytes do not fit
  pub place_none : length s ≤ last → length s ≡ place s
  unfolding place_from
  place_none t =
      let z : place_from (eqb (get_or (10 ∷ s) (length s) 0) 10) (drop (length s) s) ≡ 0 = rw (drop_of_length-le s (le_refl (length s))) in
      omega (arith, skip 10 s (length s) (le_refl _) all)
    where
      all : (i : ℕ) → i < length s → safe_at s i ≡ false
      all i h = go (ltb (i + 3) last) refl
        where
          go : (b : Bool) → ltb (i + 3) last ≡ b → safe_at s i ≡ false
          go true e = none i (ltb-true (i + 3) last e)
          go false e = not_there s i (sym (too_short (drop i s) (omega (arith, ltb-false (i + 3) last e, length-drop i s))))

  -- and else only the one that the byte at the last says can be
  module _ {o : Option ℕ} (l : o ≡ letter_of (get_or s last 0)) where
    none_but : (i : ℕ) → i ≤ last → (o ≡ Some (last - i) → ⊥) → safe_at s i ≡ false
    none_but i h other = go (ltb (i + 3) last) refl (safe_at s i) refl
      where
        go : (b : Bool) → ltb (i + 3) last ≡ b → (t : Bool) → safe_at s i ≡ t → t ≡ false
        go b e false f = refl
        go true e true f = sym f ∙ none i (ltb-true (i + 3) last e)
        go false e true f =
            let w = word_letter s i (last - i) (omega (arith, ltb-false (i + 3) last e)) (there s i f) in
            let p : i + (last - i) ≡ last = omega arith in
            absurd (other (l ∙ rw p at w))

    pub none_letter : o ≡ None → (i : ℕ) → i + 3 < last + 4 → safe_at s i ≡ false
    none_letter n i h = none_but i (omega arith) (λ e. cc)

    module _ {letter : ℕ} (is : o ≡ Some letter) where
      pub none_before : (i : ℕ) → i < last - letter → safe_at s i ≡ false
      none_before i h = none_but i (omega arith) (λ e. let k : letter ≡ last - i = cc in omega arith)

      pub none_passed : 3 ≤ last → safe_at s (last - letter) ≡ false → (i : ℕ) → i + 3 < last + 4 → safe_at s i ≡ false
      none_passed w n i h = go (eqb (i + letter) last) refl
        where
          go : (b : Bool) → eqb (i + letter) last ≡ b → safe_at s i ≡ false
          go true e = let p : last - letter ≡ i = omega (arith, eqb-true (i + letter) last e) in rw p at n
          go false e = none_but i (omega arith) (λ f. let k : letter ≡ last - i = cc in eqb-false (i + letter) last e (omega (arith, letter_small (get_or s last 0) (sym l ∙ is))))

-- the place lies within the text
within : (begins : Bool) (s : List ℕ) → place_from begins s ≤ length s
unfolding place_from
within begins [] = zero-le
within begins (b ∷ bs) = go (begins && starts_safe (b ∷ bs)) (within (eqb b 10) bs)
  where
    go : (t : Bool) → place_from (eqb b 10) bs ≤ length bs → pick t 0 (suc (place_from (eqb b 10) bs)) ≤ suc (length bs)
    go true h = zero-le
    go false h = suc-le-suc h

-- the two parts by the place, as the code takes them
module _ (s : List ℕ) {k : ℕ} (e : k ≡ place s) where
  pub place_within : k ≤ length s
  place_within = rw e (within true s)

  -- `s[..k]`
  pub model_front : take k s ≡ model_part s
  model_front = ap (λ k. take k s) e

  pub model_length : k ≡ length (take k s)
  model_length = sym (length-take-le k s place_within)

  -- `s[k..]`
  pub listing_rest : take (length s - k) (drop k s) ≡ listing_of s
  listing_rest = tail_part s k ∙ ap (λ k. drop k s) e
