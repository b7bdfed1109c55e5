-- Cells of lists after a store: rows of three and four numbers, and truths. Assumes nothing.
use mathlib.Core.Bool.{Bool, true, false, ◌&&◌, ◌||◌}
use mathlib.Core.List.{List, [], ◌∷◌, ◌++◌}
use mathlib.Core.Path.{◌≡◌, refl, ap, sym, ◌∙◌}
use Prim.Native.Nat.{ℕ, zero, suc, ◌+◌, ◌*◌, ◌<◌, ◌≤◌}
use native.Mathlib.Omega.{arith}
use lib.Dec.{eqb}
use lib.ListN.{length, get_or, set, length-set}
use lib.Seq.{get_or-set_same, get_or-set_other}
use borrow.Author.Tests.{eq-eqb, ne_eqb, eqb-true, eqb-false}
use Rattle.product.specs.Lists.{up_to, each, any}
use Rattle.product.proofs.Lists.{over_suc}
use Rattle.draft.specs.Lines.{three_at, four_at}

module _ (rows : List ℕ) (i a b c : ℕ) where
  pub length_three : length (three_at rows i a b c) ≡ length rows
  length_three = simp length-set

  pub length_four : (d : ℕ) → length (four_at rows i a b c d) ≡ length rows
  length_four d = simp length-set

  -- what lies below stays
  pub three_below : (j : ℕ) → j < i → get_or (three_at rows i a b c) j 0 ≡ get_or rows j 0
  three_below j h =
      get_or-set_other (set (set rows i a) (i + 1) b) (i + 2) j c 0 (λ e. omega arith)
      ∙ get_or-set_other (set rows i a) (i + 1) j b 0 (λ e. omega arith)
      ∙ get_or-set_other rows i j a 0 (λ e. omega arith)

  pub four_below : (d j : ℕ) → j < i → get_or (four_at rows i a b c d) j 0 ≡ get_or rows j 0
  four_below d j h = get_or-set_other (three_at rows i a b c) (i + 3) j d 0 (λ e. omega arith) ∙ three_below j h

  -- the row that was put
  module _ (h : i + 3 ≤ length rows) where
    pub three_0 : get_or (three_at rows i a b c) (i + 0) 0 ≡ a
    three_0 =
        get_or-set_other (set (set rows i a) (i + 1) b) (i + 2) (i + 0) c 0 (λ e. omega arith)
        ∙ get_or-set_other (set rows i a) (i + 1) (i + 0) b 0 (λ e. omega arith)
        ∙ (let e : i + 0 ≡ i = omega arith in rw e (get_or-set_same rows i a 0 (omega arith)))

    pub three_1 : get_or (three_at rows i a b c) (i + 1) 0 ≡ b
    three_1 =
        get_or-set_other (set (set rows i a) (i + 1) b) (i + 2) (i + 1) c 0 (λ e. omega arith)
        ∙ get_or-set_same (set rows i a) (i + 1) b 0 (omega (arith, length-set rows i a))

    pub three_2 : get_or (three_at rows i a b c) (i + 2) 0 ≡ c
    three_2 = get_or-set_same (set (set rows i a) (i + 1) b) (i + 2) c 0 (omega (arith, length-set (set rows i a) (i + 1) b, length-set rows i a))

  module _ (d : ℕ) (h : i + 4 ≤ length rows) where
    pub four_old : (k : ℕ) → k < 3 → get_or (four_at rows i a b c d) (i + k) 0 ≡ get_or (three_at rows i a b c) (i + k) 0
    four_old k l = get_or-set_other (three_at rows i a b c) (i + 3) (i + k) d 0 (λ e. omega arith)

    pub four_3 : get_or (four_at rows i a b c d) (i + 3) 0 ≡ d
    four_3 = get_or-set_same (three_at rows i a b c) (i + 3) d 0 (omega (arith, length_three))

-- a truth that was put
pub truth_put : (l : List Bool) (i j : ℕ) → i < length l → get_or (set l i true) j false ≡ (get_or l j false || eqb j i)
truth_put l i j h = go (eqb j i) refl
  where
    or_true : (b : Bool) → true ≡ (b || true)
    or_true true = refl
    or_true false = refl

    or_false : (b : Bool) → b ≡ (b || false)
    or_false true = refl
    or_false false = refl

    go : (t : Bool) → eqb j i ≡ t → get_or (set l i true) j false ≡ (get_or l j false || t)
    go true e = ap (λ k. get_or (set l i true) k false) (eqb-true j i e) ∙ get_or-set_same l i true false h ∙ or_true (get_or l j false)
    go false e = get_or-set_other l i j true false (eqb-false j i e) ∙ or_false (get_or l j false)

-- what one more element says
pub any_more : {A : Type 0} (p : A → Bool) (xs : List A) (y : A) → any p (xs ++ y ∷ []) ≡ (any p xs || p y)
any_more p [] y = go (p y)
  where
    go : (b : Bool) → (b || false) ≡ (false || b)
    go true = refl
    go false = refl
any_more p (x ∷ xs) y = go (any_more p xs y) (p x)
  where
    go : any p (xs ++ y ∷ []) ≡ (any p xs || p y) → (b : Bool) → (b || any p (xs ++ y ∷ [])) ≡ (b || any p xs || p y)
    go e true = refl
    go e false = e

-- two places in rows of 16 are one only if row and column are
pub same_place : (g e g' e' : ℕ) → e < 16 → e' < 16 → eqb (g * 16 + e) (g' * 16 + e') ≡ (eqb g g' && eqb e e')
same_place g e g' e' h h' = go (eqb g g') refl (eqb e e') refl
  where
    go : (s : Bool) → eqb g g' ≡ s → (t : Bool) → eqb e e' ≡ t → eqb (g * 16 + e) (g' * 16 + e') ≡ (s && t)
    go true p true q = eq-eqb (g * 16 + e) (g' * 16 + e') (omega (arith, eqb-true g g' p, eqb-true e e' q))
    go true p false q = ne_eqb (g * 16 + e) (g' * 16 + e') (λ r. eqb-false e e' q (omega (arith, eqb-true g g' p)))
    go false p t q = ne_eqb (g * 16 + e) (g' * 16 + e') (λ r. eqb-false g g' p (omega arith))

-- elements by number: the same below n, and one more
pub each_same : {B : Type 0} (n : ℕ) (f f' : ℕ → B) → ((r : ℕ) → r < n → f' r ≡ f r) → each (up_to n) f' ≡ each (up_to n) f
each_same zero f f' h = refl
each_same (suc n) f f' h =
    over_suc n (λ r. f' r ∷ [])
    ∙ ap (λ xs. xs ++ f' n ∷ []) (each_same n f f' (λ r l. h r (omega arith)))
    ∙ ap (λ x. each (up_to n) f ++ x ∷ []) (h n (omega arith))
    ∙ sym (over_suc n (λ r. f r ∷ []))
