-- The answer at the lowest number that has one: how a loop comes to it, and how a list gathered over the numbers below n is searched. Assumes nothing.
use mathlib.Core.Bool.{Bool, true, false, cond}
use mathlib.Core.List.{List, [], ◌∷◌, ◌++◌}
use mathlib.Core.Logic.{⊎_elim, inl, inr}
use mathlib.Core.Option.{Option, none, some}
use mathlib.Core.Path.{◌≡◌, refl, sym, ap, ap₂, ◌∙◌}
use Prim.Native.Nat.{ℕ, zero, suc, ◌+◌, ◌<◌, ◌≤◌}
use native.Mathlib.Decide.{ℕ_discrete}
use native.Mathlib.Nat.{not-suc-le-zero, le_of_suc-le-suc, eq-or-lt_of_le}
use native.Mathlib.Numerals.{add-one}
use native.Mathlib.Omega.{arith}
use lib.Dec.{T}
use Rattle.product.specs.Lists.{up_to, over, each, find, ◌∈◌}
use Rattle.product.proofs.Lists.{over_suc}
use Rattle.culprit.specs.First.{or_else, first_of}

pub or_none : {A : Type 0} (o : Option A) → or_else o none ≡ o
or_none none = refl
or_none (some a) = refl

module _ {A : Type 0} where
  -- the turns of a loop
  pub first_none : (f : ℕ → Option A) → first_of f 0 ≡ none
  unfolding first_of
  first_none f = refl

  pub first_more : (f : ℕ → Option A) (i : ℕ) → first_of f i ≡ none → f i ≡ none → first_of f (i + 1) ≡ none
  unfolding first_of
  first_more f i a h = simp (add-one, a, h)

  pub first_here : (f : ℕ → Option A) (n i : ℕ) (x : A) → i < n → first_of f i ≡ none → f i ≡ some x → first_of f n ≡ some x
  unfolding first_of
  first_here f zero i x l a h = absurd (not-suc-le-zero l)
  first_here f (suc n) i x l a h =
      ⊎_elim (λ e. rw (← e) (simp (a, h)))
      (λ lt. simp (first_here f n i x lt a h))
      (eq-or-lt_of_le (le_of_suc-le-suc l))

  -- the loop has come to the end
  pub first_done : (f : ℕ → Option A) (n i : ℕ) → i ≤ n → n ≤ i → first_of f i ≡ none → first_of f n ≡ none
  first_done f n i l k e = let j : i ≡ n = omega arith in rw j at e

  -- where two agree, and where at most one number has an answer
  pub first_same : (f g : ℕ → Option A) (n : ℕ) → ((i : ℕ) → i < n → f i ≡ g i) → first_of f n ≡ first_of g n
  unfolding first_of
  first_same f g zero h = refl
  first_same f g (suc n) h = ap₂ or_else (first_same f g n (λ i l. h i (omega arith))) (h n (omega arith))

  pub first_idle : (f : ℕ → Option A) (n : ℕ) → ((i : ℕ) → i < n → f i ≡ none) → first_of f n ≡ none
  unfolding first_of
  first_idle f zero h = refl
  first_idle f (suc n) h = rw (first_idle f n (λ i l. h i (omega arith))) (h n (omega arith))

  pub first_only : (f : ℕ → Option A) (n k : ℕ) → k < n → ((i : ℕ) → (i ≡ k → ⊥) → f i ≡ none) → first_of f n ≡ f k
  unfolding first_of
  first_only f zero k l h = absurd (not-suc-le-zero l)
  first_only f (suc n) k l h = go (first_only f n k) (ℕ_discrete k n)
    where
      go : (k < n → ((i : ℕ) → (i ≡ k → ⊥) → f i ≡ none) → first_of f n ≡ f k) → Dec (k ≡ n) → or_else (first_of f n) (f n) ≡ f k
      go ih (yes e) = rw (first_idle f n (λ i j. h i (omega arith))) (ap f (sym e))
      go ih (no e) = rw (h n (λ x. e (sym x))) (or_none (first_of f n) ∙ ih (omega arith) h)

  pub first_steady : (o : Option A) (n : ℕ) → 0 < n → first_of (λ _. o) n ≡ o
  unfolding first_of
  first_steady o zero l = absurd (not-suc-le-zero l)
  first_steady none (suc n) l = first_idle (λ _. none) (suc n) (λ i _. refl)
  first_steady (some a) (suc n) l = first_here (λ _. some a) (suc n) 0 a l (first_none (λ _. some a)) refl

  -- what is found passes
  pub first_elim : (P : A → Type 0) (f : ℕ → Option A) (n : ℕ) → ((i : ℕ) (x : A) → i < n → f i ≡ some x → P x) → (x : A) → first_of f n ≡ some x → P x
  unfolding first_of
  first_elim P f zero h x e = let z : ◌≡◌ {A = ℕ} 0 1 = cc in absurd (omega arith)
  first_elim P f (suc n) h x e = go (first_elim P f n (λ i y l. h i y (omega arith)) x) (first_of f n) refl e
    where
      go : (first_of f n ≡ some x → P x) → (o : Option A) → first_of f n ≡ o → or_else o (f n) ≡ some x → P x
      go ih none u v = h n x (omega arith) v
      go ih (some y) u v = ih (u ∙ v)

  pub find_elim : (p : A → Bool) (xs : List A) (x : A) → find p xs ≡ some x → (x ∈ xs) × T (p x)
  find_elim p [] x e = let z : ◌≡◌ {A = ℕ} 0 1 = cc in absurd (omega arith)
  find_elim p (y ∷ xs) x e = go (find_elim p xs x) (p y) refl e
    where
      back : some y ≡ some x → x ≡ y
      back e = cc

      go : (find p xs ≡ some x → (x ∈ xs) × T (p x)) → (b : Bool) → p y ≡ b → cond b (some y) (find p xs) ≡ some x → (x ∈ (y ∷ xs)) × T (p x)
      go ih true u v = (inl (back v), rw (back v, u) tt)
      go ih false u v = let (i, t) = ih v in (inr i, t)

  -- a search through lists that are joined
  pub find_append : (p : A → Bool) (xs ys : List A) → find p (xs ++ ys) ≡ or_else (find p xs) (find p ys)
  find_append p [] ys = refl
  find_append p (x ∷ xs) ys = go (find_append p xs ys) (p x)
    where
      go : find p (xs ++ ys) ≡ or_else (find p xs) (find p ys) → (b : Bool) → cond b (some x) (find p (xs ++ ys)) ≡ or_else (cond b (some x) (find p xs)) (find p ys)
      go ih true = refl
      go ih false = ih

  pub find_over : (p : A → Bool) (n : ℕ) (f : ℕ → List A) → find p (over (up_to n) f) ≡ first_of (λ i. find p (f i)) n
  unfolding first_of
  find_over p zero f = refl
  find_over p (suc n) f = ap (find p) (over_suc n f) ∙ find_append p (over (up_to n) f) (f n) ∙ ap (λ o. or_else o (find p (f n))) (find_over p n f)

  -- the turns of a loop over the numbers
  pub find_more : (p : A → Bool) (f : ℕ → List A) (i : ℕ) → find p (over (up_to i) f) ≡ none → find p (f i) ≡ none → find p (over (up_to (i + 1)) f) ≡ none
  find_more p f i h k = find_over p (i + 1) f ∙ first_more (λ i. find p (f i)) i (sym (find_over p i f) ∙ h) k

  pub find_here : (p : A → Bool) (f : ℕ → List A) (n i : ℕ) (x : A) → i < n → find p (over (up_to i) f) ≡ none → find p (f i) ≡ some x → find p (over (up_to n) f) ≡ some x
  find_here p f n i x l h k = find_over p n f ∙ first_here (λ i. find p (f i)) n i x l (sym (find_over p i f) ∙ h) k

  -- none that passes
  pub find_fails : (p : A → Bool) (n : ℕ) (f : ℕ → A) → ((i : ℕ) → p (f i) ≡ false) → find p (each (up_to n) f) ≡ none
  find_fails p n f h = find_over p n (λ i. f i ∷ []) ∙ first_idle (λ i. find p (f i ∷ [])) n (λ i _. rw (h i))

  -- one at most
  pub find_one : (p : A → Bool) (n k : ℕ) (f : ℕ → A) → k < n → ((i : ℕ) → (i ≡ k → ⊥) → p (f i) ≡ false) → find p (each (up_to n) f) ≡ find p (f k ∷ [])
  find_one p n k f l h = find_over p n (λ i. f i ∷ []) ∙ first_only (λ i. find p (f i ∷ [])) n k l (λ i j. rw (h i j))
