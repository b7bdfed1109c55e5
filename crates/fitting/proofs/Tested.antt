-- The tests of 6 and 7 case by case, and by the number that they gave. Assumes nothing.
use mathlib.Core.Bool.{Bool, true, false}
use mathlib.Core.List.{[], ◌∷◌}
use mathlib.Core.Path.{◌≡◌, refl, ap, ◌∙◌}
use Prim.Native.Nat.{ℕ, ◌<◌, ◌≤◌}
use native.Mathlib.Omega.{arith}
use lib.Dec.{T, ltb}
use borrow.Author.Tests.{lt-ltb, le-ltb, ltb-false}
use Rattle.text.specs.Split.{pick}
use Rattle.table.specs.Cells.{head_count, triple_count}
use Rattle.product.specs.Answer.{Answer, refused}
use Rattle.product.proofs.Lists.{T_true}
use Rattle.model.specs.declared.Model.{Model}
use Rattle.model.specs.Valid.{valid}
use Rattle.model.proofs.Bounds.{few_heads, few_triples}
use Rattle.std.specs.Prelude.{Ok, Err}
use Rattle.fitting.specs.declared.Fit.{Fit}
use Rattle.fitting.specs.declared.Unfit.{Unfit}
use Rattle.fitting.specs.declared.Unfit.TheVariants.{Invalid, Short}
use Rattle.table.specs.declared.Size.{Size}
use Rattle.fitting.specs.Fits.{size_of, heads_of, triples_of, tested, guarded, fit, fit_of, Fits}

-- one of two, by why a call is refused
abbrev pub by_unfit : {A : Type 0} → Unfit → (invalid short : A) → A
by_unfit Invalid a b = a
by_unfit Short a b = b

-- how many cells a table has at the most
pub record Cells (m : Model) : Type 0 where
  pub heads : heads_of m ≤ 256
  pub triples : triples_of m ≤ 2048

pub cells_fit : (m : Model) → valid m ≡ true → Cells m
cells_fit m v = let t : T (valid m) = rw v tt in record { heads = few_heads m t; triples = few_triples m t }

-- arrays for every model
pub ample : (m : Model) {h t : ℕ} → T (valid m) → h ≡ 256 → t ≡ 2048 → Fits m h t
ample m v h t = record { valid_model = v; heads_there = omega (arith, few_heads m v); triples_there = omega (arith, few_triples m v) }

module _ (m : Model) (h t : ℕ) where
  -- the record, and the two arrays
  pub tested_invalid : valid m ≡ false → {A : Type 0} (a b c : A) → tested m h t a b c ≡ a
  tested_invalid v a b c = rw v

  pub tested_heads : valid m ≡ true → h < heads_of m → {A : Type 0} (a b c : A) → tested m h t a b c ≡ b
  tested_heads v l a b c = rw (v, lt-ltb _ _ l)

  pub tested_triples : valid m ≡ true → heads_of m ≤ h → t < triples_of m → {A : Type 0} (a b c : A) → tested m h t a b c ≡ b
  tested_triples v l k a b c = rw (v, le-ltb _ _ l, lt-ltb _ _ k)

  pub fits_well : valid m ≡ true → heads_of m ≤ h → triples_of m ≤ t → {A : Type 0} (a b c : A) → tested m h t a b c ≡ c
  fits_well v l k a b c = rw (v, le-ltb _ _ l, le-ltb _ _ k)

  pub tested_well : Fits m h t → {A : Type 0} (a b c : A) → tested m h t a b c ≡ c
  tested_well f a b c = fits_well (T_true (valid m) f.valid_model) f.heads_there f.triples_there a b c

  -- by the truth of each test
  module _ {A : Type 0} (a b c : A) (P : A → Type 0) (invalid : P a) (short : P b) (well : Fits m h t → P c) where
    pub by_tests : P (tested m h t a b c)
    by_tests = go (valid m) refl (ltb h (heads_of m)) refl (ltb t (triples_of m)) refl
      where
        go : (x : Bool) → valid m ≡ x → (y : Bool) → ltb h (heads_of m) ≡ y → (z : Bool) → ltb t (triples_of m) ≡ z → P (pick x (pick y b (pick z b c)) a)
        go false v y i z j = invalid
        go true v true i z j = short
        go true v false i true j = short
        go true v false i false j = well (record { valid_model = rw v tt; heads_there = ltb-false _ _ i; triples_there = ltb-false _ _ j })

  -- an answer that is neither of the two refusals is that of a model and arrays that fit
  pub guarded_by : {A : Type 0} (x y : Answer A) → y ≡ guarded m h t x → (y ≡ refused 6 (0 ∷ []) → ⊥) → (y ≡ refused 7 (0 ∷ []) → ⊥) → Fits m h t × (y ≡ x)
  guarded_by {A} x y e p q =
      by_tests (refused 6 (0 ∷ [])) (refused 7 (0 ∷ [])) x (λ g. y ≡ g → Fits m h t × (y ≡ x)) (λ k. absurd (p k)) (λ k. absurd (q k)) (λ f k. (f, k)) e

  -- what is the same for a model and arrays that fit is the same for all
  pub tested_same : {A : Type 0} (a b c c' : A) → (Fits m h t → c ≡ c') → tested m h t a b c ≡ tested m h t a b c'
  tested_same {A} a b c c' k = go (valid m) refl (ltb h (heads_of m)) refl (ltb t (triples_of m)) refl
    where
      go : (x : Bool) → valid m ≡ x → (y : Bool) → ltb h (heads_of m) ≡ y → (z : Bool) → ltb t (triples_of m) ≡ z
          → pick x (pick y b (pick z b c)) a ≡ pick x (pick y b (pick z b c')) a
      go false v y i z j = refl
      go true v true i z j = refl
      go true v false i true j = refl
      go true v false i false j = k (record { valid_model = rw v tt; heads_there = ltb-false _ _ i; triples_there = ltb-false _ _ j })

  -- by what was measured: why the call is refused, or what fits
  module _ {u : Unfit} (e : Err u ≡ fit_of m h t) where
    pub is_unfit : {A : Type 0} (a b c : A) → tested m h t a b c ≡ by_unfit u a b
    is_unfit {A} a b c = go (valid m) (ltb h (heads_of m)) (ltb t (triples_of m)) e
      where
        go : (x y z : Bool) → Err u ≡ pick x (pick y (Err Short) (pick z (Err Short) (Ok (fit m)))) (Err Invalid)
            → pick x (pick y b (pick z b c)) a ≡ by_unfit u a b
        go false y z k = let n : u ≡ Invalid = cc in rw n refl
        go true true z k = let n : u ≡ Short = cc in rw n refl
        go true false true k = let n : u ≡ Short = cc in rw n refl
        go true false false k = cc

  module _ {f : Fit} (e : Ok f ≡ fit_of m h t) where
    measured : Fits m h t × (f ≡ fit m)
    measured = by_tests (Err Invalid) (Err Short) (Ok (fit m)) (λ r. Ok f ≡ r → Fits m h t × (f ≡ fit m)) (λ k. cc) (λ k. cc) (λ w k. (w, cc)) e

    pub is_well : Fits m h t
    is_well = measured.0

    pub heads_are : f.heads ≡ heads_of m
    heads_are = ap (λ (f : Fit). f.heads) measured.1

    pub triples_are : f.triples ≡ triples_of m
    triples_are = ap (λ (f : Fit). f.triples) measured.1

    pub size_is : f.size ≡ size_of m
    size_is = ap (λ (f : Fit). f.size) measured.1

-- the counts of the size that was read are the model's
module _ (m : Model) {z : Size} (read : z ≡ size_of m) where
  pub heads_read : {h : ℕ} → h ≡ head_count z.symbols z.states → h ≡ heads_of m
  heads_read e = e ∙ ap (λ (z : Size). head_count z.symbols z.states) read

  pub triples_read : {t : ℕ} → t ≡ triple_count z.symbols z.states → t ≡ triples_of m
  triples_read e = e ∙ ap (λ (z : Size). triple_count z.symbols z.states) read

pub fit_read : (m : Model) {z : Size} {h t : ℕ} → z ≡ size_of m → h ≡ heads_of m → t ≡ triples_of m
    → ◌≡◌ {A = Fit} (record { size = z; heads = h; triples = t }) (fit m)
fit_read m {z} {h} {t} a b c = rw (a, b, c)
