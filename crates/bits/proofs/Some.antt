-- The loop over the set bits of a word: some set bit passes, by the lowest and the others. Assumes nothing.
use mathlib.Core.Bool.{Bool, true, false, not, ◌&&◌, ◌||◌}
use mathlib.Core.Logic.{◌⊎◌, inl, inr}
use mathlib.Core.Path.{◌≡◌, refl, sym, ◌∙◌, subst, subst⁻¹}
use Prim.Native.Nat.{ℕ, zero, suc, ◌-◌, ◌^◌, ◌<◌}
use native.Mathlib.Nat.{zero-lt-suc, pow-suc}
use native.Mathlib.Omega.{arith}
use native.Mathlib.Decide.{ℕ_discrete, dec_lt}
use lib.Dec.{T, eqb}
use borrow.Author.Tests.{ne_eqb}
use lib.Bits.{bit_and}
use lib.Pow.{pow_pos}
use Rattle.product.proofs.Lists.{and_left, and_right, both, or_left, or_right, or_cases, same_truth}
use Rattle.bits.specs.Bit.{bit}
use Rattle.bits.specs.Matrix.{some}
use Rattle.bits.specs.Ones.{Lowest}
use Rattle.bits.proofs.Bit.{bit_zero, bit_past, bit_ext}
use Rattle.bits.proofs.Lowest.{lowest, lowest_set, cleared}

-- some number below n
pub some_of : (n : ℕ) (f : ℕ → Bool) (j : ℕ) → j < n → T (f j) → T (some n f)
some_of zero f j h t = absurd (omega arith)
some_of (suc n) f j h t = go (some_of n f j) (ℕ_discrete j n)
  where
    go : (j < n → T (f j) → T (some n f)) → Dec (j ≡ n) → T (some n f || f n)
    go k (yes e) = or_right (some n f) (f n) (subst (λ j. T (f j)) e t)
    go k (no e) = or_left (some n f) (f n) (k (omega arith) t)

pub of_some : (n : ℕ) (f : ℕ → Bool) → T (some n f) → (j : ℕ) × (j < n) × T (f j)
of_some zero f t = absurd t
of_some (suc n) f t = go (of_some n f) (or_cases (some n f) (f n) t)
  where
    go : (T (some n f) → (j : ℕ) × (j < n) × T (f j)) → T (some n f) ⊎ T (f n) → (j : ℕ) × (j < suc n) × T (f j)
    go k (inl t) = let (j, h, u) = k t in (j, omega arith, u)
    go k (inr t) = (n, omega arith, t)

-- the lowest of a set, and the others
module _ (d : ℕ) (pos : 0 < d) (small : d < 2 ^ 64) (f : ℕ → Bool) where
  pub lowest_lt : lowest d < 64
  lowest_lt = go (dec_lt (lowest d) 64)
    where
      go : Dec (lowest d < 64) → lowest d < 64
      go (yes h) = h
      go (no h) = absurd (subst T (bit_past d 64 (lowest d) small (omega arith)) (lowest_set 64 d pos small))

  pub some_lowest : some 64 (λ j. bit d j && f j) ≡ f (lowest d) || some 64 (λ j. bit (bit_and d (d - 1)) j && f j)
  some_lowest = same_truth (some 64 (λ j. bit d j && f j)) (f (lowest d) || some 64 (λ j. bit (bit_and d (d - 1)) j && f j)) to from
    where
      to : T (some 64 (λ j. bit d j && f j)) → T (f (lowest d) || some 64 (λ j. bit (bit_and d (d - 1)) j && f j))
      to t = let (j, h, u) = of_some 64 (λ j. bit d j && f j) t in go j h u (ℕ_discrete j (lowest d))
        where
          go : (j : ℕ) → j < 64 → T (bit d j && f j) → Dec (j ≡ lowest d) → T (f (lowest d) || some 64 (λ j. bit (bit_and d (d - 1)) j && f j))
          go j h u (yes e) = or_left (f (lowest d)) (some 64 (λ j. bit (bit_and d (d - 1)) j && f j)) (subst (λ j. T (f j)) e (and_right (bit d j) (f j) u))
          go j h u (no e) =
              or_right (f (lowest d)) (some 64 (λ j. bit (bit_and d (d - 1)) j && f j))
              (some_of 64 (λ j. bit (bit_and d (d - 1)) j && f j) j h
              (both (bit (bit_and d (d - 1)) j) (f j)
              (subst⁻¹ T (cleared 64 d j pos small) (both (bit d j) (not (eqb j (lowest d))) (and_left (bit d j) (f j) u) (rw (ne_eqb j (lowest d) e) tt)))
              (and_right (bit d j) (f j) u)))

      from : T (f (lowest d) || some 64 (λ j. bit (bit_and d (d - 1)) j && f j)) → T (some 64 (λ j. bit d j && f j))
      from t = go (or_cases (f (lowest d)) (some 64 (λ j. bit (bit_and d (d - 1)) j && f j)) t)
        where
          go : T (f (lowest d)) ⊎ T (some 64 (λ j. bit (bit_and d (d - 1)) j && f j)) → T (some 64 (λ j. bit d j && f j))
          go (inl t) = some_of 64 (λ j. bit d j && f j) (lowest d) lowest_lt (both (bit d (lowest d)) (f (lowest d)) (lowest_set 64 d pos small) t)
          go (inr t) =
              let (j, h, u) = of_some 64 (λ j. bit (bit_and d (d - 1)) j && f j) t in
              some_of 64 (λ j. bit d j && f j) j h
              (both (bit d j) (f j)
              (and_left (bit d j) (not (eqb j (lowest d))) (subst T (cleared 64 d j pos small) (and_left (bit (bit_and d (d - 1)) j) (f j) u)))
              (and_right (bit (bit_and d (d - 1)) j) (f j) u))

-- the bit that an iterator takes, and the others
module _ {d i d' : ℕ} (t : Lowest d i d') where
  pub bit_taken : T (bit d i)
  bit_taken = rw t.place (lowest_set 64 d t.some_left t.word)

  pub bits_left : (j : ℕ) → bit d' j ≡ bit d j && not (eqb j i)
  bits_left j = rw (t.place, t.others) (cleared 64 d j t.some_left t.word)

  pub left_in : (j : ℕ) → T (bit d' j) → T (bit d j)
  left_in j u = and_left (bit d j) (not (eqb j i)) (subst T (bits_left j) u)

  pub some_taken : (f : ℕ → Bool) → some 64 (λ j. bit d j && f j) ≡ f i || some 64 (λ j. bit d' j && f j)
  some_taken f = rw (t.place, t.others) (some_lowest d t.some_left t.word f)

pub some_none : (n : ℕ) (f : ℕ → Bool) → some n (λ j. bit 0 j && f j) ≡ false
some_none zero f = refl
some_none (suc n) f = rw (some_none n f, bit_zero n)

pub low64 : (d : ℕ) → 0 < d → d < 2 ^ 64 → lowest d < 64
low64 d p h = lowest_lt d p h (λ _. true)

-- a number that is not 0 has a bit
pub below_pow : (n : ℕ) → n < 2 ^ n
below_pow zero = zero-lt-suc 0
below_pow (suc n) = omega (arith, below_pow n, pow-suc 2 n)

pub has_bit : (d : ℕ) → (d ≡ 0 → ⊥) → (i : ℕ) × T (bit d i)
has_bit d k = go (some d (bit d)) refl
  where
    go : (b : Bool) → some d (bit d) ≡ b → (i : ℕ) × T (bit d i)
    go true x = let (i, _, t) = of_some d (bit d) (rw x tt) in (i, t)
    go false x = absurd (k (bit_ext d d 0 (below_pow d) (pow_pos d) (λ i l. at i l (bit d i) refl ∙ sym (bit_zero i))))
      where
        at : (i : ℕ) → i < d → (b : Bool) → bit d i ≡ b → bit d i ≡ false
        at i l false y = y
        at i l true y = absurd (subst T x (some_of d (bit d) i l (rw y tt)))
