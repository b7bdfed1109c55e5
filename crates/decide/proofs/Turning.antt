-- A round and the choice of the rules for the next. Assumes nothing.
use mathlib.Core.Bool.{Bool, true, false, not, ◌&&◌, ◌||◌}
use mathlib.Core.List.{List}
use mathlib.Core.Logic.{⊎_elim}
use mathlib.Core.Path.{◌≡◌, refl, sym, ap, ◌∙◌, subst}
use Prim.Native.Nat.{ℕ, suc, ◌<◌}
use native.Mathlib.Omega.{arith}
use lib.Bits.{bit_or}
use lib.Dec.{T, T_not, eqb}
use borrow.Author.Tests.{eqb-true}
use Rattle.product.specs.Lists.{any}
use Rattle.product.specs.Product.{Product}
use Rattle.product.specs.Facts.{Fact, head, triple, cells}
use Rattle.product.specs.Rounds.{held}
use Rattle.product.specs.Verdict.{adds}
use Rattle.product.proofs.Lists.{and_left, and_right, both, or_cases, any_of}
use Rattle.product.proofs.Lists
use Rattle.product.proofs.Range.{held_within, held_cell}
use Rattle.table.specs.declared.Size.{Size}
use Rattle.bits.specs.Bit.{bit}
use Rattle.bits.proofs.Bit.{bit_or_lem, bit_zero}
use Rattle.bits.proofs.Some.{has_bit}
use Rattle.decide.specs.declared.Next.{Next}
use Rattle.decide.specs.Standing.{Begins, Ends}
use Rattle.decide.specs.Turn.{Uses, Chosen, After}
use Rattle.decide.proofs.Choosing.{sets_next}

pub not_true : (b : Bool) → not b ≡ true → b ≡ false
not_true false e = refl
not_true true e = absurd (subst T (sym e) tt)

pub not_false : (b : Bool) → not b ≡ false → b ≡ true
not_false true e = refl
not_false false e = absurd (subst T e tt)

-- whether there are any
is_none : (d : ℕ) → not (eqb d 0) ≡ false → d ≡ 0
is_none d x = go (eqb d 0) refl x
  where
    go : (b : Bool) → eqb d 0 ≡ b → not b ≡ false → d ≡ 0
    go true e x = eqb-true d 0 e
    go false e x = absurd (subst T x tt)

is_some : (d : ℕ) → not (eqb d 0) ≡ true → d ≡ 0 → ⊥
is_some d x z = subst T (sym x ∙ ap (λ d. not (eqb d 0)) z) tt

module _ {p : Product} {z : Size} {n : ℕ} {wt wh rs tg by e hd hs ts : List ℕ} (b : Begins p z n wt wh rs tg by e hd hs ts)
    {ce ch : ℕ} {by' e' hd' hs' ts' : List ℕ} (s : Ends p z n rs tg hs ts ce ch by' e' hd' hs' ts') where
  pub triples_low : (g : ℕ) → T (bit ce g) → g < 32
  triples_low g t =
      let (q, x, a, _) = s.triples_fresh g t in
      let (_, i, _) = held_within p b.arrays.in_range (suc n) (triple q g x) a in
      omega (arith, i, b.arrays.symbols_are, b.standing.triples_room.few)

  pub heads_low : (g : ℕ) → T (bit ch g) → g < 32
  heads_low g t =
      let (q, a, _) = s.heads_fresh g t in
      let (_, i) = held_within p b.arrays.in_range (suc n) (head q g) a in
      omega (arith, i, b.arrays.symbols_are, b.standing.triples_room.few)

  added : (f : Fact) → T (held p (suc n) f) → T (not (held p n f)) → T (adds p (suc n))
  unfolding adds
  added f a c =
      any_of (λ f. not (held p n f) && held p (suc n) f) (cells p) f (held_cell p b.arrays.in_range (suc n) f a) (both (not (held p n f)) (held p (suc n) f) c a)

  busy : (bit_or ce ch ≡ 0 → ⊥) → T (adds p (suc n))
  busy k =
      let (g, t) = has_bit (bit_or ce ch) k in
      ⊎_elim (λ t. let (q, x, a, c) = s.triples_fresh g t in added (triple q g x) a c) (λ t. let (q, a, c) = s.heads_fresh g t in added (head q g) a c)
      (or_cases (bit ce g) (bit ch g) (subst T (bit_or_lem ce ch g) t))

  idle : bit_or ce ch ≡ 0 → T (not (adds p (suc n)))
  unfolding adds
  idle k = go (any (λ f. not (held p n f) && held p (suc n) f) (cells p)) refl
    where
      none : (g : ℕ) → (bit ce g || bit ch g) ≡ false
      none g = sym (bit_or_lem ce ch g) ∙ ap (λ d. bit d g) k ∙ bit_zero g

      left : (a b : Bool) → a || b ≡ false → a ≡ false
      left false b x = refl
      left true b x = absurd (subst T x tt)

      right : (a b : Bool) → a || b ≡ false → b ≡ false
      right false b x = x
      right true b x = absurd (subst T x tt)

      still : (f : Fact) → T (held p (suc n) f) → T (held p n f)
      still (head q g) t = s.heads_quiet q g (right (bit ce g) (bit ch g) (none g)) t
      still (triple q g x) t = s.triples_quiet q g x (left (bit ce g) (bit ch g) (none g)) t

      go : (c : Bool) → any (λ f. not (held p n f) && held p (suc n) f) (cells p) ≡ c → T (not c)
      go false x = tt
      go true x =
          let (f, _, u) = Lists.some_of (λ f. not (held p n f) && held p (suc n) f) (cells p) (rw x tt) in
          absurd (T_not (held p n f) (and_left (not (held p n f)) (held p (suc n) f) u) (still f (and_right (not (held p n f)) (held p (suc n) f) u)))

  module _ {us : List ℕ} (U : Uses p us) {t : Next} (c : Chosen us ce ch t) where
    pub after_turn : After p z n rs tg hs ts t by' e' hd' hs' ts'
    after_turn = record {
      begins = record {
        arrays = b.arrays;
        sets = sets_next p b.arrays.in_range b.arrays.frame.few_rules us U n ce ch triples_low heads_low
            record { triples = s.triples_quiet; heads = s.heads_quiet } c.triples c.returned c.heads;
        stored = s.stored;
        standing = s.standing;
      };
      triples_kept = s.triples_kept;
      heads_kept = s.heads_kept;
      idle = λ x. idle (is_none (bit_or ce ch) (sym c.more_is ∙ x));
      busy = λ x. busy (is_some (bit_or ce ch) (sym c.more_is ∙ x));
      low = λ g u. heads_low g (subst (λ d. T (bit d g)) c.changed_is u);
      quiet = λ q g u. s.heads_quiet q g (ap (λ d. bit d g) (sym c.changed_is) ∙ u);
    }
