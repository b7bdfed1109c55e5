-- The sets of the next round name enough rules. Assumes nothing.
use mathlib.Core.Bool.{Bool, true, false, ◌&&◌, ◌||◌}
use mathlib.Core.List.{List}
use mathlib.Core.Logic.{◌⊎◌, inl, inr, ⊎_elim}
use mathlib.Core.Path.{◌≡◌, refl, sym, ap, ◌∙◌, subst, subst⁻¹}
use Prim.Native.Nat.{ℕ, suc, ◌+◌, ◌/◌, ◌%◌, ◌<◌, ◌≤◌}
use native.Mathlib.Nat.{zero-lt-suc, div-lt_iff_lt-mul, zero-add}
use native.Mathlib.Omega.{arith}
use native.Mathlib.Decide.{dec_lt}
use lib.Dec.{T}
use lib.ListN.{length, replicate, get_or-eq_default}
use Rattle.product.specs.Product.{Rule, exit, direct, call, Product, InRange}
use Rattle.product.specs.Facts.{same, first}
use Rattle.product.proofs.Lists.{and_right, both, or_left, or_right, or_cases}
use Rattle.bits.specs.Bit.{bit}
use Rattle.bits.proofs.Bit.{bit_zero}
use Rattle.bits.specs.Ones.{Lowest}
use Rattle.bits.proofs.Some.{some_of, of_some, bit_taken, left_in, some_taken, some_none}
use Rattle.relations.specs.Quiet.{QuietT, QuietH, Told}
use Rattle.relations.proofs.Quiet.{enough_later}
use Rattle.decide.specs.Sets.{member, chosen, Joined}
use Rattle.decide.specs.Standing.{Sets}
use Rattle.decide.specs.Turn.{collected, Collected, UsesOf, Uses}
use Rattle.decide.proofs.Members.{or_false}
use Rattle.decide.proofs.Gathered.{or_assoc}
use Rattle.decide.proofs.Emptied.{zeros_at}

-- what is left to collect, with the set as it is, makes what was asked
pub record Left (us : List ℕ) (from changed : ℕ) (w₀ : List ℕ) (d : ℕ) (w : List ℕ) : Type 0 where
  pub low : (g : ℕ) → T (bit d g) → g < 32
  pub long : length w ≡ 4
  pub is : (r : ℕ) → r < 256 → chosen w r || collected us from d r ≡ chosen w₀ r || collected us from changed r

module _ {us : List ℕ} {from changed : ℕ} {w₀ : List ℕ} where
  pub left_first : {d : ℕ} → d ≡ changed → ((g : ℕ) → T (bit changed g) → g < 32) → length w₀ ≡ 4 → Left us from changed w₀ d w₀
  left_first e low l = rw e (record { low = low; long = l; is = λ r _. refl })

  module _ {d g d' : ℕ} {w : List ℕ} (t : Lowest d g d') (l : Left us from changed w₀ d w) where
    pub low_taken : g < 32
    low_taken = l.low g (bit_taken t)

    pub left_next : {w' : List ℕ} → Joined w us (from + g) w' → Left us from changed w₀ d' w'
    unfolding collected
    left_next j = record {
      low = λ g u. l.low g (left_in t g u);
      long = j.long;
      is = λ r h.
          ap (λ b. b || collected us from d' r) (j.is r h)
          ∙ sym (or_assoc (chosen w r) (member us (from + g) r) (collected us from d' r))
          ∙ ap (λ b. chosen w r || b) (sym (some_taken t (λ g. member us (from + g) r)))
          ∙ l.is r h;
    }

  pub left_last : {d : ℕ} {w : List ℕ} → d ≡ 0 → Left us from changed w₀ d w → Collected us from changed w₀ w
  unfolding collected
  left_last {d} {w} z l = record {
    long = l.long;
    is = λ r h.
        or_false (chosen w r) ∙ ap (λ b. chosen w r || b) (sym (some_none 64 (λ g. member us (from + g) r)))
        ∙ ap (λ d. chosen w r || collected us from d r) (sym z) ∙ l.is r h;
  }

-- a set has numbers below 256 only, and the empty set none
pub chosen_small : (w : List ℕ) (r : ℕ) → length w ≡ 4 → T (chosen w r) → r < 256
unfolding chosen
chosen_small w r long t = go (dec_lt (r / 64) 4)
  where
    go : Dec (r / 64 < 4) → r < 256
    go (yes l) = (div-lt_iff_lt-mul {k = 64} (zero-lt-suc 63)).0 l
    go (no l) = absurd (subst T (ap (λ n. bit n (r % 64)) (get_or-eq_default w 0 (omega (arith, long))) ∙ bit_zero (r % 64)) t)

pub no_member : (r : ℕ) → T (chosen (replicate {A = ℕ} 4 0) r) → ⊥
unfolding chosen
no_member r t = subst T (ap (λ n. bit n (r % 64)) (zeros_at 4 (r / 64)) ∙ bit_zero (r % 64)) t

pub off : (b : Bool) → (T b → ⊥) → b ≡ false
off false h = refl
off true h = absurd (h tt)

-- a rule of the joined set was there, or it stands in the set of a symbol that changed; and those are all in
module _ {us : List ℕ} {from changed : ℕ} {w w' : List ℕ} (c : Collected us from changed w w') where
  pub collected_cases : (r : ℕ) → T (chosen w' r) → T (chosen w r) ⊎ ((s : ℕ) × (r < 256) × T (member us s r))
  unfolding collected
  collected_cases r t =
      let h = chosen_small w' r c.long t in
      ⊎_elim inl (λ v. let (g, _, x) = of_some 64 (λ g. bit changed g && member us (from + g) r) v in inr (from + g, h, and_right (bit changed g) (member us (from + g) r) x))
      (or_cases (chosen w r) (collected us from changed r) (subst T (c.is r h) t))

  pub collected_was : (r : ℕ) → r < 256 → T (chosen w r) → T (chosen w' r)
  collected_was r h t = subst⁻¹ T (c.is r h) (or_left (chosen w r) (collected us from changed r) t)

  pub collected_new : (r g : ℕ) → r < 256 → g < 32 → T (bit changed g) → T (member us (from + g) r) → T (chosen w' r)
  unfolding collected
  collected_new r g h l a b =
      subst⁻¹ T (c.is r h)
      (or_right (chosen w r) (collected us from changed r)
      (some_of 64 (λ g. bit changed g && member us (from + g) r) g (omega arith) (both (bit changed g) (member us (from + g) r) a b)))

module _ (p : Product) (R : InRange p) (few : p.rules ≤ 256) (us : List ℕ) (U : Uses p us) (n ce ch : ℕ)
    (ce-low : (g : ℕ) → T (bit ce g) → g < 32) (ch-low : (g : ℕ) → T (bit ch g) → g < 32)
    (D : Told p (same (first p)) n (bit ce) (bit ch)) {wt wc wh : List ℕ}
    (jt : Collected us 0 ce (replicate {A = ℕ} 4 0) wt) (jc : Collected us 32 ce (replicate {A = ℕ} 4 0) wc) (jh : Collected us 64 ch wc wh) where
  new_t : (r g : ℕ) → r < p.rules → T (member us g r) → chosen wt r ≡ false → bit ce g ≡ false
  new_t r g l a x = off (bit ce g) (λ t. subst T x (collected_new jt r g (omega arith) (ce-low g t) t (subst⁻¹ (λ s. T (member us s r)) (zero-add g) a)))

  new_h : (r g : ℕ) → r < p.rules → T (member us (64 + g) r) → chosen wh r ≡ false → bit ch g ≡ false
  new_h r g l a x = off (bit ch g) (λ t. subst T x (collected_new jh r g (omega arith) (ch-low g t) t a))

  new_c : (r g : ℕ) → r < p.rules → T (member us (32 + g) r) → chosen wh r ≡ false → bit ce g ≡ false
  new_c r g l a x = off (bit ce g) (λ t. subst T x (collected_was jh r (omega arith) (collected_new jc r g (omega arith) (ce-low g t) t a)))

  watch_t : (r : ℕ) → r < p.rules → (ρ : Rule) → UsesOf us r ρ → chosen wt r ≡ false → QuietT (bit ce) ρ
  watch_t r l (exit g) u x = tt
  watch_t r l (direct g g1) (a, _) x = new_t r g1 l a x
  watch_t r l (call g g1 g2) (a, b, _, _) x = (new_t r g1 l a x, new_t r g2 l b x)

  watch_h : (r : ℕ) → r < p.rules → (ρ : Rule) → UsesOf us r ρ → chosen wh r ≡ false → QuietH (bit ce) (bit ch) ρ
  watch_h r l (exit g) u x = tt
  watch_h r l (direct g g1) (_, b) x = new_h r g l b x
  watch_h r l (call g g1 g2) (_, _, c, d) x = (new_h r g l d x, new_c r g1 l c x)

  from_us : {r : ℕ} → (s : ℕ) × (r < 256) × T (member us s r) → r < p.rules
  from_us {r} (s, h, t) = U.only s r h t

  pub sets_next : Sets p (suc n) wt wh
  sets_next = record {
    triples_long = jt.long;
    heads_long = jh.long;
    triples_only = λ r t. ⊎_elim (λ a. absurd (no_member r a)) from_us (collected_cases jt r t);
    heads_only = λ r t. ⊎_elim (λ a. ⊎_elim (λ b. absurd (no_member r b)) from_us (collected_cases jc r a)) from_us (collected_cases jh r t);
    enough = enough_later p R (same (first p)) n (bit ce) (bit ch) (chosen wt) (chosen wh)
        record { triples = λ r l x. watch_t r l (p.rule r) (U.there r l) x; heads = λ r l x. watch_h r l (p.rule r) (U.there r l) x } D;
  }
