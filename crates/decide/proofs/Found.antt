-- A violating fact is held exactly if the matrices show one, of a symbol that changed. Assumes nothing.
use mathlib.Core.Bool.{Bool, true, false, not, ◌&&◌, ◌||◌}
use mathlib.Core.List.{List}
use mathlib.Core.Logic.{⊎_elim}
use mathlib.Core.Path.{◌≡◌, refl, sym, ap, ap₂, ◌∙◌, subst, subst⁻¹}
use Prim.Native.Nat.{ℕ, ◌+◌, ◌*◌, ◌/◌, ◌^◌, ◌<◌}
use native.Mathlib.Nat.{zero-add}
use native.Mathlib.Omega.{arith}
use lib.Bits.{bit_and, bit_or}
use lib.Dec.{T, T_not, eqb, eqb→eq, eqb_refl}
use lib.ListN.{get_or}
use Rattle.product.specs.Lists.{any, ◌∈◌}
use Rattle.product.specs.Product.{Product, InRange}
use Rattle.product.specs.Facts.{Fact, head, triple, cells}
use Rattle.product.specs.Rounds.{held}
use Rattle.product.specs.Verdict.{violating, violated}
use Rattle.product.proofs.Lists.{and_left, and_right, both, or_left, or_right, or_cases}
use Rattle.product.proofs.Lists
use Rattle.product.proofs.Range.{held_within}
use Rattle.product.proofs.Verdict.{violated_by}
use Rattle.table.specs.declared.Size.{Size}
use Rattle.bits.specs.Bit.{bit}
use Rattle.bits.proofs.Bit.{bit_and_lem, bit_or_lem, bit_zero, bit_shr}
use Rattle.bits.specs.Ones.{Lowest}
use Rattle.bits.proofs.Some.{of_some, some_of, bit_taken, left_in, some_taken, some_none, has_bit}
use Rattle.decide.specs.declared.Goal.{Goal}
use Rattle.decide.specs.Standing.{Begins}
use Rattle.decide.specs.Driven.{final_heads, violations, Goals}
use Rattle.decide.proofs.Members.{or_false}
use Rattle.decide.proofs.Gathered.{or_assoc}
use Rattle.decide.proofs.Taking.{mat_in}
use Rattle.decide.proofs.RoundTriples.{states_in, eight}

-- the loop over the symbols that changed: what is left to look at, with what was seen, makes what was asked
pub record Left (fins changed : ℕ) (hd e : List ℕ) (q g d r : ℕ) : Type 0 where
  pub low : (s : ℕ) → T (bit d s) → s < 32
  pub is : (x : ℕ) → bit r x || final_heads fins d hd x ≡ violations fins changed hd e q g x

module _ {fins changed : ℕ} {hd e : List ℕ} {q g : ℕ} where
  pub left_first : {d : ℕ} → d ≡ changed → ((s : ℕ) → T (bit changed s) → s < 32) → Left fins changed hd e q g d (bit_and (get_or e g 0 / 2 ^ (8 * q)) fins)
  unfolding violations
  left_first z low = rw z (record {
    low = low;
    is = λ x. ap (λ b. b || final_heads fins changed hd x) (bit_and_lem (get_or e g 0 / 2 ^ (8 * q)) fins x ∙ ap (λ b. b && bit fins x) (bit_shr (get_or e g 0) (8 * q) x));
  })

  module _ {d s d' r : ℕ} (t : Lowest d s d') (l : Left fins changed hd e q g d r) where
    pub low_taken : s < 32
    low_taken = l.low s (bit_taken t)

    pub left_next : Left fins changed hd e q g d' (bit_or r (bit_and (get_or hd s 0) fins))
    unfolding final_heads
    left_next = record {
      low = λ s u. l.low s (left_in t s u);
      is = λ x.
          ap (λ b. b || final_heads fins d' hd x) (bit_or_lem r (bit_and (get_or hd s 0) fins) x ∙ ap (λ b. bit r x || b) (bit_and_lem (get_or hd s 0) fins x))
          ∙ sym (or_assoc (bit r x) (bit (get_or hd s 0) x && bit fins x) (final_heads fins d' hd x))
          ∙ ap (λ b. bit r x || b) (sym (some_taken t (λ s. bit (get_or hd s 0) x && bit fins x)))
          ∙ l.is x;
    }

  pub left_last : {d r : ℕ} → d ≡ 0 → Left fins changed hd e q g d r → (x : ℕ) → bit r x ≡ violations fins changed hd e q g x
  unfolding final_heads
  left_last {d} {r} z l x =
      or_false (bit r x) ∙ ap (λ b. bit r x || b) (sym (some_none 64 (λ s. bit (get_or hd s 0) x && bit fins x)))
      ∙ ap (λ d. bit r x || final_heads fins d hd x) (sym z) ∙ l.is x

-- and what they mean, where no other symbol has a head in a final state
module _ {p : Product} {z : Size} {n : ℕ} {wt wh rs tg by e hd hs ts : List ℕ} (b : Begins p z n wt wh rs tg by e hd hs ts) {goal : Goal} (f : Goals p goal)
    (changed : ℕ) (low : (s : ℕ) → T (bit changed s) → s < 32)
    (r : ℕ) (r-is : (x : ℕ) → bit r x ≡ violations goal.finals changed hd e goal.state goal.symbol x) where
  abbrev fins : ℕ
  fins = goal.finals

  r_at : (x : ℕ) → bit r x ≡ violations fins changed hd e p.start_state p.start_symbol x
  r_at x = r-is x ∙ ap₂ (λ q g. violations fins changed hd e q g x) f.state_is f.symbol_is

  R : InRange p
  R = b.arrays.in_range

  in_eight : (x : ℕ) → x ∈ p.states → x < 8
  in_eight x i = eight p R z.states rs tg b.arrays.frame (states_in p R z.states rs tg b.arrays.frame x i)

  -- a bit of a row is a head, and one of the start symbol's matrix is a triple
  head_is : (g x : ℕ) → x < 8 → bit (get_or hd g 0) x ≡ held p n (head x g)
  head_is g x l = sym (mat_in (get_or hd g 0) 0 x (omega arith) l ∙ ap (bit (get_or hd g 0)) (zero-add x)) ∙ b.standing.heads_held g x

  triple_is : (x : ℕ) → x < 8 → bit (get_or e p.start_symbol 0) (x + 8 * p.start_state) ≡ held p n (triple p.start_state p.start_symbol x)
  triple_is x l =
      ap (bit (get_or e p.start_symbol 0)) {x = x + 8 * p.start_state} {y = p.start_state * 8 + x} (omega arith)
      ∙ sym (mat_in (get_or e p.start_symbol 0) p.start_state x (in_eight p.start_state R.state_in) l) ∙ b.standing.triples_held p.start_symbol p.start_state x

  abbrev erased : ℕ → Bool
  erased x = bit (get_or e p.start_symbol 0) (x + 8 * p.start_state) && bit fins x

  abbrev shows : ℕ → ℕ → Bool
  shows x s = bit changed s && (bit (get_or hd s 0) x && bit fins x)

  pub found : (r ≡ 0 → ⊥) → T (violated p n)
  unfolding violations final_heads
  found k =
      let (x, t) = has_bit r k in
      ⊎_elim
      (λ v. let w : T (bit fins x) = and_right (bit (get_or e p.start_symbol 0) (x + 8 * p.start_state)) (bit fins x) v in
      violated_by p R n (triple p.start_state p.start_symbol x)
      (both (eqb p.start_state p.start_state && eqb p.start_symbol p.start_symbol) (p.final x)
      (both (eqb p.start_state p.start_state) (eqb p.start_symbol p.start_symbol) (eqb_refl p.start_state) (eqb_refl p.start_symbol)) (f.is x w))
      (subst T (triple_is x (f.low x w)) (and_left (bit (get_or e p.start_symbol 0) (x + 8 * p.start_state)) (bit fins x) v)))
      (λ u. let (g, _, v) = of_some 64 (shows x) u in
      let c : T (bit (get_or hd g 0) x && bit fins x) = and_right (bit changed g) (bit (get_or hd g 0) x && bit fins x) v in
      let w : T (bit fins x) = and_right (bit (get_or hd g 0) x) (bit fins x) c in
      violated_by p R n (head x g) (f.is x w) (subst T (head_is g x (f.low x w)) (and_left (bit (get_or hd g 0) x) (bit fins x) c)))
      (or_cases (erased x) (final_heads fins changed hd x) (subst T (r_at x) t))

  seen : (x : ℕ) → T (violations fins changed hd e p.start_state p.start_symbol x) → r ≡ 0 → ⊥
  seen x t y = subst T (sym (r_at x) ∙ ap (λ d. bit d x) y ∙ bit_zero x) t

  pub not_found : ((q s : ℕ) → bit changed s ≡ false → T (held p n (head q s)) → T (not (p.final q))) → r ≡ 0 → T (not (violated p n))
  unfolding violated violations final_heads
  not_found others y = go (any (λ d. violating p d && held p n d) (cells p)) refl
    where
      at : (d : Fact) → T (violating p d) → T (held p n d) → ⊥
      at (head x g) v h = here (bit changed g) refl
        where
          here : (c : Bool) → bit changed g ≡ c → ⊥
          here false c = T_not (p.final x) (others x g c h) v
          here true c =
              let l : x < 8 = in_eight x (held_within p R n (head x g) h).0 in
              let t : T (bit changed g) = subst⁻¹ T c tt in
              seen x
              (or_right (erased x) (final_heads fins changed hd x)
              (some_of 64 (shows x) g (let i = low g t in omega arith)
              (both (bit changed g) (bit (get_or hd g 0) x && bit fins x) t (both (bit (get_or hd g 0) x) (bit fins x) (subst⁻¹ T (head_is g x l) h) (f.all x l v))))) y
      at (triple q g x) v h =
          let u : T (eqb q p.start_state && eqb g p.start_symbol) = and_left (eqb q p.start_state && eqb g p.start_symbol) (p.final x) v in
          let a : q ≡ p.start_state = eqb→eq q p.start_state (and_left (eqb q p.start_state) (eqb g p.start_symbol) u) in
          let c : g ≡ p.start_symbol = eqb→eq g p.start_symbol (and_right (eqb q p.start_state) (eqb g p.start_symbol) u) in
          let l : x < 8 = in_eight x (held_within p R n (triple q g x) h).2 in
          let h' : T (held p n (triple p.start_state p.start_symbol x)) = subst (λ g. T (held p n (triple p.start_state g x))) c (subst (λ q. T (held p n (triple q g x))) a h) in
          seen x
          (or_left (erased x) (final_heads fins changed hd x)
          (both (bit (get_or e p.start_symbol 0) (x + 8 * p.start_state)) (bit fins x) (subst⁻¹ T (triple_is x l) h')
          (f.all x l (and_right (eqb q p.start_state && eqb g p.start_symbol) (p.final x) v)))) y

      go : (c : Bool) → any (λ d. violating p d && held p n d) (cells p) ≡ c → T (not c)
      go false x = tt
      go true x =
          let (d, _, u) = Lists.some_of (λ d. violating p d && held p n d) (cells p) (rw x tt) in
          absurd (at d (and_left (violating p d) (held p n d) u) (and_right (violating p d) (held p n d) u))
