-- The rules put into the sets of what they need, the exits, and the final states. Assumes nothing.
use mathlib.Core.Bool.{Bool, true, false, cond, ◌&&◌, ◌||◌}
use mathlib.Core.List.{List}
use mathlib.Core.Logic.{◌⊎◌, inl, inr, ⊎_elim}
use mathlib.Core.Path.{◌≡◌, refl, sym, ap, ap₂, ◌∙◌, subst, subst⁻¹}
use Prim.Native.Nat.{ℕ, zero, suc, ◌+◌, ◌*◌, ◌/◌, ◌%◌, ◌^◌, ◌<◌}
use native.Mathlib.Omega.{arith}
use native.Mathlib.Decide.{ℕ_discrete, dec_lt}
use lib.Bits.{bit_or}
use lib.Dec.{T, eqb, ltb, eqb→eq, eqb_refl}
use lib.ListN.{length}
use borrow.Author.Tests.{eq-eqb, ne_eqb, lt-ltb, le-ltb}
use Rattle.product.specs.Product.{Rule, exit, direct, call}
use Rattle.product.proofs.Lists.{and_right, both, or_left, or_right, or_cases}
use Rattle.bits.specs.Bit.{bit}
use Rattle.bits.proofs.Bit.{bit_or_lem, bit_zero}
use Rattle.bits.proofs.Set.{bit_pow, one_shifted}
use Rattle.steps.specs.Steps.{symbol_of}
use Rattle.steps.specs.declared.Row.{Row}
use Rattle.steps.specs.declared.Kind.TheVariants.{Exit, Direct}
use Rattle.steps.specs.Rows.{kind_of, kind_at, class_at, over_at, under_at, RowAt, rule_by, row_rule}
use Rattle.decide.specs.Sets.{member, chosen, With, Put}
use Rattle.decide.specs.Gather.{Empty}
use Rattle.decide.specs.Turn.{UsesOf}
use Rattle.decide.specs.Build.{UsesPut, UsesAll, ExitPut, Exits, RulePut, RulesSorted}
use Rattle.decide.proofs.Members.{or_false}

-- one set more has r
pub record Grew (r : ℕ) (us us' : List ℕ) : Type 0 where
  pub long : length us' ≡ 384
  pub kept : (s x : ℕ) → x < 256 → T (member us s x) → T (member us' s x)
  pub only : (s x : ℕ) → x < 256 → T (member us' s x) → T (member us s x) ⊎ (r ≡ x)

grew_none : (r : ℕ) (us : List ℕ) → length us ≡ 384 → Grew r us us
grew_none r us l = record { long = l; kept = λ s x h t. t; only = λ s x h t. inl t }

grew_then : {r : ℕ} {a b c : List ℕ} → Grew r a b → Grew r b c → Grew r a c
grew_then g h = record {
  long = h.long;
  kept = λ s x l t. h.kept s x l (g.kept s x l t);
  only = λ s x l t. ⊎_elim (g.only s x l) inr (h.only s x l t);
}

module _ {us us' : List ℕ} {s r : ℕ} (p : Put us s r us') where
  put_grew : Grew r us us'
  put_grew = record {
    long = p.long;
    kept = λ s' x h t. subst⁻¹ T (p.is s' x h) (or_left (member us s' x) (eqb s s' && eqb r x) t);
    only = λ s' x h t. ⊎_elim inl (λ u. inr (eqb→eq r x (and_right (eqb s s') (eqb r x) u))) (or_cases (member us s' x) (eqb s s' && eqb r x) (subst T (p.is s' x h) t));
  }

  put_there : r < 256 → T (member us' s r)
  put_there h = subst⁻¹ T (p.is s r h) (or_right (member us s r) (eqb s s && eqb r r) (both (eqb s s) (eqb r r) (eqb_refl s) (eqb_refl r)))

put_at : {us us' : List ℕ} {s t r : ℕ} → Put us s r us' → s ≡ t → r < 256 → T (member us' t r)
put_at {us} {us'} {s} {t} {r} p e h = subst (λ s. T (member us' s r)) e (put_there p h)

-- a kind by its number, and the number by the kind
exit_number : (n : ℕ) → kind_of n ≡ Exit → n ≡ 0
exit_number zero e = refl
exit_number (suc zero) e = absurd (cc)
exit_number (suc (suc n)) e = absurd (cc)

rule_exit : (rs : List ℕ) (r : ℕ) → kind_at rs r ≡ 0 → exit (symbol_of (class_at rs r)) ≡ row_rule rs r
rule_exit rs r k = rw k

rule_direct : (rs : List ℕ) (r : ℕ) → kind_of (kind_at rs r) ≡ Direct → direct (symbol_of (class_at rs r)) (over_at rs r) ≡ row_rule rs r
rule_direct rs r k = go (kind_at rs r) k
  where
    go : (n : ℕ) → kind_of n ≡ Direct → direct (symbol_of (class_at rs r)) (over_at rs r) ≡ rule_by n (symbol_of (class_at rs r)) (over_at rs r) (under_at rs r)
    go zero k = absurd (cc)
    go (suc zero) k = refl
    go (suc (suc n)) k = absurd (cc)

rule_call : (rs : List ℕ) (r : ℕ) → (kind_of (kind_at rs r) ≡ Exit → ⊥) → (kind_of (kind_at rs r) ≡ Direct → ⊥) → call (symbol_of (class_at rs r)) (over_at rs r) (under_at rs r) ≡ row_rule rs r
rule_call rs r h k = go (kind_at rs r) h k
  where
    go : (n : ℕ) → (kind_of n ≡ Exit → ⊥) → (kind_of n ≡ Direct → ⊥) → call (symbol_of (class_at rs r)) (over_at rs r) (under_at rs r) ≡ rule_by n (symbol_of (class_at rs r)) (over_at rs r) (under_at rs r)
    go zero h k = absurd (h refl)
    go (suc zero) h k = absurd (k refl)
    go (suc (suc n)) h k = refl

-- the exits with rule r, if it is one
exit_other : (rs : List ℕ) (r : ℕ) {w : List ℕ} → length w ≡ 4 → (kind_at rs r ≡ 0 → ⊥) → ExitPut rs r w w
exit_other rs r {w} l h = record { long = l; is = λ x. or_false (chosen w x) ∙ ap (λ b. chosen w x || b) (sym (ap (λ b. eqb r x && b) (ne_eqb (kind_at rs r) 0 h) ∙ and_off (eqb r x))) }
  where
    and_off : (a : Bool) → a && false ≡ false
    and_off true = refl
    and_off false = refl

exit_put : (rs : List ℕ) (r : ℕ) {w w' : List ℕ} → kind_at rs r ≡ 0 → With w r w' → ExitPut rs r w w'
exit_put rs r {w} {w'} k m = record { long = m.long; is = λ x. m.is x ∙ ap (λ b. chosen w x || b) (and_on (eqb r x) ∙ ap (λ b. eqb r x && b) (sym (eq-eqb (kind_at rs r) 0 k))) }
  where
    and_on : (a : Bool) → a ≡ a && true
    and_on true = refl
    and_on false = refl

-- rule r, by its row; w is the set of the exits
module _ {rs : List ℕ} {r : ℕ} {row : Row} (i : RowAt rs r row) (l : r < 256) (us : List ℕ) where
  from_grew : {us' : List ℕ} → Grew r us us' → UsesOf us' r (row_rule rs r) → UsesPut rs r us us'
  from_grew g u = record { long = g.long; there = u; kept = g.kept; only = g.only }

  pub put_exit : length us ≡ 384 → row.kind ≡ Exit → {w w' : List ℕ} → With w r w' → RulePut rs r us w us w'
  put_exit long k m =
      let z : kind_at rs r ≡ 0 = exit_number (kind_at rs r) (sym i.kind_is ∙ k) in
      record { uses = from_grew (grew_none r us long) (subst (UsesOf us r) (rule_exit rs r z) tt); exits = exit_put rs r z m }

  module _ (w : List ℕ) (few : length w ≡ 4) (h : row.kind ≡ Exit → ⊥) {g : ℕ} {a b : List ℕ} (g-is : g ≡ symbol_of row.class) (p : Put us (64 + g) r a) (q : Put a row.over r b) where
    no_exit : ExitPut rs r w w
    no_exit = exit_other rs r few (λ z. h (i.kind_is ∙ ap kind_of z))

    head_at : T (member a (64 + symbol_of (class_at rs r)) r)
    head_at = put_at p (ap (λ n. 64 + n) (g-is ∙ ap symbol_of i.class_is)) l

    pub put_direct : row.kind ≡ Direct → RulePut rs r us w b w
    put_direct k = record {
      uses = from_grew (grew_then (put_grew p) (put_grew q))
          (subst (UsesOf b r) (rule_direct rs r (sym i.kind_is ∙ k)) (put_at q i.over_is l, (put_grew q).kept (64 + symbol_of (class_at rs r)) r l head_at));
      exits = no_exit;
    }

    pub put_call : (row.kind ≡ Direct → ⊥) → {c d : List ℕ} → Put b row.under r c → Put c (32 + row.over) r d → RulePut rs r us w d w
    put_call k {c} {d} u v = record {
      uses = from_grew (grew_then (grew_then (put_grew p) (put_grew q)) (grew_then (put_grew u) (put_grew v)))
          (subst (UsesOf d r) (rule_call rs r (λ z. h (i.kind_is ∙ z)) (λ z. k (i.kind_is ∙ z))) (
            (put_grew v).kept (over_at rs r) r l ((put_grew u).kept (over_at rs r) r l (put_at q i.over_is l)),
            (put_grew v).kept (under_at rs r) r l (put_at u i.under_is l),
            put_at v (ap (λ n. 32 + n) i.over_is) l,
            later (put_grew v) (later (put_grew u) (later (put_grew q) head_at)),
          ));
      exits = no_exit;
    }
      where
        later : {x y : List ℕ} → Grew r x y → T (member x (64 + symbol_of (class_at rs r)) r) → T (member y (64 + symbol_of (class_at rs r)) r)
        later m = m.kept (64 + symbol_of (class_at rs r)) r l

-- the first rules
member_none : {us : List ℕ} → Empty 384 us → (s r : ℕ) → member us s r ≡ false
unfolding member
member_none e s r = ap (λ n. bit n (r % 64)) (e.empty (s * 4 + r / 64)) ∙ bit_zero (r % 64)

chosen_none : {w : List ℕ} → Empty 4 w → (x : ℕ) → chosen w x ≡ false
unfolding chosen
chosen_none e x = ap (λ n. bit n (x % 64)) (e.empty (x / 64)) ∙ bit_zero (x % 64)

module _ (rs : List ℕ) where
  uses_none : {us : List ℕ} → Empty 384 us → UsesAll rs 0 us
  uses_none e = record { long = e.long; there = λ r h. absurd (omega arith); only = λ s r h t. absurd (subst T (member_none e s r) t) }

  kept_by : (x : ℕ) {r : ℕ} {us us' : List ℕ} → x < 256 → UsesPut rs r us us' → (ρ : Rule) → UsesOf us x ρ → UsesOf us' x ρ
  kept_by x h p (exit g) u = tt
  kept_by x h p (direct g g1) (a, b) = (p.kept g1 x h a, p.kept (64 + g) x h b)
  kept_by x h p (call g g1 g2) (a, b, c, d) = (p.kept g1 x h a, p.kept g2 x h b, p.kept (32 + g1) x h c, p.kept (64 + g) x h d)

  uses_more : (n : ℕ) {us us' : List ℕ} → n < 256 → UsesAll rs n us → UsesPut rs n us us' → UsesAll rs (n + 1) us'
  uses_more n {us} {us'} l a p = record {
    long = p.long;
    there = λ r h. at r h (ℕ_discrete r n);
    only = λ s r h t. ⊎_elim (λ u. let i = a.only s r h u in omega arith) (λ e. omega arith) (p.only s r h t);
  }
    where
      at : (r : ℕ) → r < n + 1 → Dec (r ≡ n) → UsesOf us' r (row_rule rs r)
      at r h (yes e) = subst⁻¹ (λ r. UsesOf us' r (row_rule rs r)) e p.there
      at r h (no e) = kept_by r (omega arith) p (row_rule rs r) (a.there r (omega arith))

  -- the exits
  exits_none : {w : List ℕ} → Empty 4 w → Exits rs 0 w
  exits_none e = record { long = e.long; is = λ x. chosen_none e x ∙ sym (ap (λ b. b && eqb (kind_at rs x) 0) (le-ltb x 0 (omega arith))) }

  exits_more : (n : ℕ) {w w' : List ℕ} → Exits rs n w → ExitPut rs n w w' → Exits rs (n + 1) w'
  exits_more n {w} {w'} a p = record { long = p.long; is = λ x. p.is x ∙ ap (λ b. b || (eqb n x && eqb (kind_at rs n) 0)) (a.is x) ∙ at x (ℕ_discrete n x) }
    where
      at : (x : ℕ) → Dec (n ≡ x) → (ltb x n && eqb (kind_at rs x) 0) || (eqb n x && eqb (kind_at rs n) 0) ≡ ltb x (n + 1) && eqb (kind_at rs x) 0
      at x (yes e) =
          subst (λ x. (ltb x n && eqb (kind_at rs x) 0) || (eqb n x && eqb (kind_at rs n) 0) ≡ ltb x (n + 1) && eqb (kind_at rs x) 0) e
          (rw (le-ltb n n (omega arith), eq-eqb n n refl, lt-ltb n (n + 1) (omega arith)))
      at x (no e) = go (dec_lt x n)
        where
          go : Dec (x < n) → (ltb x n && eqb (kind_at rs x) 0) || (eqb n x && eqb (kind_at rs n) 0) ≡ ltb x (n + 1) && eqb (kind_at rs x) 0
          go (yes h) = rw (ne_eqb n x e, lt-ltb x n h, lt-ltb x (n + 1) (omega arith)) (sym (or_false (eqb (kind_at rs x) 0)))
          go (no h) = rw (ne_eqb n x e, le-ltb x n (omega arith), le-ltb x (n + 1) (omega arith))

  -- both
  pub sorted_none : {us w : List ℕ} → Empty 384 us → Empty 4 w → RulesSorted rs 0 us w
  sorted_none u e = record { uses = uses_none u; exits = exits_none e }

  pub sorted_more : (n : ℕ) {us w us' w' : List ℕ} → n < 256 → RulesSorted rs n us w → RulePut rs n us w us' w' → RulesSorted rs (n + 1) us' w'
  sorted_more n l a p = record { uses = uses_more n l a.uses p.uses; exits = exits_more n a.exits p.exits }

  pub sorted_all : (n k : ℕ) {us w : List ℕ} → n ≡ k → RulesSorted rs n us w → RulesSorted rs k us w
  sorted_all n k {us} {w} e = subst (λ n. RulesSorted rs n us w) e

-- the final states
module _ (final : ℕ → Bool) where
  abbrev pub FinalsTo : (n r : ℕ) → Type 0
  FinalsTo n r = (x : ℕ) → bit r x ≡ ltb x n && final x

  pub finals_none : FinalsTo 0 0
  finals_none x = bit_zero x ∙ sym (ap (λ b. b && final x) (le-ltb x 0 (omega arith)))

  pub finals_more : (n r m : ℕ) → FinalsTo n r → m ≡ cond (final n) (2 ^ n) 0 → FinalsTo (n + 1) (bit_or r m)
  finals_more n r m a e x = bit_or_lem r m x ∙ ap₂ ◌||◌ (a x) (ap (λ m. bit m x) e ∙ one (final n) refl) ∙ at (ℕ_discrete n x)
    where
      one : (b : Bool) → final n ≡ b → bit (cond b (2 ^ n) 0) x ≡ eqb n x && b
      one true y = bit_pow n x ∙ and_on (eqb n x)
        where
          and_on : (a : Bool) → a ≡ a && true
          and_on true = refl
          and_on false = refl
      one false y = bit_zero x ∙ sym (and_off (eqb n x))
        where
          and_off : (a : Bool) → a && false ≡ false
          and_off true = refl
          and_off false = refl

      at : Dec (n ≡ x) → (ltb x n && final x) || (eqb n x && final n) ≡ ltb x (n + 1) && final x
      at (yes e) =
          subst (λ x. (ltb x n && final x) || (eqb n x && final n) ≡ ltb x (n + 1) && final x) e
          (rw (le-ltb n n (omega arith), eq-eqb n n refl, lt-ltb n (n + 1) (omega arith)))
      at (no e) = go (dec_lt x n)
        where
          go : Dec (x < n) → (ltb x n && final x) || (eqb n x && final n) ≡ ltb x (n + 1) && final x
          go (yes h) = rw (ne_eqb n x e, lt-ltb x n h, lt-ltb x (n + 1) (omega arith)) (sym (or_false (final x)))
          go (no h) = rw (ne_eqb n x e, le-ltb x n (omega arith), le-ltb x (n + 1) (omega arith))

  pub finals_all : (n k r : ℕ) → n ≡ k → FinalsTo n r → FinalsTo k r
  finals_all n k r e = subst (λ n. FinalsTo n r) e

module _ (final : ℕ → Bool) (q : ℕ) where
  pub final_bit : q < 8 → {b : Bool} → b ≡ final q → b ≡ true → (1 * 2 ^ q) % 2 ^ 64 ≡ cond (final q) (2 ^ q) 0
  final_bit l e t = rw (sym e ∙ t) (one_shifted 64 q (omega arith))

  pub not_final : {b : Bool} → b ≡ final q → b ≡ false → 0 ≡ cond (final q) (2 ^ q) 0
  not_final e t = rw (sym e ∙ t)
