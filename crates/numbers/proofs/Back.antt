-- What is written is read back: the digits of a number, and the fields of several numbers. Assumes nothing.
use mathlib.Core.Path.{◌≡◌, refl, ap, sym, ◌∙◌, subst⁻¹}
use mathlib.Core.Bool.{Bool, true, false}
use mathlib.Core.List.{List, [], ◌∷◌, ◌++◌, map}
use mathlib.Core.Logic.{◌⊎◌, inl, inr, ⊎_elim}
use Prim.Native.Nat.{ℕ, zero, suc, ◌+◌, ◌-◌, ◌*◌, ◌/◌, ◌%◌, ◌^◌, ◌<◌, ◌≤◌}
use native.Mathlib.Numerals.{add-one, unary_clauses}
use native.Mathlib.Nat.{pow-suc}
use native.Mathlib.Omega.{arith}
use lib.Dec.{T, ltb, eqb}
use lib.ListN.{length, get_or, take, drop, set, replicate, length-append, get_or-append}
use lib.Seq.{sets, sets-eq, take-append_seam}
use borrow.Author.Tests.{lt-ltb, le-ltb, ne_eqb, ltb-true, ltb-false}
use Rattle.text.specs.Split.{pick, split, joined, without, Each}
use Rattle.numbers.specs.Number.{spelled, number_of, most, wrong, push, numbers_from, numbers_of}
use Rattle.numbers.specs.Digits.{decimal_in, decimal, written, digits_of}
use Rattle.std.specs.Prelude.{Some, None}
use Rattle.numbers.specs.declared.Numbers.{Numbers}
use Rattle.text.proofs.Split.{without_append, split_joined}
use Rattle.numbers.proofs.Decimals.{decimal_one, decimal_more}
use Rattle.numbers.proofs.Fields.{from_next}

-- a digit or more: the two cases of a number
pub below_ten : (n : ℕ) → (n < 10) ⊎ (10 ≤ n)
below_ten n = go (ltb n 10) refl
  where
    go : (t : Bool) → ltb n 10 ≡ t → (n < 10) ⊎ (10 ≤ n)
    go true e = inl (ltb-true n 10 e)
    go false e = inr (ltb-false n 10 e)

-- a statement of digits holds if it holds of one digit, and of one more behind others
by_digits : (P : List ℕ → ℕ → Type 0) → ((n : ℕ) → n < 10 → P ((48 + n) ∷ []) n) → ((s : List ℕ) (n : ℕ) → 10 ≤ n → P s (n / 10) → P (s ++ (48 + n % 10) ∷ []) n)
    → (k n : ℕ) → n < 10 ^ suc k → P (decimal_in (suc k) n) n
by_digits P one more zero n h = rw (decimal_one zero n h) (one n h)
by_digits P one more (suc k) n h =
    ⊎_elim
    (λ l. subst⁻¹ (λ s. P s n) (decimal_one (suc k) n l) (one n l))
    (λ l. subst⁻¹ (λ s. P s n) (decimal_more (suc k) n l) (more _ n l (by_digits P one more k (n / 10) (let e = rw pow-suc at h in omega arith))))
    (below_ten n)

-- reading goes on where it stands
spelled_on : (v w : ℕ) (s t : List ℕ) → spelled v s ≡ Some w → spelled v (s ++ t) ≡ spelled w t
unfolding spelled
spelled_on v w [] t e = ap (λ x. spelled x t) (cc)
spelled_on v w (b ∷ s) t e = go (spelled_on (v * 10 + (b - 48)) w s t) (ltb b 48) (ltb 57 b) e
  where
    go : (spelled (v * 10 + (b - 48)) s ≡ Some w → spelled (v * 10 + (b - 48)) (s ++ t) ≡ spelled w t) → (x y : Bool)
        → pick x None (pick y None (spelled (v * 10 + (b - 48)) s)) ≡ Some w → pick x None (pick y None (spelled (v * 10 + (b - 48)) (s ++ t))) ≡ spelled w t
    go on true y e = cc
    go on false true e = cc
    go on false false e = on e

-- one digit read after others
spelled_digit : (v d : ℕ) → d < 10 → spelled v ((48 + d) ∷ []) ≡ Some (v * 10 + d)
unfolding spelled
spelled_digit v d h =
    let e : 48 + d - 48 ≡ d = omega arith in
    rw (le-ltb (48 + d) 48 (omega arith), le-ltb 57 (48 + d) (omega arith), e)

-- the digits of a number are read as that number
decimal_spelled : (n : ℕ) → n < 100000 → spelled 0 (decimal n) ≡ Some n
decimal_spelled n h =
    by_digits (λ s m. spelled 0 s ≡ Some m)
    (λ m l. spelled_digit 0 m l ∙ ap Some (omega arith))
    (λ s m l e. spelled_on 0 (m / 10) s _ e ∙ spelled_digit (m / 10) (m % 10) (omega arith) ∙ ap Some (omega arith))
    4 n h

-- and the first of them is no 0 but that of 0 itself
decimal_leads : (n : ℕ) → n < 100000 → (0 < length (decimal n)) × (0 < n → get_or (decimal n) 0 0 ≡ 48 → ⊥)
decimal_leads n h =
    by_digits (λ s m. (0 < length s) × (0 < m → get_or s 0 0 ≡ 48 → ⊥))
    (λ m l. (omega arith, λ z e. omega arith))
    (λ s m l k. (omega (arith, length-append s ((48 + m % 10) ∷ []), k.0), λ z e. k.1 (omega arith) (sym (get_or-append s _ 0 0 k.0) ∙ e)))
    4 n h

decimal_short : (k n : ℕ) → length (decimal_in k n) ≤ k
unfolding decimal_in
decimal_short zero n = omega arith
decimal_short (suc k) n = go (decimal_short k (n / 10)) (ltb n 10)
  where
    go : length (decimal_in k (n / 10)) ≤ k → (t : Bool) → length (pick t ((48 + n) ∷ []) (decimal_in k (n / 10) ++ (48 + n % 10) ∷ [])) ≤ suc k
    go h true = omega arith
    go h false = omega (arith, length-append (decimal_in k (n / 10)) ((48 + n % 10) ∷ []))

-- one to five digits
pub decimal_length : (n : ℕ) → n < 100000 → (0 < length (decimal n)) × (length (decimal n) ≤ 5)
decimal_length n h = ((decimal_leads n h).0, decimal_short 5 n)

-- the part `d.at[..d.count]` of a written number d is its digits
pub digits_part : (n : ℕ) → take (digits_of n).count (digits_of n).at ≡ decimal n
unfolding written
digits_part n = take-append_seam (decimal n) (replicate (5 - length (decimal n)) 0)

-- a field that does not begin with 0 is read digit by digit
number_plain : (s : List ℕ) → 0 < length s → length s ≤ 5 → (get_or s 0 0 ≡ 48 → ⊥) → number_of s ≡ spelled 0 s
unfolding number_of
number_plain s a b c = rw (ne_eqb (length s) 0 (λ e. omega arith), le-ltb 5 (length s) b, ne_eqb _ _ c) (go (eqb (length s) 1))
  where
    go : (t : Bool) → pick t (spelled 0 s) (spelled 0 s) ≡ spelled 0 s
    go true = refl
    go false = refl

number_one : (b : ℕ) → number_of (b ∷ []) ≡ spelled 0 (b ∷ [])
unfolding number_of
number_one b = refl

pub number_back : (n : ℕ) → n < 100000 → number_of (decimal n) ≡ Some n
number_back n h =
    ⊎_elim
    (λ l. ap number_of (decimal_one 4 n l) ∙ number_one (48 + n) ∙ ap (spelled 0) (sym (decimal_one 4 n l)))
    (λ l. number_plain (decimal n) (decimal_length n h).0 (decimal_length n h).1 ((decimal_leads n h).1 (omega arith)))
    (below_ten n)
    ∙ decimal_spelled n h

-- no byte below "0" is in them: no tab, no line feed
pub without_digits : (c : ℕ) → c < 48 → (k n : ℕ) → T (without c (decimal_in k n))
unfolding decimal_in without
without_digits c h zero n = tt
without_digits c h (suc k) n = go (without_digits c h k (n / 10)) (ltb n 10)
  where
    digit : (d : ℕ) → T (without c ((48 + d) ∷ []))
    digit d = rw (ne_eqb (48 + d) c (λ e. omega arith)) tt

    go : T (without c (decimal_in k (n / 10))) → (t : Bool) → T (without c (pick t ((48 + n) ∷ []) (decimal_in k (n / 10) ++ (48 + n % 10) ∷ [])))
    go more true = digit n
    go more false = without_append c (decimal_in k (n / 10)) _ more (digit (n % 10))

-- numbers behind those that are there
numbers_on : (n : Numbers) (vs : List ℕ) → n.count + length vs ≤ most → Each (λ v. v < 100000) vs
    → numbers_from n (map decimal vs) ≡ record { count = n.count + length vs; at = sets n.at n.count vs }
unfolding numbers_from
numbers_on n [] h k = ap (λ x. record { count = x; at = n.at }) (omega arith)
numbers_on n (v ∷ vs) h k =
    let m : Numbers = record { count = n.count + 1; at = set n.at n.count v } in
    let p : push n (number_of (decimal v)) ≡ m = ap (push n) (number_back v k.0) ∙ rw (lt-ltb n.count most (omega arith)) in
    let one_more : n.count + 1 + length vs ≡ n.count + suc (length vs) = omega arith in
    from_next n (decimal v) (map decimal vs) (λ e. let z : m.count ≡ 0 = sym (ap (λ x. x.count) p) ∙ e in omega arith)
    ∙ ap (λ x. numbers_from x (map decimal vs)) p
    ∙ numbers_on m vs (omega arith) k.1
    ∙ ap (λ x. record { count = x; at = sets (set n.at n.count v) (n.count + 1) vs }) one_more
    ∙ rw add-one

drop_zeros : (k m : ℕ) → drop {A = ℕ} k (replicate m 0) ≡ replicate (m - k) 0
drop_zeros zero m = simp unary_clauses
drop_zeros (suc k) zero = let e : zero - suc k ≡ 0 = omega arith in rw e
drop_zeros (suc k) (suc m) = simp unary_clauses (drop_zeros k m)

-- the numbers of fields that were written from at most `most` numbers are those numbers
pub numbers_back : (vs : List ℕ) → length vs ≤ most → Each (λ v. v < 100000) vs
    → numbers_of (map decimal vs) ≡ record { count = length vs; at = vs ++ replicate (most - length vs) 0 }
numbers_back vs h k =
    numbers_on wrong vs (omega arith) k
    ∙ ap (λ l. record { count = 0 + length vs; at = l }) (sets-eq vs (replicate most 0) 0 (omega arith) ∙ ap (λ l. vs ++ l) (drop_zeros (0 + length vs) most))
    ∙ ap (λ x. record { count = x; at = vs ++ replicate (most - x) 0 }) (omega arith)

-- and the line that they make with tabs between them has those fields
pub fields_back : (n : ℕ) (ns : List ℕ) → split 9 (joined 9 (decimal n) (map decimal ns)) ≡ map decimal (n ∷ ns)
fields_back n ns = split_joined 9 (decimal n) (map decimal ns) (without_digits 9 (omega arith) 5 n) (each ns)
  where
    each : (ms : List ℕ) → Each (λ q. T (without 9 q)) (map decimal ms)
    each [] = tt
    each (m ∷ ms) = (without_digits 9 (omega arith) 5 m, each ms)
