-- The field that a text begins with, by the digits that it begins with. Assumes nothing.
use mathlib.Core.Path.{◌≡◌, refl, ap, sym, ◌∙◌}
use mathlib.Core.Bool.{Bool, true, false, ◌||◌}
use mathlib.Core.List.{List, [], ◌∷◌}
use Prim.Native.Nat.{ℕ, ◌+◌, ◌-◌, ◌*◌, ◌<◌, ◌≤◌}
use native.Mathlib.Omega.{arith}
use lib.Dec.{eqb, ltb}
use lib.ListN.{length, get_or, drop}
use lib.Seq.{get_or-take}
use borrow.Author.Tests.{lt-ltb, le-ltb, ne_eqb, eqb-true, eqb-false, ltb-true, ltb-false}
use Rattle.text.specs.Split.{pick, first}
use Rattle.text.proofs.Split.{first_take, place_within}
use Rattle.text.proofs.Stops.{either_a, either_b, either_next, either_end, either_stop}
use Rattle.numbers.specs.Number.{spelled, number_of, written}
use Rattle.numbers.specs.Field.{field, Begins, field_by, field_of}
use Rattle.std.specs.Prelude.{Option, Some, None}
use Rattle.numbers.specs.declared.FieldRead.{FieldRead}

-- a digit at i
module _ (v i : ℕ) (s : List ℕ) (h : i < length s) (low : 48 ≤ get_or s i 0) (high : get_or s i 0 ≤ 57) where
  on : field (drop i s) ≡ get_or s i 0 ∷ field (drop (i + 1) s)
  on = either_next 9 10 s i h (λ e. omega arith) (λ e. omega arith)

  pub digit_reads : spelled v (field (drop i s)) ≡ spelled (v * 10 + (get_or s i 0 - 48)) (field (drop (i + 1) s))
  unfolding spelled
  digit_reads = rw on (simp (le-ltb _ _ low, le-ltb _ _ high))

  pub digit_long : length (field (drop i s)) ≡ 1 + length (field (drop (i + 1) s))
  digit_long = rw on (omega arith)

-- another byte, which is in the field
other_byte : (v i : ℕ) (s : List ℕ) → (48 ≤ get_or s i 0 → get_or s i 0 ≤ 57 → ⊥) → (fs : List ℕ) → spelled v (get_or s i 0 ∷ fs) ≡ None
unfolding spelled
other_byte v i s n fs = go (ltb (get_or s i 0) 48) (ltb 57 (get_or s i 0)) refl refl
  where
    go : (x y : Bool) → ltb (get_or s i 0) 48 ≡ x → ltb 57 (get_or s i 0) ≡ y → pick x None (pick y None (spelled (v * 10 + (get_or s i 0 - 48)) fs)) ≡ None
    go true y p q = refl
    go false true p q = refl
    go false false p q = absurd (n (ltb-false _ _ p) (ltb-false _ _ q))

other_reads : (v i : ℕ) (s : List ℕ) → (length (field (drop i s)) ≡ 0 → ⊥) → (i < length s → 48 ≤ get_or s i 0 → get_or s i 0 ≤ 57 → ⊥) → spelled v (field (drop i s)) ≡ None
other_reads v i s some n = go (ltb i (length s)) (eqb (get_or s i 0) 9) (eqb (get_or s i 0) 10) refl refl refl
  where
    go : (x y z : Bool) → ltb i (length s) ≡ x → eqb (get_or s i 0) 9 ≡ y → eqb (get_or s i 0) 10 ≡ z → spelled v (field (drop i s)) ≡ None
    go false y z p q r = absurd (some (ap length (either_end 9 10 s i (ltb-false _ _ p))))
    go true true z p q r = absurd (some (ap length (either_a 9 10 s i (ltb-true _ _ p) (eqb-true _ _ q))))
    go true false true p q r = absurd (some (ap length (either_b 9 10 s i (ltb-true _ _ p) (eqb-true _ _ r))))
    go true false false p q r = rw (either_next 9 10 s i (ltb-true _ _ p) (eqb-false _ _ q) (eqb-false _ _ r)) (other_byte v i s (n (ltb-true _ _ p)) _)

-- no number, by what is spelled
unspelled : (f : List ℕ) → spelled 0 f ≡ None → number_of f ≡ None
unfolding number_of
unspelled f e = rw e (go (eqb (length f) 0) (ltb 5 (length f)) (eqb (length f) 1) (eqb (get_or f 0 0) 48))
  where
    go : (x y z u : Bool) → ◌≡◌ {A = Option ℕ} (pick x None (pick y None (pick z None (pick u None None)))) None
    go true y z u = refl
    go false true z u = refl
    go false false true u = refl
    go false false false true = refl
    go false false false false = refl

-- the first byte of a field
first_byte : (s : List ℕ) → 0 < length (field s) → get_or (field s) 0 0 ≡ get_or s 0 0
first_byte s h =
    let k : 0 < length (first 10 s) = omega (arith, place_within 9 (first 10 s) refl) in
    ap (λ l. get_or l 0 0) (sym (first_take 9 (first 10 s)))
    ∙ get_or-take (length (field s)) (first 10 s) 0 0 h
    ∙ ap (λ l. get_or l 0 0) (sym (first_take 10 s))
    ∙ get_or-take (length (first 10 s)) s 0 0 k

-- the answers of `read_field`
module _ (s : List ℕ) where
  no_number : number_of (field s) ≡ None → None ≡ field_of s
  no_number e = rw e

  is_number : (v : ℕ) {i b : ℕ} → b ≡ get_or s i 10 → number_of (field s) ≡ Some v → length (field s) ≡ i → field_by (Some v) i b ≡ field_of s
  is_number v p e l = rw (e, l, p)

-- a field's number by how many digits it has, and the first
number_written : (f : List ℕ) → number_of f ≡ pick (written (length f) (get_or f 0 0)) (spelled 0 f) None
unfolding number_of
number_written f = go (length f) (eqb (length f) 0) (ltb 5 (length f)) (eqb (length f) 1) (eqb (get_or f 0 0) 48) refl refl refl
  where
    go : (n : ℕ) (x y z u : Bool) → eqb n 0 ≡ x → ltb 5 n ≡ y → eqb n 1 ≡ z
        → pick x None (pick y None (pick z (spelled 0 f) (pick u None (spelled 0 f)))) ≡ pick (pick z true (pick x false (pick y false (pick u false true)))) (spelled 0 f) None
    go n true y true u p q r = absurd (omega (arith, eqb-true n 0 p, eqb-true n 1 r))
    go n true y false u p q r = refl
    go n false true true u p q r = absurd (omega (arith, ltb-true 5 n q, eqb-true n 1 r))
    go n false true false u p q r = refl
    go n false false true u p q r = refl
    go n false false false true p q r = refl
    go n false false false false p q r = refl

written_few : (n b : ℕ) → written n b ≡ true → n ≤ 5
written_few n b = go (eqb n 1) (eqb n 0) (ltb 5 n) refl refl refl
  where
    go : (z x y : Bool) → eqb n 1 ≡ z → eqb n 0 ≡ x → ltb 5 n ≡ y → pick z true (pick x false (pick y false (pick (eqb b 48) false true))) ≡ true → n ≤ 5
    go true x y p q r e = omega (arith, eqb-true n 1 p)
    go false true y p q r e = omega (arith, eqb-true n 0 q)
    go false false true p q r e = let z : ◌≡◌ {A = ℕ} 0 1 = cc in absurd (omega arith)
    go false false false p q r e = ltb-false 5 n r

module _ (s : List ℕ) {v i b : ℕ} (g : Begins s v i b) where
  too_many : 5 < i → number_of (field s) ≡ None
  unfolding number_of
  too_many h = rw (ne_eqb (length (field s)) 0 (λ e. omega (arith, g.long)), lt-ltb 5 (length (field s)) (omega (arith, g.long)))

  no_stop : i ≤ 5 → (length (field (drop i s)) ≡ 0 → ⊥) → number_of (field s) ≡ None
  no_stop h some = unspelled (field s) (sym g.reads ∙ other_reads v i s some (g.stops h))

  module _ (none : length (field (drop i s)) ≡ 0) where
    length_is : length (field s) ≡ i
    length_is = omega (arith, g.long, none)

    spelled_is : spelled 0 (field s) ≡ Some v
    unfolding spelled
    spelled_is = sym g.reads ∙ go (field (drop i s)) none
      where
        go : (f : List ℕ) → length f ≡ 0 → spelled v f ≡ Some v
        go [] e = refl
        go (b ∷ f) e = absurd (omega arith)

    written_is : written (length (field s)) (get_or (field s) 0 0) ≡ written i (get_or s 0 0)
    written_is = rw length_is (go (eqb i 0) refl)
      where
        go : (t : Bool) → eqb i 0 ≡ t → written i (get_or (field s) 0 0) ≡ written i (get_or s 0 0)
        go true e = rw (eqb-true i 0 e)
        go false e = ap (written i) (first_byte s (let n = eqb-false i 0 e in omega (arith, length_is)))

  pub ill_written : written i (get_or s 0 0) ≡ false → None ≡ field_of s
  ill_written w = no_number s (go (ltb 5 i) (eqb (length (field (drop i s))) 0) refl refl)
    where
      go : (x y : Bool) → ltb 5 i ≡ x → eqb (length (field (drop i s))) 0 ≡ y → number_of (field s) ≡ None
      go true y p q = too_many (ltb-true 5 i p)
      go false true p q = number_written (field s) ∙ rw (written_is (eqb-true _ 0 q), w)
      go false false p q = no_stop (ltb-false 5 i p) (eqb-false _ 0 q)

  module _ (w : written i (get_or s 0 0) ≡ true) where
    empty : eqb (length (field (drop i s))) 0 ≡ (eqb b 9 || eqb b 10)
    empty = sym (either_stop 9 10 s i) ∙ sym (ap (λ x. eqb x 9 || eqb x 10) g.next)

    pub ended : (eqb b 9 || eqb b 10) ≡ true → field_by (Some v) i b ≡ field_of s
    ended stopped =
        let none = eqb-true _ 0 (empty ∙ stopped) in
        is_number s v g.next (number_written (field s) ∙ rw (written_is none, w) (spelled_is none)) (length_is none)

  pub not_ended : (b ≡ 10 → ⊥) → (b ≡ 9 → ⊥) → None ≡ field_of s
  not_ended h k = go (written i (get_or s 0 0)) refl
    where
      go : (x : Bool) → written i (get_or s 0 0) ≡ x → None ≡ field_of s
      go false w = ill_written w
      go true w = no_number s (no_stop (written_few i (get_or s 0 0) w) (eqb-false _ 0 (empty w ∙ rw (ne_eqb b 9 k, ne_eqb b 10 h))))

-- a field that was read
pub record Whole (s : List ℕ) (f : FieldRead) : Type 0 where
  pub number : number_of (field s) ≡ Some f.number
  pub end : f.end ≡ length (field s)
  pub stop : f.stop ≡ get_or s f.end 10

pub field_is : (s : List ℕ) {f : FieldRead} → Some f ≡ field_of s → Whole s f
field_is s {f} p = go (number_of (field s)) refl p
  where
    go : (n : Option ℕ) → number_of (field s) ≡ n → Some f ≡ field_by n (length (field s)) (get_or s (length (field s)) 10) → Whole s f
    go None e p = let z : ◌≡◌ {A = ℕ} 0 1 = cc in absurd (omega arith)
    go (Some v) e p =
        let same : f ≡ record { number = v; end = length (field s); stop = get_or s (length (field s)) 10 } = cc in
        rw same (record { number = e; end = refl; stop = refl })

pub end_within : (s : List ℕ) {f : FieldRead} → Some f ≡ field_of s → f.end ≤ length s
end_within s p = omega (arith, (field_is s p).end, place_within 9 (first 10 s) refl, place_within 10 s refl)

pub field_bad : (s : List ℕ) → None ≡ field_of s → number_of (field s) ≡ None
field_bad s p = go (number_of (field s)) p
  where
    go : (n : Option ℕ) → None ≡ field_by n (length (field s)) (get_or s (length (field s)) 10) → n ≡ None
    go None p = refl
    go (Some v) p = let z : ◌≡◌ {A = ℕ} 0 1 = cc in absurd (omega arith)
