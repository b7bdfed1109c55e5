-- How a number's digits go on, and how they are written from the last to the first. Assumes nothing.
use mathlib.Core.Path.{◌≡◌, refl, ap, sym, ◌∙◌}
use mathlib.Core.List.{List, [], ◌∷◌, ◌++◌, append-nil}
use Prim.Native.Nat.{ℕ, zero, suc, ◌+◌, ◌-◌, ◌/◌, ◌%◌, ◌^◌, ◌<◌, ◌≤◌}
use native.Mathlib.Numerals.{add-one, unary_clauses}
use native.Mathlib.Nat.{pow-suc, not-suc-le-zero, le_of_suc-le-suc}
use native.Mathlib.Omega.{arith}
use lib.ListN.{length, get_or, take, replicate}
use lib.Seq.{append_snoc}
use borrow.Author.Tests.{lt-ltb, le-ltb}
use Rattle.numbers.specs.Digits.{decimal_in, decimal, written, front, digits_of}
use Rattle.numbers.specs.declared.Digits.{Digits}

module _ (k n : ℕ) where
  pub decimal_one : n < 10 → decimal_in (suc k) n ≡ (48 + n) ∷ []
  unfolding decimal_in
  decimal_one h = rw (lt-ltb n 10 h)

  pub decimal_more : 10 ≤ n → decimal_in (suc k) n ≡ decimal_in k (n / 10) ++ (48 + n % 10) ∷ []
  unfolding decimal_in
  decimal_more h = rw (le-ltb n 10 h)

-- zeros after t to fill a length, with one zero less
zeros : (m : ℕ) → take {A = ℕ} m (replicate (suc m) 0) ≡ replicate m 0
zeros zero = refl
zeros (suc m) = ap (λ l. 0 ∷ l) (zeros m)

fill : (m : ℕ) (t : List ℕ) → length t ≤ m → take m (t ++ replicate (suc m - length t) 0) ≡ t ++ replicate (m - length t) 0
fill m [] h = simp unary_clauses (zeros m)
fill zero (b ∷ t) h = absurd (not-suc-le-zero h)
fill (suc m) (b ∷ t) h = simp unary_clauses (ap (λ l. b ∷ l) (fill m t (le_of_suc-le-suc h)))

-- the first four of an array's cells, one by one
pub four : (l : List ℕ) → 3 < length l → get_or l 0 0 ∷ get_or l 1 0 ∷ get_or l 2 0 ∷ get_or l 3 0 ∷ [] ≡ take 4 l
four [] h = absurd (omega arith)
four (a ∷ []) h = absurd (omega arith)
four (a ∷ b ∷ []) h = absurd (omega arith)
four (a ∷ b ∷ c ∷ []) h = absurd (omega arith)
four (a ∷ b ∷ c ∷ d ∷ l) h = refl

-- a byte in front of those that are written
front_written : (b : ℕ) (t : List ℕ) → length t < 5 → front b (written t) ≡ written (b ∷ t)
unfolding written
front_written b t h =
    let e : 4 - length t ≡ 5 - suc (length t) = omega arith in
    ap (λ l. record { count = length t + 1; at = b ∷ l }) (fill 4 t (le_of_suc-le-suc h)) ∙ rw (add-one, e)

-- the loop's invariant: the digits of what is left, and those that are written, are the digits of n
pub record Turn (n : ℕ) (d : Digits) (left : ℕ) : Type 0 where
  pub done : List ℕ
  pub more : ℕ
  pub writes : d ≡ written done
  pub room : more + length done ≡ 4
  pub small : left < 10 ^ suc more
  pub whole : decimal_in (suc more) left ++ done ≡ decimal n

pub first_turn : {n : ℕ} {d : Digits} → n < 100000 → d ≡ written [] → Turn n d n
first_turn {n} h p = record { done = []; more = 4; writes = p; room = refl; small = h; whole = append-nil (decimal n) }

module _ {n : ℕ} {d : Digits} {left : ℕ} (i : Turn n d left) where
  pub open_place : d.count < 5
  unfolding written
  open_place = let e = ap (λ x. x.count) i.writes in let r = i.room in omega arith

  pub turn_last : left < 10 → {r : Digits} → r ≡ front (48 + left) d → r ≡ digits_of n
  turn_last h p =
      p ∙ ap (front (48 + left)) i.writes
      ∙ front_written (48 + left) i.done (let r = i.room in omega arith)
      ∙ ap (λ l. written (l ++ i.done)) (sym (decimal_one i.more left h))
      ∙ ap written i.whole

pub turn_next : {n : ℕ} {d : Digits} {left : ℕ} → Turn n d left → 10 ≤ left → {r : Digits} → r ≡ front (48 + left % 10) d → Turn n r (left / 10)
turn_next {n} {d} {left} i h {r} p = go i.more i.room i.small i.whole
  where
    go : (more : ℕ) → more + length i.done ≡ 4 → left < 10 ^ suc more → decimal_in (suc more) left ++ i.done ≡ decimal n → Turn n r (left / 10)
    go zero room small whole = absurd (omega arith)
    go (suc k) room small whole =
        record {
          done = (48 + left % 10) ∷ i.done;
          more = k;
          writes = p ∙ ap (front (48 + left % 10)) i.writes ∙ front_written (48 + left % 10) i.done (omega arith);
          room = omega arith;
          small = let h = rw pow-suc at small in omega arith;
          whole = sym (append_snoc (decimal_in (suc k) (left / 10)) (48 + left % 10) i.done) ∙ ap (λ l. l ++ i.done) (sym (decimal_more (suc k) left h)) ∙ whole;
        }
