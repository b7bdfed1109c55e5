-- How `numbers_from` goes on, field by field and by the place of the next tab or line feed. Assumes nothing.
use mathlib.Core.Path.{◌≡◌, refl, ap, sym, ◌∙◌}
use mathlib.Core.Bool.{Bool, true, false}
use mathlib.Core.List.{List, [], ◌∷◌}
use Prim.Native.Nat.{ℕ, ◌+◌, ◌-◌, ◌<◌, ◌≤◌}
use native.Mathlib.Omega.{arith}
use lib.Dec.{ltb, eqb}
use lib.ListN.{length, set, length-drop}
use borrow.Author.Tests.{eq-eqb, ne_eqb, eqb-true, lt-ltb, le-ltb}
use Rattle.text.specs.Split.{pick, first, later, split}
use Rattle.numbers.specs.Number.{number_of, most, wrong, push, numbers_from, numbers_of}
use Rattle.std.specs.Prelude.{Option, Some, None}
use Rattle.numbers.specs.declared.Numbers.{Numbers}
use Rattle.numbers.specs.declared.FieldRead.{FieldRead}
use Rattle.numbers.specs.declared.FieldsRead.{FieldsRead}
use Rattle.numbers.specs.Field.{field, field_of, fields_by, fields_of}
use Rattle.text.proofs.Lists.{tail_part}
use Rattle.text.proofs.Split.{after}
use Rattle.text.proofs.Stops.{line_end, line_on, no_fields, fields_after, end_after, place_inside}
use Rattle.numbers.proofs.Field.{field_is, field_bad}

-- a count of 0 is nothing but wrong
pub push_none : (n : Numbers) (v : Option ℕ) → (push n v).count ≡ 0 → push n v ≡ wrong
push_none n None e = refl
push_none n (Some v) e = go (ltb n.count most) e
  where
    go : (t : Bool) → (pick t (record { count = n.count + 1; at = set n.at n.count v }) wrong).count ≡ 0
        → pick t (record { count = n.count + 1; at = set n.at n.count v }) wrong ≡ wrong
    go true e = absurd (omega arith)
    go false e = refl

module _ (n : Numbers) (f : List ℕ) where
  from_stop : (fs : List (List ℕ)) → (push n (number_of f)).count ≡ 0 → numbers_from n (f ∷ fs) ≡ push n (number_of f)
  unfolding numbers_from
  from_stop fs e = rw (eq-eqb _ _ e) (sym (push_none n (number_of f) e))

  pub from_next : (fs : List (List ℕ)) → ((push n (number_of f)).count ≡ 0 → ⊥) → numbers_from n (f ∷ fs) ≡ numbers_from (push n (number_of f)) fs
  unfolding numbers_from
  from_next fs e = rw (ne_eqb _ _ e)

  from_last : numbers_from n (f ∷ []) ≡ push n (number_of f)
  unfolding numbers_from
  from_last = go (eqb (push n (number_of f)).count 0) refl
    where
      go : (t : Bool) → eqb (push n (number_of f)).count 0 ≡ t → pick t wrong (push n (number_of f)) ≡ push n (number_of f)
      go true e = sym (push_none n (number_of f) (eqb-true _ _ e))
      go false e = refl

-- the loop's invariant: the numbers so far and the fields of what is left of the line make the numbers of all
pub record Turn (s : List ℕ) (n : Numbers) (rest : List ℕ) : Type 0 where
  pub left : numbers_from n (split 9 (first 10 rest)) ≡ numbers_of (split 9 (first 10 s))
  pub ends : length s - length rest + length (first 10 rest) ≡ length (first 10 s)
  pub fits : length rest ≤ length s

-- where the loop begins
pub first_turn : (s : List ℕ) → Turn s wrong s
first_turn s = record { left = refl; ends = omega arith; fits = omega arith }

-- the numbers with v behind them
abbrev pub with : Numbers → ℕ → Numbers
with n v = record { count = n.count + 1; at = set n.at n.count v }

module _ {s : List ℕ} {n : Numbers} {l : List ℕ} (i : Turn s n l) where
  -- the line's fields are wrong
  wrong_line : push n (number_of (field l)) ≡ wrong → {r : FieldsRead} → r ≡ fields_by wrong (length (first 10 s)) → r ≡ fields_of s
  wrong_line e q =
      q ∙ ap (λ m. fields_by m (length (first 10 s))) (sym e ∙ sym (from_stop n (field l) (later 9 (first 10 l)) (ap (λ m. m.count) e)) ∙ i.left)

  pub bad_turn : None ≡ field_of l → {r : FieldsRead} → r ≡ fields_by wrong (length (first 10 s)) → r ≡ fields_of s
  bad_turn p = wrong_line (ap (push n) (field_bad l p))

  module _ {f : FieldRead} (p : Some f ≡ field_of l) where
    pub full_turn : most ≤ n.count → {r : FieldsRead} → r ≡ fields_by wrong (length (first 10 s)) → r ≡ fields_of s
    full_turn h = wrong_line (ap (push n) (field_is l p).number ∙ rw (le-ltb n.count most h))

    module _ (h : n.count < most) where
      pushed : push n (number_of (field l)) ≡ with n f.number
      pushed = ap (push n) (field_is l p).number ∙ rw (lt-ltb n.count most h)

      pub last_turn : f.stop ≡ 10 → fields_by (with n f.number) (length s - length l + f.end) ≡ fields_of s
      last_turn g =
          let e : length (first 10 l) ≡ f.end = line_end 9 10 l (field_is l p).end (λ x. let z : ◌≡◌ {A = ℕ} 9 10 = x in omega arith) (sym (field_is l p).stop ∙ g) in
          ap (λ m. fields_by m (length s - length l + f.end))
          (sym pushed ∙ sym (from_last n (field l)) ∙ ap (λ fs. numbers_from n (field l ∷ fs)) (sym (no_fields 9 10 l (field_is l p).end e)) ∙ i.left)
          ∙ ap (fields_by (numbers_of (split 9 (first 10 s)))) (ap (λ x. length s - length l + x) (sym e) ∙ i.ends)

      module _ (g : f.stop ≡ 10 → ⊥) where
        goes : f.end < length (first 10 l)
        goes = line_on 9 10 l (field_is l p).end (λ e. g ((field_is l p).stop ∙ e))

        pub inside : f.end < length l
        inside = place_inside 9 10 l (field_is l p).end goes

        shorter : length (after f.end l) ≡ length l - (f.end + 1)
        shorter = ap length (tail_part l (f.end + 1)) ∙ length-drop (f.end + 1) l

        pub next_turn : Turn s (with n f.number) (after f.end l)
        next_turn = record {
          left =
              ap (numbers_from (with n f.number)) (sym (fields_after 9 10 l (field_is l p).end goes))
              ∙ ap (λ m. numbers_from m (later 9 (first 10 l))) (sym pushed)
              ∙ sym (from_next n (field l) (later 9 (first 10 l)) (λ e. let z = sym (ap (λ m. m.count) pushed) ∙ e in omega arith))
              ∙ i.left;
          ends = let x = i.ends in let y = i.fits in omega (arith, inside, shorter, end_after 9 10 l (field_is l p).end goes);
          fits = let x = i.fits in omega (arith, shorter);
        }
