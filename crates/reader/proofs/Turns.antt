-- How `read_from` goes on, line by line: the invariant of the loop over lines. Assumes nothing.
use mathlib.Core.Path.{◌≡◌, refl, sym, ap, ◌∙◌}
use mathlib.Core.List.{List, [], ◌∷◌}
use Prim.Native.Nat.{ℕ, ◌+◌, ◌<◌, ◌≤◌}
use native.Mathlib.Omega.{arith}
use lib.ListN.{length}
use borrow.Author.Tests.{eq-eqb, ne_eqb, lt-ltb, le-ltb}
use Rattle.text.specs.Split.{first, later, split}
use Rattle.text.proofs.Split.{after, after_shorter, later_after, no_later, whole_piece}
use Rattle.line.specs.declared.words.LineRead.{LineRead}
use Rattle.modelline.specs.declared.Word.{Word}
use Rattle.modelline.specs.Line.{line_of, line_at}
use Rattle.draft.specs.Draft.{Draft}
use Rattle.draft.specs.Lines.{take_line}
use Rattle.product.specs.Answer.{Answer, refused}
use Rattle.model.specs.declared.Model.{Model}
use Rattle.reader.specs.Text.{fresh, finished, read_from}

-- what is left to read
abbrev pub read_all : ℕ → Draft → List ℕ → Answer Model
read_all n d l = read_from n d (first 10 l) (later 10 l)

pub record Turn (text : List ℕ) (d : Draft) (rest : List ℕ) (n : ℕ) : Type 0 where
  pub room : n + length rest ≤ length text + 1
  pub left : read_all n d rest ≡ read_all 1 fresh text

module _ {text : List ℕ} {d : Draft} {l : List ℕ} {n : ℕ} (i : Turn text d l n) where
  -- no line feed is left
  last : {e : ℕ} → e ≡ length (first 10 l) → length l ≤ e → read_all n d l ≡ read_from n d l []
  last f h = ap (read_from n d (first 10 l)) (no_later 10 l f h) ∙ ap (λ s. read_from n d s []) (whole_piece 10 l f h)

  pub done : length l ≤ 0 → read_all 1 fresh text ≡ finished d
  unfolding read_from
  done z = sym i.left ∙ last refl (omega arith) ∙ rw (le-ltb _ _ z)

  module _ {x : LineRead Word} (p : x ≡ line_at l) where
    found : x.end ≡ length (first 10 l)
    found = ap (λ (y : LineRead Word). y.end) p

    pub open_line : 0 < length l → length l ≤ x.end → read_all 1 fresh text ≡ refused 2 (n ∷ [])
    unfolding read_from
    open_line z h = sym i.left ∙ last found h ∙ rw (lt-ltb _ _ z)

    module _ (h : x.end < length l) {k : ℕ} (q : k ≡ (take_line d x.line).refusal) where
      line_is : x.line ≡ line_of (split 9 (first 10 l))
      unfolding line_of
      line_is = ap (λ (y : LineRead Word). y.line) p

      number_is : k ≡ (take_line d (line_of (split 9 (first 10 l)))).refusal
      number_is = q ∙ ap (λ y. (take_line d y).refusal) line_is

      pub refused_turn : (k ≡ 0 → ⊥) → read_all 1 fresh text ≡ refused k (n ∷ [])
      unfolding read_from
      refused_turn z = sym i.left ∙ ap (read_from n d (first 10 l)) (later_after 10 l found h) ∙ rw (← number_is, ne_eqb _ _ z)

      pub next_turn : k ≡ 0 → Turn text (take_line d x.line).draft (after x.end l) (n + 1)
      unfolding read_from
      next_turn z =
          record {
            room = let r = i.room in omega (arith, after_shorter x.end l h);
            left =
                ap (λ y. read_all (n + 1) (take_line d y).draft (after x.end l)) line_is
                ∙ sym (ap (read_from n d (first 10 l)) (later_after 10 l found h) ∙ rw (← number_is, eq-eqb _ _ z))
                ∙ i.left;
          }

-- where the loop begins
pub first_turn : (text : List ℕ) → Turn text fresh text 1
first_turn text = record { room = omega arith; left = refl }
