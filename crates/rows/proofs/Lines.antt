-- How the reading of lines goes on, line by line. Assumes nothing.
use mathlib.Core.Path.{◌≡◌, refl, sym, ap, ◌∙◌}
use mathlib.Core.Bool.{false}
use mathlib.Core.List.{List, [], ◌∷◌}
use Prim.Native.Nat.{ℕ, ◌+◌, ◌<◌, ◌≤◌}
use native.Mathlib.Omega.{arith}
use lib.ListN.{length}
use borrow.Author.Tests.{eq-eqb, ne_eqb, lt-ltb, le-ltb}
use Rattle.text.specs.Split.{first, split}
use Rattle.text.proofs.Split.{after, after_shorter, later_after, no_later, whole_piece}
use Rattle.listingline.specs.Line.{line_of, line_at}
use Rattle.line.specs.declared.words.LineRead.{LineRead}
use Rattle.listingline.specs.declared.Word.{Word}
use Rattle.table.specs.declared.Size.{Size}
use Rattle.rows.specs.declared.Tally.{Tally}
use Rattle.rows.specs.State.{State, Step, Ended, whole, nothing, before, Counted}
use Rattle.rows.specs.Lines.{step_of, ends, finished, read_from, read_lines, longest, read_text}
use Rattle.rows.proofs.Steps.{Fair, step_fair}

-- the loop's invariant: what is left to read gives what the whole text gives, and no line was counted twice
pub record Turn (z : Size) (text : List ℕ) (s₀ s : State) (rest : List ℕ) (line : ℕ) : Type 0 where
  pub room : line + length rest ≤ length text + 1
  pub heads : s.heads ≤ line
  pub triples : s.triples ≤ line
  pub left : read_lines z line s rest ≡ read_lines z 1 s₀ text

module _ (z : Size) (s : State) (n : ℕ) where
  from_refused : (l k : List ℕ) (ls : List (List ℕ)) → ((step_of z s (line_of (split 9 l))).refusal ≡ 0 → ⊥) → read_from z n s l (k ∷ ls) ≡ ends (step_of z s (line_of (split 9 l))).refusal n s
  unfolding read_from
  from_refused l k ls h = rw (ne_eqb _ _ h)

  pub from_next : (l k : List ℕ) (ls : List (List ℕ)) → (step_of z s (line_of (split 9 l))).refusal ≡ 0 → read_from z n s l (k ∷ ls) ≡ read_from z (n + 1) (step_of z s (line_of (split 9 l))).state k ls
  unfolding read_from
  from_next l k ls h = rw (eq-eqb _ _ h)

  from_open : (l : List ℕ) → 0 < length l → read_from z n s l [] ≡ ends 2 n s
  unfolding read_from
  from_open l h = rw (lt-ltb _ _ h)

  pub from_end : (l : List ℕ) → length l ≤ 0 → read_from z n s l [] ≡ finished s
  unfolding read_from
  from_end l h = rw (le-ltb _ _ h)

module _ {z : Size} {text : List ℕ} {s₀ s : State} {l : List ℕ} {n : ℕ} (i : Turn z text s₀ s l n) where
  last : {e : ℕ} → e ≡ length (first 10 l) → length l ≤ e → read_from z n s l [] ≡ read_lines z 1 s₀ text
  last f h = ap (λ y. read_from z n s y []) (sym (whole_piece 10 l f h)) ∙ ap (read_from z n s (first 10 l)) (sym (no_later 10 l f h)) ∙ i.left

  module _ {x : LineRead Word} (p : x ≡ line_at l) where
    found : x.end ≡ length (first 10 l)
    found = ap (λ (y : LineRead Word). y.end) p

    module _ (h : x.end < length l) {t : Step} (q : t ≡ step_of z s x.line) where
      is : t ≡ step_of z s (line_of (split 9 (first 10 l)))
      unfolding line_of
      is = q ∙ ap (λ (y : LineRead Word). step_of z s y.line) p

      lines : read_lines z n s l ≡ read_from z n s (first 10 l) (split 10 (after x.end l))
      lines = ap (read_from z n s (first 10 l)) (later_after 10 l found h)

      fair : Fair s t
      fair = rw q (step_fair z s x.line)

      pub refused_turn : (t.refusal ≡ 0 → ⊥) → ends t.refusal n t.state ≡ read_lines z 1 s₀ text
      refused_turn r =
          ap (ends t.refusal n) (fair.kept r)
          ∙ ap (λ u. ends u.refusal n s) is
          ∙ sym (from_refused z s n (first 10 l) _ _ (λ w. r (ap (λ u. u.refusal) is ∙ w)))
          ∙ sym lines
          ∙ i.left

      pub next_turn : t.refusal ≡ 0 → Turn z text s₀ t.state (after x.end l) (n + 1)
      next_turn r =
          let m = fair in
          record {
            room = let k = i.room in omega (arith, after_shorter x.end l h);
            heads = let a = i.heads in omega (arith, m.heads);
            triples = let a = i.triples in omega (arith, m.triples);
            left =
                ap (λ u. read_lines z (n + 1) u.state (after x.end l)) is
                ∙ sym (from_next z s n (first 10 l) _ _ (sym (ap (λ u. u.refusal) is) ∙ r))
                ∙ sym lines
                ∙ i.left;
          }

    pub open_line : 0 < length l → length l ≤ x.end → ends 2 n s ≡ read_lines z 1 s₀ text
    open_line k h = sym (from_open z s n l k) ∙ last found h

  pub done : length l ≤ 0 → {r : Ended} → r ≡ finished s → r ≡ read_lines z 1 s₀ text
  done k p = p ∙ sym (from_end z s n l k) ∙ last refl (omega arith)

pub counted : {z : Size} {text : List ℕ} {s₀ : State} {t : Tally} {hs ts l : List ℕ} {n : ℕ} → Turn z text s₀ (whole t hs ts) l n → length text ≤ 45056 → Counted t
counted i k = let r = i.room in let a = i.heads in let b = i.triples in record { heads = omega arith; triples = omega arith }

-- a tally that was not begun
pub is_nothing : (t : Tally) → (t.begun ≡ false) × ((t.rounds ≡ 0) × ((t.headcount ≡ 0) × ((t.triplecount ≡ 0) × ((t.heads ≡ 0) × (t.triples ≡ 0))))) → t ≡ nothing
is_nothing t (a, (b, (c, (d, (e, f))))) = rw (a, b, c, d, e, f)

-- where the loop begins
pub first_turn : (z : Size) (hs ts text : List ℕ) {t : Tally} → t ≡ nothing → Turn z text (before hs ts) (whole t hs ts) text 1
first_turn z hs ts text q = record {
  room = omega arith;
  heads = omega (arith, ap (λ u. u.heads) q);
  triples = omega (arith, ap (λ u. u.triples) q);
  left = ap (λ u. read_lines z 1 (whole u hs ts) text) q;
}

-- a whole text, by its length
module _ (z : Size) (s : State) (text : List ℕ) where
  pub long_text : longest < length text → ends 1 0 s ≡ read_text z s text
  long_text h = rw (lt-ltb _ _ h)

  pub short_text : length text ≤ longest → read_lines z 1 s text ≡ read_text z s text
  short_text h = rw (le-ltb _ _ h)
