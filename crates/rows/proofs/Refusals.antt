-- By which numbers a text is refused: 1 at no line, else 2, 3 or 4. Assumes nothing.
use mathlib.Core.Bool.{Bool, true, false}
use mathlib.Core.List.{List, [], ◌∷◌}
use mathlib.Core.Path.{◌≡◌}
use Prim.Native.Nat.{ℕ, ◌+◌, ◌≤◌}
use native.Mathlib.Omega.{arith}
use lib.Dec.{eqb, ltb}
use lib.ListN.{length}
use Rattle.text.specs.Split.{pick, first, later, split}
use Rattle.numbers.specs.Number.{nth}
use Rattle.numbers.specs.declared.Numbers.{Numbers}
use Rattle.product.specs.Table.{absent}
use Rattle.table.specs.declared.Size.{Size}
use Rattle.ranking.specs.Rank.{largest, fault_of, counted, head_put, triple_put}
use Rattle.listingline.specs.Line.{line_of}
use Rattle.line.specs.declared.words.Line as words
use Rattle.listingline.specs.declared.Word.{Word}
use Rattle.listingline.specs.declared.Word.TheVariants.{Safe, Head, Erase, Unknown}
use Rattle.line.specs.declared.fault.TextError.{TextError}
use Rattle.line.specs.declared.fault.TextError.TheVariants.{TooLong, Line}
use Rattle.line.specs.Fault.{text_number}
use Rattle.ranking.proofs.Faults.{some_fault}
use Rattle.rows.specs.State.{State, Ended}
use Rattle.rows.specs.Lines.{refuse, goes, with_header, heads_by, triples_by, safe_step, unless, head_step, triple_step, step_by, step_of, ends, agreement, finished, read_from, longest, read_text}

-- a text that is refused has a number
pub some_number : (e : TextError) → text_number e ≡ 0 → ⊥
some_number TooLong n = omega arith
some_number (Line fault line) n = some_fault fault n

-- the number of a line's refusal, or 0
record OfLine (n : ℕ) : Type 0 where
  pub small : n ≤ 4
  pub not_one : n ≡ 1 → ⊥

none : OfLine 0
none = record { small = omega arith; not_one = λ e. omega arith }

two : OfLine 2
two = record { small = omega arith; not_one = λ e. omega arith }

three : OfLine 3
three = record { small = omega arith; not_one = λ e. omega arith }

four : OfLine 4
four = record { small = omega arith; not_one = λ e. omega arith }

fault_of_lem : (begun : Bool) (held : ℕ) (inside : Bool) (rank : ℕ) → OfLine (fault_of begun held inside rank)
unfolding fault_of
fault_of_lem begun held inside rank = go begun (eqb held absent) inside (ltb largest rank)
  where
    go : (a b c d : Bool) → OfLine (pick a (pick b (pick c (pick d 4 0) 4) 3) 3)
    go false b c d = three
    go true false c d = three
    go true true false d = four
    go true true true true = four
    go true true true false = none

counted_of : (count takes : ℕ) {fault : ℕ} → OfLine fault → OfLine (counted count takes fault)
counted_of count takes {fault} h = go (eqb count takes)
  where
    go : (b : Bool) → OfLine (pick b fault 2)
    go true = h
    go false = two

unless_of : {fault : ℕ} (s next : State) → OfLine fault → OfLine (unless fault s next).refusal
unless_of {fault} s next h = go (eqb fault 0)
  where
    go : (b : Bool) → OfLine (pick b (goes next) (refuse fault s)).refusal
    go true = none
    go false = h

safe_of : (s : State) (n : Numbers) → OfLine (safe_step s n).refusal
unfolding safe_step
safe_of s n = go (eqb n.count 3) s.begun (ltb largest (nth n 0))
  where
    go : (a b c : Bool) → OfLine (pick a (pick b (refuse 3 s) (pick c (refuse 4 s) (goes (with_header s (nth n 0) (nth n 1) (nth n 2))))) (refuse 2 s)).refusal
    go false b c = two
    go true true c = three
    go true false true = four
    go true false false = none

head_of : (z : Size) (s : State) (n : Numbers) → OfLine (head_step z s n).refusal
unfolding head_step
head_of z s n = unless_of s (heads_by s (head_put z s.headcells n)) (counted_of n.count 3 (fault_of_lem s.begun _ _ (nth n 2)))

triple_of : (z : Size) (s : State) (n : Numbers) → OfLine (triple_step z s n).refusal
unfolding triple_step
triple_of z s n = unless_of s (triples_by s (triple_put z s.triplecells n)) (counted_of n.count 4 (fault_of_lem s.begun _ _ (nth n 3)))

step_of_lem : (z : Size) (s : State) (l : words.Line Word) → OfLine (step_of z s l).refusal
unfolding step_of
step_of_lem z s l = by_word l.word l.numbers
  where
    by_word : (w : Word) (n : Numbers) → OfLine (step_by z s w n).refusal
    by_word Safe n = safe_of s n
    by_word Head n = head_of z s n
    by_word Erase n = triple_of z s n
    by_word Unknown n = two

finished_of : (s : State) → OfLine (finished s).refusal
unfolding agreement
finished_of s = go s.begun (eqb s.heads s.headcount) (eqb s.triples s.triplecount)
  where
    go : (a b c : Bool) → OfLine (pick a (pick b (pick c 0 3) 3) 3)
    go false b c = three
    go true false c = three
    go true true true = none
    go true true false = three

lines_of : (z : Size) (n : ℕ) (s : State) (l : List ℕ) (ls : List (List ℕ)) → OfLine (read_from z n s l ls).refusal
unfolding read_from
lines_of z n s l [] = go (ltb 0 (length l))
  where
    go : (b : Bool) → OfLine (pick b (ends 2 n s) (finished s)).refusal
    go true = two
    go false = finished_of s
lines_of z n s l (k ∷ ls) =
    go (lines_of z (n + 1) (step_of z s (line_of (split 9 l))).state k ls) (eqb (step_of z s (line_of (split 9 l))).refusal 0)
  where
    go : OfLine (read_from z (n + 1) (step_of z s (line_of (split 9 l))).state k ls).refusal → (b : Bool)
        → OfLine (pick b (read_from z (n + 1) (step_of z s (line_of (split 9 l))).state k ls) (ends (step_of z s (line_of (split 9 l))).refusal n s)).refusal
    go h true = h
    go h false = step_of_lem z s (line_of (split 9 l))

-- a text that is too long has no line
pub record Refusals (e : Ended) : Type 0 where
  pub small : e.refusal ≤ 4
  pub no_line : e.refusal ≡ 1 → e.line ≡ 0

pub text_of : (z : Size) (s : State) (text : List ℕ) → Refusals (read_text z s text)
text_of z s text = go (ltb longest (length text))
  where
    go : (b : Bool) → Refusals (pick b (ends 1 0 s) (read_from z 1 s (first 10 text) (later 10 text)))
    go true = record { small = omega arith; no_line = λ e. omega arith }
    go false =
        let h = lines_of z 1 s (first 10 text) (later 10 text) in
        record { small = h.small; no_line = λ e. absurd (h.not_one e) }
