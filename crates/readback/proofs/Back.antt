-- A line that was written is read back as its word and its numbers. Assumes nothing.
use mathlib.Core.Path.{◌≡◌, refl, ap, ◌∙◌}
use mathlib.Core.List.{List, [], ◌∷◌, ◌++◌, append-nil, append_assoc, map}
use Prim.Native.Nat.{ℕ, ◌+◌, ◌-◌, ◌<◌, ◌≤◌}
use native.Mathlib.Omega.{arith}
use lib.Dec.{T}
use lib.ListN.{length, replicate}
use lib.Seq.{append_snoc}
use Rattle.text.specs.Split.{first, later, split, joined, without, Each}
use Rattle.numbers.specs.Number.{most}
use Rattle.numbers.specs.Digits.{decimal}
use Rattle.numbers.specs.declared.Numbers.{Numbers}
use Rattle.text.proofs.Split.{split_append, without_append}
use Rattle.numbers.proofs.Back.{without_digits, numbers_back, fields_back}
use Rattle.product.specs.Lists.{over}
use Rattle.table.specs.declared.Size.{Size}
use Rattle.line.specs.Words.{said}
use Rattle.listingline.specs.Line.{line_by, line_of}
use Rattle.listingline.specs.declared.Word.{Word}
use Rattle.rows.specs.State.{State, Ended}
use Rattle.rows.specs.Lines.{goes, ends, step_of, read_from, read_lines}
use Rattle.rows.proofs.Lines.{from_next}
use Rattle.printing.specs.Listing.{line_bytes}
use Rattle.printing.proofs.Bytes.{field}

-- the numbers of a line, with zeros behind them
abbrev pub numbers : List ℕ → Numbers
numbers ns = record { count = length ns; at = ns ++ replicate (most - length ns) 0 }

-- numbers behind tabs are the joined fields
behind : (n : ℕ) (ns : List ℕ) → decimal n ++ over ns field ≡ joined 9 (decimal n) (map decimal ns)
unfolding joined
behind n [] = append-nil (decimal n)
behind n (m ∷ ns) = ap (λ l. decimal n ++ 9 ∷ l) (behind m ns)

fields_of : (w : List ℕ) (n : ℕ) (ns : List ℕ) → T (without 9 w) → split 9 (w ++ over (n ∷ ns) field) ≡ w ∷ map decimal (n ∷ ns)
fields_of w n ns h =
    ap (λ l. split 9 (w ++ 9 ∷ l)) (behind n ns)
    ∙ split_append 9 w (joined 9 (decimal n) (map decimal ns)) h
    ∙ ap (λ l. w ∷ l) (fields_back n ns)

line_of_lem : (w : List ℕ) (n : ℕ) (ns : List ℕ) {k : Word} → ((m : Numbers) → line_by w m ≡ said k m) → T (without 9 w) → length (n ∷ ns) ≤ most → Each (λ v. v < 100000) (n ∷ ns)
    → line_of (split 9 (w ++ over (n ∷ ns) field)) ≡ said k (numbers (n ∷ ns))
unfolding line_of line_by
line_of_lem w n ns {k} e h l s = ap line_of (fields_of w n ns h) ∙ ap (line_by w) (numbers_back (n ∷ ns) l s) ∙ e _

no_feed : (ns : List ℕ) → T (without 10 (over ns field))
unfolding without
no_feed [] = tt
no_feed (n ∷ ns) = without_append 10 (decimal n) (over ns field) (without_digits 10 (omega arith) 5 n) (no_feed ns)

-- bytes that lead the reading from one state to another, whatever the line and whatever comes behind them
pub record Leads (z : Size) (s : State) (bytes : List ℕ) (t : State) : Type 0 where
  pub leads : (n : ℕ) (rest : List ℕ) → (k : ℕ) × (read_lines z n s (bytes ++ rest) ≡ read_lines z k t rest)

pub leads_none : (z : Size) (s : State) → Leads z s [] s
leads_none z s = record { leads = λ n rest. (n, refl) }

pub leads_then : {z : Size} {s t u : State} {a b : List ℕ} → Leads z s a t → Leads z t b u → Leads z s (a ++ b) u
leads_then {z} {s} {t} {u} {a} {b} x y = record {
  leads = λ n rest.
      let (k, e) = x.leads n (b ++ rest) in
      let (j, f) = y.leads k rest in
      (j, ap (read_lines z n s) (append_assoc a b rest) ∙ e ∙ f);
}

-- a line does what its word and numbers do
module _ (z : Size) (s t : State) (w : List ℕ) (n : ℕ) (ns : List ℕ) {k : Word} (e : (m : Numbers) → line_by w m ≡ said k m) (h : T (without 9 w)) (g : T (without 10 w))
    (l : length (n ∷ ns) ≤ most) (d : Each (λ v. v < 100000) (n ∷ ns)) (step : step_of z s (said k (numbers (n ∷ ns))) ≡ goes t) where
  abbrev body : List ℕ
  body = w ++ over (n ∷ ns) field

  by_split : ℕ → List (List ℕ) → Ended
  by_split i [] = ends 0 0 s
  by_split i (l ∷ ls) = read_from z i s l ls

  is : step_of z s (line_of (split 9 body)) ≡ goes t
  is = ap (step_of z s) (line_of_lem w n ns e h l d) ∙ step

  pub leads_line : Leads z s (line_bytes w (n ∷ ns)) t
  unfolding line_bytes by_split
  leads_line = record {
    leads = λ i rest. (
      i + 1,
      ap (read_lines z i s) (append_snoc body 10 rest)
          ∙ ap (by_split i) (split_append 10 body rest (without_append 10 w (over (n ∷ ns) field) g (no_feed (n ∷ ns))))
          ∙ from_next z s i body (first 10 rest) (later 10 rest) (ap (λ x. x.refusal) is)
          ∙ ap (λ x. read_lines z (i + 1) x.state rest) is,
    );
  }
