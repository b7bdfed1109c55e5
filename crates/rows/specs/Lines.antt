-- What the lines of a listing do, one after another. Assumes nothing.
use Rattle.std.specs.Prelude.{Bool, true, List, [], ◌∷◌, ℕ, ◌+◌, eqb, ltb, length, replicate}
use Rattle.text.specs.Split.{pick, first, later, split}
use Rattle.product.specs.Table.{absent}
use Rattle.table.specs.declared.Size.{Size}
use Rattle.ranking.specs.Rank.{largest, head_fault, head_put, triple_fault, triple_put}
use Rattle.numbers.specs.Number.{nth}
use Rattle.numbers.specs.declared.Numbers.{Numbers}
use Rattle.listingline.specs.Line.{line_of}
use Rattle.line.specs.declared.words.Line.{Line}
use Rattle.listingline.specs.declared.Word.{Word}
use Rattle.listingline.specs.declared.Word.TheVariants.{Safe, Head, Erase, Unknown}
use Rattle.rows.specs.State.{State, Step, Ended, before}

-- before the first line no fact has a rank
unfoldable pub start_state : State
start_state = before (replicate 256 absent) (replicate 2048 absent)

-- a line that is refused changes nothing
abbrev pub refuse : ℕ → State → Step
refuse n s = record { refusal = n; state = s }

abbrev pub goes : State → Step
goes s = record { refusal = 0; state = s }

-- the state with its header; with one head or one triple more
abbrev pub with_header : State → (rounds heads triples : ℕ) → State
with_header s a b c = record {
  begun = true;
  rounds = a;
  headcount = b;
  triplecount = c;
  heads = s.heads;
  triples = s.triples;
  headcells = s.headcells;
  triplecells = s.triplecells;
}

abbrev pub heads_by : State → (cells : List ℕ) → State
heads_by s cells = record {
  begun = s.begun;
  rounds = s.rounds;
  headcount = s.headcount;
  triplecount = s.triplecount;
  heads = s.heads + 1;
  triples = s.triples;
  headcells = cells;
  triplecells = s.triplecells;
}

abbrev pub triples_by : State → (cells : List ℕ) → State
triples_by s cells = record {
  begun = s.begun;
  rounds = s.rounds;
  headcount = s.headcount;
  triplecount = s.triplecount;
  heads = s.heads;
  triples = s.triples + 1;
  headcells = s.headcells;
  triplecells = cells;
}

-- `safe` rounds heads triples: its count of numbers, then once, then the rounds in range
unfoldable pub safe_step : State → Numbers → Step
safe_step s n =
    pick (eqb n.count 3)
    (pick s.begun (refuse 3 s)
    (pick (ltb largest (nth n 0)) (refuse 4 s) (goes (with_header s (nth n 0) (nth n 1) (nth n 2)))))
    (refuse 2 s)

-- by the number of the fault
abbrev pub unless : ℕ → State → State → Step
unless fault s next = pick (eqb fault 0) (goes next) (refuse fault s)

-- `head` state symbol rank
unfoldable pub head_step : Size → State → Numbers → Step
head_step z s n = unless (head_fault z s.begun s.headcells n) s (heads_by s (head_put z s.headcells n))

-- `erase` state symbol endstate rank
unfoldable pub triple_step : Size → State → Numbers → Step
triple_step z s n = unless (triple_fault z s.begun s.triplecells n) s (triples_by s (triple_put z s.triplecells n))

-- what a line does, by its word and its numbers
abbrev pub step_by : Size → State → Word → Numbers → Step
step_by z s Safe n = safe_step s n
step_by z s Head n = head_step z s n
step_by z s Erase n = triple_step z s n
step_by z s Unknown n = refuse 2 s

unfoldable pub step_of : Size → State → Line Word → Step
step_of z s l = step_by z s l.word l.numbers

-- the reading has ended: refused with a number and a line, or 0 and 0
abbrev pub ends : ℕ → ℕ → State → Ended
ends n line s = record { refusal = n; line = line; state = s }

-- there was a header, and its two counts are the numbers of lines
unfoldable pub agreement : (begun : Bool) → (heads headcount triples triplecount : ℕ) → ℕ
agreement begun heads headcount triples triplecount = pick begun (pick (eqb heads headcount) (pick (eqb triples triplecount) 0 3) 3) 3

-- after the last line
abbrev pub finished : State → Ended
finished s = ends (agreement s.begun s.heads s.headcount s.triples s.triplecount) 0 s

-- line n, which is l, and those after it: what stands behind the last line feed is no line, and must be empty
unfoldable pub read_from : Size → ℕ → State → List ℕ → List (List ℕ) → Ended
read_from z n s l [] = pick (ltb 0 (length l)) (ends 2 n s) (finished s)
read_from z n s l (k ∷ ls) =
    pick (eqb (step_of z s (line_of (split 9 l))).refusal 0)
    (read_from z (n + 1) (step_of z s (line_of (split 9 l))).state k ls)
    (ends (step_of z s (line_of (split 9 l))).refusal n s)

-- the lines of a text, from line n on
abbrev pub read_lines : Size → ℕ → State → List ℕ → Ended
read_lines z n s text = read_from z n s (first 10 text) (later 10 text)

-- the most bytes of a listing
abbrev pub longest : ℕ
longest = 45056

-- a whole text from its first line on, unless it is too long
abbrev pub read_text : Size → State → List ℕ → Ended
read_text z s text = pick (ltb longest (length text)) (ends 1 0 s) (read_lines z 1 s text)
