-- What is read so far of a listing: the tally and the ranks, all lent. Assumes nothing.
use Rattle.std.specs.Prelude.{Bool, false, List, ℕ, ◌≤◌, Result, Ok, Err}
use Rattle.line.specs.declared.fault.Fault.{Fault}
use Rattle.line.specs.declared.fault.TextError.{TextError}
use Rattle.line.specs.Fault.{number_in, text_number, text_line}
use Rattle.rows.specs.declared.Tally.{Tally}

-- the header, how many lines of each kind came, and the ranks that they gave
pub record State : Type 0 where
  pub begun : Bool
  pub rounds : ℕ
  pub headcount : ℕ
  pub triplecount : ℕ
  pub heads : ℕ
  pub triples : ℕ
  pub headcells : List ℕ
  pub triplecells : List ℕ

-- what a line does: the document's number of its refusal, or 0, and the state after it
pub record Step : Type 0 where
  pub refusal : ℕ
  pub state : State

-- where the reading ended, and why
pub record Ended : Type 0 where
  pub refusal : ℕ
  pub line : ℕ
  pub state : State

-- a state, a step and an end out of the result and what is lent
abbrev pub whole : Tally → (heads triples : List ℕ) → State
whole t hs ts = record {
  begun = t.begun;
  rounds = t.rounds;
  headcount = t.headcount;
  triplecount = t.triplecount;
  heads = t.heads;
  triples = t.triples;
  headcells = hs;
  triplecells = ts;
}

abbrev pub stepped : Result (Unit {0}) Fault → Tally → (heads triples : List ℕ) → Step
stepped r t hs ts = record { refusal = number_in r; state = whole t hs ts }

-- the number of a text's result, and its line, 0 and 0 where it is read to its end
abbrev pub end_number : Result (Unit {0}) TextError → ℕ
end_number (Ok _) = 0
end_number (Err e) = text_number e

abbrev pub end_line : Result (Unit {0}) TextError → ℕ
end_line (Ok _) = 0
end_line (Err e) = text_line e

abbrev pub ended : Result (Unit {0}) TextError → Tally → (heads triples : List ℕ) → Ended
ended r t hs ts = record { refusal = end_number r; line = end_line r; state = whole t hs ts }

-- before the first line, and with the ranks that are lent
abbrev pub nothing : Tally
nothing = record { begun = false; rounds = 0; headcount = 0; triplecount = 0; heads = 0; triples = 0 }

abbrev pub before : (heads triples : List ℕ) → State
before hs ts = whole nothing hs ts

-- the counts of lines are not so large that one more could wrap
pub record Counted (t : Tally) : Type 0 where
  pub heads : t.heads ≤ 50000
  pub triples : t.triples ≤ 50000
