-- What each line of a model text does to the model as far as it is read. Assumes nothing.
use Rattle.std.specs.Prelude.{true, List, ℕ, ◌+◌, ◌*◌, eqb, set}
use Rattle.text.specs.Split.{pick}
use Rattle.numbers.specs.Number.{nth}
use Rattle.numbers.specs.declared.Numbers.{Numbers}
use Rattle.line.specs.declared.words.Line.{Line}
use Rattle.modelline.specs.declared.Word.{Word}
use Rattle.modelline.specs.declared.Word.TheVariants.{Size, Start, Final, Event, Exit, Direct, Call, Move, Unknown}
use Rattle.limits.specs.declared.Counts.{Counts}
use Rattle.limits.specs.Limits.{refusal, tests}
use Rattle.model.specs.declared.Model.{Model}
use Rattle.draft.specs.declared.Outline.{Outline}
use Rattle.draft.specs.Draft.{Draft, Taken}

-- what a line is tested against
abbrev pub counts_of : Draft → Counts
counts_of d = record {
  symbols = d.model.symbols;
  states = d.model.states;
  events = d.model.events;
  started = d.started;
  rules = d.model.rules;
  moves = d.model.moves;
}

-- what is known of a draft beside its rules, moves and truths
abbrev pub outline_of : Draft → Outline
outline_of d = record { counts = counts_of d; startstate = d.model.startstate; startsymbol = d.model.startsymbol }

-- the numbers of a row that begins at i
abbrev pub three_at : List ℕ → ℕ → (a b c : ℕ) → List ℕ
three_at rows i a b c = set (set (set rows i a) (i + 1) b) (i + 2) c

abbrev pub four_at : List ℕ → ℕ → (a b c d : ℕ) → List ℕ
four_at rows i a b c d = set (three_at rows i a b c) (i + 3) d

-- the record with its sizes; with its start; with one final state, shown event, rule or move more
abbrev pub with_size : Model → (g q e : ℕ) → Model
with_size m g q e = record {
  symbols = g;
  states = q;
  events = e;
  startstate = m.startstate;
  startsymbol = m.startsymbol;
  finals = m.finals;
  shows = m.shows;
  rules = m.rules;
  rulerows = m.rulerows;
  moves = m.moves;
  moverows = m.moverows;
}

abbrev pub with_start : Model → (q g : ℕ) → Model
with_start m q g = record {
  symbols = m.symbols;
  states = m.states;
  events = m.events;
  startstate = q;
  startsymbol = g;
  finals = m.finals;
  shows = m.shows;
  rules = m.rules;
  rulerows = m.rulerows;
  moves = m.moves;
  moverows = m.moverows;
}

abbrev pub with_final : Model → (q : ℕ) → Model
with_final m q = record {
  symbols = m.symbols;
  states = m.states;
  events = m.events;
  startstate = m.startstate;
  startsymbol = m.startsymbol;
  finals = set m.finals q true;
  shows = m.shows;
  rules = m.rules;
  rulerows = m.rulerows;
  moves = m.moves;
  moverows = m.moverows;
}

abbrev pub with_event : Model → (g e : ℕ) → Model
with_event m g e = record {
  symbols = m.symbols;
  states = m.states;
  events = m.events;
  startstate = m.startstate;
  startsymbol = m.startsymbol;
  finals = m.finals;
  shows = set m.shows (g * 16 + e) true;
  rules = m.rules;
  rulerows = m.rulerows;
  moves = m.moves;
  moverows = m.moverows;
}

abbrev pub with_rule : Model → (kind g g1 g2 : ℕ) → Model
with_rule m kind g g1 g2 = record {
  symbols = m.symbols;
  states = m.states;
  events = m.events;
  startstate = m.startstate;
  startsymbol = m.startsymbol;
  finals = m.finals;
  shows = m.shows;
  rules = m.rules + 1;
  rulerows = four_at m.rulerows (m.rules * 4) kind g g1 g2;
  moves = m.moves;
  moverows = m.moverows;
}

abbrev pub with_move : Model → (q e q' : ℕ) → Model
with_move m q e q' = record {
  symbols = m.symbols;
  states = m.states;
  events = m.events;
  startstate = m.startstate;
  startsymbol = m.startsymbol;
  finals = m.finals;
  shows = m.shows;
  rules = m.rules;
  rulerows = m.rulerows;
  moves = m.moves + 1;
  moverows = three_at m.moverows (m.moves * 3) q e q';
}

-- `size` symbols states events
abbrev pub size_line : Draft → Numbers → Draft
size_line d n = record { started = d.started; model = with_size d.model (nth n 0) (nth n 1) (nth n 2) }

-- `start` state symbol
abbrev pub start_line : Draft → Numbers → Draft
start_line d n = record { started = 1; model = with_start d.model (nth n 0) (nth n 1) }

-- `final` state
abbrev pub final_line : Draft → Numbers → Draft
final_line d n = record { started = d.started; model = with_final d.model (nth n 0) }

-- `event` symbol event: event 0 too is set, which is shown with or without a line
abbrev pub event_line : Draft → Numbers → Draft
event_line d n = record { started = d.started; model = with_event d.model (nth n 0) (nth n 1) }

-- a rule of kind 0, 1 or 2; the symbols that its line does not have are 0
abbrev pub rule_line : (kind : ℕ) → Draft → Numbers → Draft
rule_line kind d n = record { started = d.started; model = with_rule d.model kind (nth n 0) (nth n 1) (nth n 2) }

-- `move` state event state
abbrev pub move_line : Draft → Numbers → Draft
move_line d n = record { started = d.started; model = with_move d.model (nth n 0) (nth n 1) (nth n 2) }

-- the draft after a line that is not refused, by its word and its numbers
abbrev pub after : Draft → Word → Numbers → Draft
after d Size n = size_line d n
after d Start n = start_line d n
after d Final n = final_line d n
after d Event n = event_line d n
after d Exit n = rule_line 0 d n
after d Direct n = rule_line 1 d n
after d Call n = rule_line 2 d n
after d Move n = move_line d n
after d Unknown n = d

-- a line that is refused changes nothing
abbrev pub taken : Draft → ℕ → Draft → Taken
taken d n next = record { refusal = n; draft = pick (eqb n 0) next d }

unfoldable pub take_line : Draft → Line Word → Taken
take_line d l = taken d (refusal (tests (counts_of d) l.word l.numbers)) (after d l.word l.numbers)
