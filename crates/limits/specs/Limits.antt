-- When a line of a model text is refused, and by which number, from what was read before it. Assumes nothing.
use Rattle.std.specs.Prelude.{Bool, true, false, not, ◌||◌, ◌≡◌, ℕ, ◌≤◌, ◌<◌, eqb, leb, ltb}
use Rattle.text.specs.Split.{pick}
use Rattle.numbers.specs.Number.{nth}
use Rattle.numbers.specs.declared.Numbers.{Numbers}
use Rattle.modelline.specs.declared.Word.{Word}
use Rattle.modelline.specs.declared.Word.TheVariants.{Size, Start, Final, Event, Exit, Direct, Call, Move, Unknown}
use Rattle.limits.specs.declared.Counts.{Counts}

-- Whether a line is malformed, misplaced, or one too many; and whether its first, second or third number is outside its range.
pub record Tests : Type 0 where
  pub malformed : Bool
  pub misplaced : Bool
  pub first : Bool
  pub second : Bool
  pub third : Bool
  pub full : Bool

-- the first test that holds, in the order of the document's numbers; 0 where none does
abbrev pub refusal : Tests → ℕ
refusal t = pick t.malformed 2 (pick t.misplaced 3 (pick t.first 4 (pick t.second 4 (pick t.third 4 (pick t.full 5 0)))))

-- a word that no line of a model text begins with
abbrev pub none : Tests
none = record { malformed = true; misplaced = false; first = false; second = false; third = false; full = false }

abbrev pub judged : (malformed misplaced first second third full : Bool) → Tests
judged malformed misplaced first second third full = record { malformed = malformed; misplaced = misplaced; first = first; second = second; third = third; full = full }

-- a line with another count of numbers than its word takes; numbers that are wrong have a count of 0
abbrev pub miscounted : Numbers → (takes : ℕ) → Bool
miscounted n takes = not (eqb n.count takes)

-- no count from 1 to `most`
abbrev pub uncounted : (most n : ℕ) → Bool
uncounted most n = ltb n 1 || ltb most n

-- `size` comes first: before it there are no symbols
abbrev pub unsized : Counts → Bool
unsized k = eqb k.symbols 0

-- `size` symbols states events
abbrev pub size_tests : Counts → Numbers → Tests
size_tests k n = judged (miscounted n 3) (ltb 0 k.symbols) (uncounted 32 (nth n 0)) (uncounted 8 (nth n 1)) (uncounted 16 (nth n 2)) false

-- `start` state symbol
abbrev pub start_tests : Counts → Numbers → Tests
start_tests k n = judged (miscounted n 2) (unsized k || ltb 0 k.started) (leb k.states (nth n 0)) (leb k.symbols (nth n 1)) false false

-- `final` state
abbrev pub final_tests : Counts → Numbers → Tests
final_tests k n = judged (miscounted n 1) (unsized k) (leb k.states (nth n 0)) false false false

-- `event` symbol event
abbrev pub event_tests : Counts → Numbers → Tests
event_tests k n = judged (miscounted n 2) (unsized k) (leb k.symbols (nth n 0)) (leb k.events (nth n 1)) false false

-- a rule by the count of symbols that it takes: those that a line does not have are read as 0, which is always in range
abbrev pub rule_tests : (takes : ℕ) → Counts → Numbers → Tests
rule_tests takes k n =
    judged (miscounted n takes) (unsized k) (leb k.symbols (nth n 0)) (leb k.symbols (nth n 1)) (leb k.symbols (nth n 2)) (leb 256 k.rules)

-- `move` state event state
abbrev pub move_tests : Counts → Numbers → Tests
move_tests k n =
    judged (miscounted n 3) (unsized k) (leb k.states (nth n 0)) (leb k.events (nth n 1)) (leb k.states (nth n 2)) (leb 128 k.moves)

-- by the word and its numbers
abbrev pub tests : Counts → Word → Numbers → Tests
tests k Size n = size_tests k n
tests k Start n = start_tests k n
tests k Final n = final_tests k n
tests k Event n = event_tests k n
tests k Exit n = rule_tests 1 k n
tests k Direct n = rule_tests 2 k n
tests k Call n = rule_tests 3 k n
tests k Move n = move_tests k n
tests k Unknown n = none

-- What holds of a line that is not refused.
abbrev pub Counted : (most n : ℕ) → Type 0
Counted most n = (1 ≤ n) × (n ≤ most)

abbrev pub RuleFits : Counts → Numbers → Type 0
RuleFits k n = (k.rules < 256) × (nth n 0 < k.symbols) × (nth n 1 < k.symbols) × (nth n 2 < k.symbols)

abbrev pub Fits : Counts → Word → Numbers → Type 0
Fits k Size n = (k.symbols ≡ 0) × Counted 32 (nth n 0) × Counted 8 (nth n 1) × Counted 16 (nth n 2)
Fits k Start n = (k.started ≡ 0) × (nth n 0 < k.states) × (nth n 1 < k.symbols)
Fits k Final n = nth n 0 < k.states
Fits k Event n = (nth n 0 < k.symbols) × (nth n 1 < k.events)
Fits k Exit n = RuleFits k n
Fits k Direct n = RuleFits k n
Fits k Call n = RuleFits k n
Fits k Move n = (k.moves < 128) × (nth n 0 < k.states) × (nth n 1 < k.events) × (nth n 2 < k.states)
Fits k Unknown n = ⊥
