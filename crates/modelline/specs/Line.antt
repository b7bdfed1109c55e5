-- The words of a model text, and what one of its lines says: its word and its numbers. Assumes nothing.
use Rattle.std.specs.Prelude.{List, [], ◌∷◌, ℕ, IsTrue, refl}
use Rattle.text.specs.Split.{without}
use Rattle.numbers.specs.declared.Numbers.{Numbers}
use Rattle.line.specs.Words as any
use Rattle.line.specs.declared.words.Line.{Line}
use Rattle.line.specs.declared.words.LineRead.{LineRead}
use Rattle.modelline.specs.declared.Word.{Word}
use Rattle.modelline.specs.declared.Word.TheVariants.{Size, Start, Final, Event, Exit, Direct, Call, Move, Unknown}

-- "size"
abbrev pub size : List ℕ
size = 115 ∷ 105 ∷ 122 ∷ 101 ∷ []

-- "start"
abbrev pub start : List ℕ
start = 115 ∷ 116 ∷ 97 ∷ 114 ∷ 116 ∷ []

-- "final"
abbrev pub final : List ℕ
final = 102 ∷ 105 ∷ 110 ∷ 97 ∷ 108 ∷ []

-- "event"
abbrev pub event : List ℕ
event = 101 ∷ 118 ∷ 101 ∷ 110 ∷ 116 ∷ []

-- "exit"
abbrev pub exit : List ℕ
exit = 101 ∷ 120 ∷ 105 ∷ 116 ∷ []

-- "direct"
abbrev pub direct : List ℕ
direct = 100 ∷ 105 ∷ 114 ∷ 101 ∷ 99 ∷ 116 ∷ []

-- "call"
abbrev pub call : List ℕ
call = 99 ∷ 97 ∷ 108 ∷ 108 ∷ []

-- "move"
abbrev pub move : List ℕ
move = 109 ∷ 111 ∷ 118 ∷ 101 ∷ []

-- each word and its bytes
abbrev pub words : List ((List ℕ) × Word)
words = (size, Size) ∷ (start, Start) ∷ (final, Final) ∷ (event, Event) ∷ (exit, Exit) ∷ (direct, Direct) ∷ (call, Call) ∷ (move, Move) ∷ []

-- no tab and no line feed stands in one
pub plain : IsTrue (any.are_plain words)
unfolding without
plain = refl

-- a line by its first field and the numbers of the others
unfoldable pub line_by : List ℕ → Numbers → Line Word
line_by f n = any.line_by words Unknown f n

-- a line by its fields, which tabs part: no word stands alone
unfoldable pub line_of : List (List ℕ) → Line Word
line_of fs = any.line_of words Unknown fs

-- the line that a text begins with, up to its line feed
abbrev pub line_at : List ℕ → LineRead Word
line_at s = any.line_at words Unknown s
