-- The words of a listing, and what one of its lines says: its word and its numbers. Assumes nothing.
use Rattle.std.specs.Prelude.{List, [], ◌∷◌, ℕ, IsTrue, refl}
use Rattle.text.specs.Split.{without}
use Rattle.numbers.specs.declared.Numbers.{Numbers}
use Rattle.line.specs.Words as any
use Rattle.line.specs.declared.words.Line.{Line}
use Rattle.line.specs.declared.words.LineRead.{LineRead}
use Rattle.listingline.specs.declared.Word.{Word}
use Rattle.listingline.specs.declared.Word.TheVariants.{Safe, Head, Erase, Unknown}

-- "safe"
abbrev pub safe : List ℕ
safe = 115 ∷ 97 ∷ 102 ∷ 101 ∷ []

-- "head"
abbrev pub head : List ℕ
head = 104 ∷ 101 ∷ 97 ∷ 100 ∷ []

-- "erase"
abbrev pub erase : List ℕ
erase = 101 ∷ 114 ∷ 97 ∷ 115 ∷ 101 ∷ []

-- each word and its bytes
abbrev pub words : List ((List ℕ) × Word)
words = (erase, Erase) ∷ (head, Head) ∷ (safe, Safe) ∷ []

-- no tab and no line feed stands in one
pub plain : IsTrue (any.are_plain words)
unfolding without
plain = refl

-- a line by its first field and the numbers of the others
unfoldable pub line_by : List ℕ → Numbers → Line Word
line_by f n = any.line_by words Unknown f n

-- a line by its fields, which tabs part: no word stands alone
unfoldable pub line_of : List (List ℕ) → Line Word
line_of fs = any.line_of words Unknown fs

-- the line that a text begins with, up to its line feed
abbrev pub line_at : List ℕ → LineRead Word
line_at s = any.line_at words Unknown s
