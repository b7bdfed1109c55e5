-- What a line of a text says, whose words are known: its word and its numbers. Assumes nothing.
use Rattle.std.specs.Prelude.{Bool, true, ◌&&◌, List, [], ◌∷◌, ℕ, length}
use Rattle.std.specs.Borrow.{Bor}
use Rattle.text.specs.Split.{pick, first, split, without, same_bytes}
use Rattle.numbers.specs.Number.{wrong, numbers_of}
use Rattle.numbers.specs.declared.Numbers.{Numbers}
use Rattle.line.specs.Line.{from}
use Rattle.line.specs.declared.words.Line.{Line}
use Rattle.line.specs.declared.words.LineRead.{LineRead}

module _ {W : Type 0} where
  -- the bytes of a word, and the word
  abbrev pub spelled : (Bor (List ℕ)) × W → (List ℕ) × W
  spelled v = (v.0.now, v.1)

  -- no tab and no line feed stands in a word
  abbrev pub are_plain : List ((List ℕ) × W) → Bool
  are_plain [] = true
  are_plain (w ∷ ws) = (without 9 w.0 && without 10 w.0) && are_plain ws

  -- a line of this word with these numbers
  abbrev pub said : W → Numbers → Line W
  said w n = record { word = w; numbers = n }

  -- a line and where it ends
  abbrev pub ended : Line W → ℕ → LineRead W
  ended l e = record { line = l; end = e }

  -- with a word, and the numbers from b on
  abbrev pub line_from : List ℕ → W → ℕ → LineRead W
  line_from s w b = ended (said w (from s b).numbers) (from s b).end

  -- a line by its first field and the numbers of the others, where these are the words; one that begins with none of them has the other word, and no
  -- numbers
  abbrev pub line_by : List ((List ℕ) × W) → W → List ℕ → Numbers → Line W
  line_by [] other f n = said other wrong
  line_by (w ∷ ws) other f n = pick (same_bytes f w.0) (said w.1 n) (line_by ws other f n)

  module _ (words : List ((List ℕ) × W)) (other : W) where
    -- a line by its fields, which tabs part: no word stands alone
    abbrev pub line_of : List (List ℕ) → Line W
    line_of [] = said other wrong
    line_of (f ∷ []) = said other wrong
    line_of (f ∷ g ∷ gs) = line_by words other f (numbers_of (g ∷ gs))

    -- the line that a text begins with, up to its line feed
    abbrev pub line_at : List ℕ → LineRead W
    line_at s = ended (line_of (split 9 (first 10 s))) (length (first 10 s))
