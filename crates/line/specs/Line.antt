-- What every line of a text has, whatever its words are: the word that it begins with, and the numbers behind it. Assumes nothing.
use Rattle.std.specs.Prelude.{Bool, ◌&&◌, List, ℕ, ◌+◌, eqb, ltb, length, get_or, take, drop}
use Rattle.text.specs.Split.{pick, first, same_bytes}
use Rattle.numbers.specs.Number.{wrong}
use Rattle.numbers.specs.Field.{fields_by, fields_of}
use Rattle.numbers.specs.declared.FieldsRead.{FieldsRead}

-- whether s begins with the word w and a tab behind it
abbrev pub spells : (s w : List ℕ) → Bool
spells s w = eqb (get_or s (length w) 0) 9 && same_bytes (take (length w) s) w

-- the numbers of the fields from b on, none where that is past the end, and where the line ends that s begins with
abbrev pub from : List ℕ → ℕ → FieldsRead
from s b = pick (ltb (length s) b) (fields_by wrong (length (first 10 s))) (fields_by (fields_of (drop b s)).numbers (b + (fields_of (drop b s)).end))
