-- The field that a text begins with, and the fields of the line that it begins with: they end at a line feed. Assumes nothing.
use Rattle.std.specs.Prelude.{List, ◌≡◌, ℕ, ◌+◌, ◌≤◌, ◌<◌, length, get_or, drop, Option, Some, None}
use Rattle.text.specs.Split.{first, split}
use Rattle.numbers.specs.declared.Numbers.{Numbers}
use Rattle.numbers.specs.declared.FieldRead.{FieldRead}
use Rattle.numbers.specs.declared.FieldsRead.{FieldsRead}
use Rattle.numbers.specs.Number.{spelled, number_of, numbers_of}

-- what stands before the first tab or line feed
abbrev pub field : List ℕ → List ℕ
field s = first 9 (first 10 s)

-- The first i bytes of s are digits and write v, and b is the next: what is read of the field goes on behind them. It is followed until there are six, or
-- the next is none.
pub record Begins (s : List ℕ) (v i b : ℕ) : Type 0 where
  pub within : i ≤ length s
  pub reads : spelled v (field (drop i s)) ≡ spelled 0 (field s)
  pub long : i + length (field (drop i s)) ≡ length (field s)
  pub next : b ≡ get_or s i 10
  pub stops : i ≤ 5 → i < length s → 48 ≤ get_or s i 0 → get_or s i 0 ≤ 57 → ⊥

-- a field's number, where it ends and the byte there, nothing where it is no number; past the end there stands a line feed
abbrev pub field_by : Option ℕ → (end stop : ℕ) → Option FieldRead
field_by None e b = None
field_by (Some v) e b = Some (record { number = v; end = e; stop = b })

abbrev pub field_of : List ℕ → Option FieldRead
field_of s = field_by (number_of (field s)) (length (field s)) (get_or s (length (field s)) 10)

-- the numbers of a line and where it ends
abbrev pub fields_by : Numbers → ℕ → FieldsRead
fields_by n e = record { numbers = n; end = e }

abbrev pub fields_of : List ℕ → FieldsRead
fields_of s = fields_by (numbers_of (split 9 (first 10 s))) (length (first 10 s))
