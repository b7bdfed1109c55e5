-- The bytes of a line: fields parted by one tab, and a line feed. Assumes nothing.
use Rattle.std.specs.Prelude.{List, [], ◌∷◌, ◌++◌, ℕ}
use Rattle.numbers.specs.Digits.{decimal}
use Rattle.product.specs.Lists.{over}

-- a tab, and the number
abbrev pub field_bytes : ℕ → List ℕ
field_bytes n = 9 ∷ decimal n

-- a word, each number behind a tab, and a line feed
unfoldable pub line_bytes : (word : List ℕ) → (numbers : List ℕ) → List ℕ
line_bytes word numbers = word ++ over numbers (λ n. 9 ∷ decimal n) ++ 10 ∷ []

-- the same, with a word as the last field
unfoldable pub named_bytes : (word : List ℕ) → (numbers : List ℕ) → (last : List ℕ) → List ℕ
named_bytes word numbers last = word ++ over numbers (λ n. 9 ∷ decimal n) ++ (9 ∷ last) ++ 10 ∷ []
