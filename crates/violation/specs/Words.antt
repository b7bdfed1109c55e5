-- The words of a violation. Assumes nothing.
use Rattle.std.specs.Prelude.{List, [], ◌∷◌, ℕ}

-- "violation"
abbrev pub violation_word : List ℕ
violation_word = 118 ∷ 105 ∷ 111 ∷ 108 ∷ 97 ∷ 116 ∷ 105 ∷ 111 ∷ 110 ∷ []

-- "step"
abbrev pub step_word : List ℕ
step_word = 115 ∷ 116 ∷ 101 ∷ 112 ∷ []

-- "cut"
abbrev pub cut_word : List ℕ
cut_word = 99 ∷ 117 ∷ 116 ∷ []
