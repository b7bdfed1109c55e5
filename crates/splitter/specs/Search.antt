-- What the search for the listing asks at a place: whether a line begins there that starts with `safe`, and which letter of it a byte is. Assumes nothing.
use Rattle.std.specs.Prelude.{Bool, ◌&&◌, List, ◌∷◌, ℕ, Option, None, Some, eqb, get_or, drop}
use Rattle.text.specs.Split.{pick}
use Rattle.splitter.specs.Part.{starts_safe}

-- at place i of s, before which the byte c stands: the byte before is a line feed, and the part from there starts with the word
abbrev pub safe_behind : (c : ℕ) → List ℕ → ℕ → Bool
safe_behind c s i = eqb (get_or (c ∷ s) i 0) 10 && starts_safe (drop i s)

-- a text begins with a line, as behind a line feed
abbrev pub safe_at : List ℕ → ℕ → Bool
safe_at s i = safe_behind 10 s i

-- 0 to 3 for the letters of `safe`
abbrev pub letter_of : ℕ → Option ℕ
letter_of b = pick (eqb b 115) (Some 0) (pick (eqb b 97) (Some 1) (pick (eqb b 102) (Some 2) (pick (eqb b 101) (Some 3) None)))
