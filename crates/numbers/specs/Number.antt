-- The number that a field is, and the numbers of a run of fields. Assumes nothing.
use Rattle.std.specs.Prelude.{Bool, true, false, List, [], ◌∷◌, ℕ, ◌+◌, ◌-◌, ◌*◌, eqb, ltb, length, get_or, set, replicate, Option, Some, None}
use Rattle.text.specs.Split.{pick}
use Rattle.numbers.specs.declared.Numbers.{Numbers}

-- the number that decimal digits write after those that made n; any other byte makes it none
unfoldable pub spelled : ℕ → List ℕ → Option ℕ
spelled n [] = Some n
spelled n (b ∷ bs) = pick (ltb b 48) None (pick (ltb 57 b) None (spelled (n * 10 + (b - 48)) bs))

-- one to five digits, and no leading zero but in 0 itself
unfoldable pub number_of : List ℕ → Option ℕ
number_of s =
    pick (eqb (length s) 0) None
    (pick (ltb 5 (length s)) None
    (pick (eqb (length s) 1) (spelled 0 s)
    (pick (eqb (get_or s 0 0) 48) None (spelled 0 s))))

-- whether so many digits write a number, by the first of them
abbrev pub written : (count first : ℕ) → Bool
written n b = pick (eqb n 1) true (pick (eqb n 0) false (pick (ltb 5 n) false (pick (eqb b 48) false true)))

-- the most numbers that a run of fields may have
abbrev pub most : ℕ
most = 4

-- no numbers: before the first field, and where the fields are wrong
abbrev pub wrong : Numbers
wrong = record { count = 0; at = replicate most 0 }

-- the numbers with one more behind them
abbrev pub push : Numbers → Option ℕ → Numbers
push n None = wrong
push n (Some v) = pick (ltb n.count most) (record { count = n.count + 1; at = set n.at n.count v }) wrong

-- the numbers n, then those of the fields; the first field that is no number, or has no room, makes it wrong
unfoldable pub numbers_from : Numbers → List (List ℕ) → Numbers
numbers_from n [] = n
numbers_from n (f ∷ fs) = pick (eqb (push n (number_of f)).count 0) wrong (numbers_from (push n (number_of f)) fs)

-- the numbers of the fields in order, `most` at the most, and zeros after them
abbrev pub numbers_of : List (List ℕ) → Numbers
numbers_of fs = numbers_from wrong fs

-- the i-th of them, from 0; one that is not there is 0
abbrev pub nth : Numbers → ℕ → ℕ
nth n i = get_or n.at i 0
