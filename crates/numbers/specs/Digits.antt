-- How a number is written in decimal digits. Assumes nothing.
use Rattle.std.specs.Prelude.{List, [], ◌∷◌, ◌++◌, ℕ, zero, suc, ◌+◌, ◌-◌, ◌/◌, ◌%◌, ltb, length, take, replicate}
use Rattle.text.specs.Split.{pick}
use Rattle.numbers.specs.declared.Digits.{Digits}

-- the digits of a number below 10 to the k, the most significant first
unfoldable pub decimal_in : ℕ → ℕ → List ℕ
decimal_in zero n = []
decimal_in (suc k) n = pick (ltb n 10) ((48 + n) ∷ []) (decimal_in k (n / 10) ++ (48 + n % 10) ∷ [])

-- the digits of a number below 100,000
abbrev pub decimal : ℕ → List ℕ
decimal n = decimal_in 5 n

-- at most five bytes with their count, and zeros after them
unfoldable pub written : List ℕ → Digits
written s = record { count = length s; at = s ++ replicate (5 - length s) 0 }

-- one more byte in front of them
abbrev pub front : ℕ → Digits → Digits
front b d = record { count = d.count + 1; at = b ∷ take 4 d.at }

-- the digits of a number as the bytes of its record
abbrev pub digits_of : ℕ → Digits
digits_of n = written (decimal n)
