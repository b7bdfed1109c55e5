-- The bits of a number, and the number that has given bits. Assumes nothing.
use Rattle.std.specs.Prelude.{Bool, cond, ℕ, zero, suc, ◌+◌, ◌/◌, ◌%◌, ◌^◌, eqb}

abbrev pub odd : ℕ → Bool
odd x = eqb (x % 2) 1

-- bit i of x
unfoldable pub bit : ℕ → ℕ → Bool
bit x zero = odd x
bit x (suc i) = bit (x / 2) i

-- the number whose bits below n are those of f, and that has no others
unfoldable pub word : (n : ℕ) → (ℕ → Bool) → ℕ
word zero f = 0
word (suc n) f = cond (f n) (2 ^ n) 0 + word n f
