-- The bits of a word, as an iterator takes them: the lowest that is left, and then it is gone. Assumes nothing.
use Rattle.std.specs.Prelude.{◌≡◌, ℕ, ◌-◌, ◌^◌, ◌<◌, Option, MatchOption}
use Rattle.std.specs.Int.Bits.{bit_and}
use Rattle.std.specs.Int.Count.{count_trailing_zeros}
use Rattle.bits.specs.declared.Ones.{Ones}

-- i is the place of the lowest bit of the word d, and d' has the others
pub record Lowest (d i d' : ℕ) : Type 0 where
  pub some_left : 0 < d
  pub word : d < 2 ^ 64
  pub below : i < 64
  pub place : i ≡ count_trailing_zeros 64 d
  pub others : d' ≡ bit_and d (d - 1)

-- what a call of `next` answers, and what it leaves of the bits
abbrev pub TakesLowest : Ones → Option ℕ → Ones → Type 0
TakesLowest s r t = MatchOption r ((s.0 ≡ 0) × (t.0 ≡ 0)) (λ i. Lowest s.0 i t.0)
