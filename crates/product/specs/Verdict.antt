-- The verdict of the rounds, and the answer under a budget. Assumes nothing.
use Rattle.std.specs.Prelude.{Bool, true, false, not, ◌&&◌, ℕ, zero, suc, ◌<◌, ◌+◌, ◌*◌, T, eqb, length}
use Rattle.std.proofs.Math.Option.{Option, none, some}
use Rattle.product.specs.Lists.{any}
use Rattle.product.specs.Product.{Product}
use Rattle.product.specs.Facts.{Fact, head, triple, same, first, cells}
use Rattle.product.specs.Rounds.{held, news}

-- a head in a final state, and the triple from the start state and start symbol into a final state: there the stack ends empty
abbrev pub violating : Product → Fact → Bool
violating p (head q g) = p.final q
violating p (triple q g e) = eqb q p.start_state && eqb g p.start_symbol && p.final e

-- a violating fact is held after round n
unfoldable pub violated : Product → ℕ → Bool
violated p n = any (λ f. violating p f && held p n f) (cells p)

-- round n adds a fact; round 0 holds the start head
unfoldable pub adds : Product → ℕ → Bool
adds p zero = true
adds p (suc n) = news p (same (first p)) n

pub data Verdict : Type 0 where
  violation : ℕ → Verdict
  safe : ℕ → Verdict

abbrev pub rounds : Verdict → ℕ
rounds (violation n) = n
rounds (safe n) = n

-- the rounds go on after round n: no violating fact is held, and the round added a fact
abbrev pub GoesOn : Product → ℕ → Type 0
GoesOn p n = T (not (violated p n)) × T (adds p n)

-- a violating fact held means violation; otherwise a round that adds nothing means safe
abbrev pub Ends : Product → Verdict → Type 0
Ends p (violation n) = T (violated p n)
Ends p (safe n) = T (not (violated p n)) × T (not (adds p n))

-- the rounds go on before the last, and end there
abbrev pub IsVerdict : Product → Verdict → Type 0
IsVerdict p v = ((k : ℕ) → k < rounds v → GoesOn p k) × Ends p v

-- the verdict from round n on, if k rounds from there are enough
unfoldable pub answer_from : Product → ℕ → ℕ → Option Verdict
answer_from p zero n = none
answer_from p (suc k) n =
    elim (violated p n) [ true ↦ some (violation n) | false ↦ elim (adds p n) [ true ↦ answer_from p k (suc n) | false ↦ some (safe n) ] ]

-- the answer under a budget of rounds; none is refusal 8
unfoldable pub answer : Product → ℕ → Option Verdict
unfolding answer_from
answer p budget = answer_from p (suc budget) 0

-- the rounds that an answer has run: those of the verdict, or the whole budget
abbrev pub ran : ℕ → Option Verdict → ℕ
ran budget none = budget
ran budget (some v) = rounds v

-- the budget that is always enough: symbols · states · (states + 1)
abbrev pub bound : Product → ℕ
bound p = p.symbols * length p.states * (length p.states + 1)
