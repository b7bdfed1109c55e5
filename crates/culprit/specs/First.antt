-- The answer at the lowest number that has one. Assumes nothing.
use Rattle.std.proofs.Math.Option.{Option, none, some}
use Rattle.std.specs.Prelude.{ℕ, zero, suc}

abbrev pub or_else : {A : Type 0} → Option A → Option A → Option A
or_else (some a) b = some a
or_else none b = b

-- of f 0, f 1, .. f (n - 1) the first that is there
unfoldable pub first_of : {A : Type 0} → (ℕ → Option A) → ℕ → Option A
first_of f zero = none
first_of f (suc n) = or_else (first_of f n) (f n)
