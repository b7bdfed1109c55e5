-- Lists of zeros: no row in them has an entry. Assumes nothing.
use mathlib.Core.Path.{◌≡◌, refl, ap}
use Prim.Native.Nat.{ℕ, zero, suc}
use lib.ListN.{length, get_or, replicate}
use Rattle.decide.specs.Gather.{Empty}

pub zeros_at : (n g : ℕ) → ◌≡◌ {A = ℕ} (get_or (replicate n 0) g 0) 0
zeros_at zero g = refl
zeros_at (suc n) zero = refl
zeros_at (suc n) (suc g) = zeros_at n g

zeros_long : (n : ℕ) → length (replicate {A = ℕ} n 0) ≡ n
zeros_long zero = refl
zeros_long (suc n) = ap suc (zeros_long n)

pub empty_first : (n : ℕ) → Empty n (replicate {A = ℕ} n 0)
empty_first n = record { long = zeros_long n; empty = zeros_at n }
