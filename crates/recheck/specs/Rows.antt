-- A row of cells as bits: set where the fact of the cell is present. Assumes nothing.
use Rattle.std.specs.Prelude.{Bool, not, ◌&&◌, List, ℕ, ◌+◌, ◌*◌, ◌<◌, ◌≤◌, eqb, get_or}
use Rattle.product.specs.Table.{absent}
use Rattle.bits.specs.Matrix.{some}

-- n cells from `at` on, `apart` from one another, as the bits from k on
unfoldable pub present : (cells : List ℕ) → (at apart k n i : ℕ) → Bool
present cells at apart k n i = some n (λ e. not (eqb (get_or cells (at + e * apart) 0) absent) && eqb (k + e) i)

-- the cells are there, and there is a bit for each
pub record InCells (cells at apart k n : ℕ) : Type 0 where
  pub inside : (e : ℕ) → e < n → at + e * apart < cells
  pub few : k + n ≤ 64
