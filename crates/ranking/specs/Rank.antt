-- Why the line of a fact is refused, and what it puts into the fact's cell. Assumes nothing.
use Rattle.std.specs.Prelude.{Bool, List, ◌≡◌, ℕ, Result, eqb, ltb}
use Rattle.text.specs.Split.{pick}
use Rattle.numbers.specs.Number.{nth}
use Rattle.numbers.specs.declared.Numbers.{Numbers}
use Rattle.line.specs.declared.fault.Fault.{Fault}
use Rattle.line.specs.Fault.{number_in}
use Rattle.product.specs.Facts.{Fact, head, triple}
use Rattle.product.specs.Table.{absent}
use Rattle.table.specs.declared.Size.{Size}
use Rattle.table.specs.Cells.{view}
use Rattle.table.specs.Places.{inside, put_in}

-- the largest rank, and the most rounds
abbrev pub largest : ℕ
largest = 65534

-- Why the line of a fact is refused, and 0 if it is not: no `safe` before it, the fact is held already, its numbers are not inside their range, its
-- rank is not. `held` is what stands in the fact's cell; a fact that has no cell is held as absent.
unfoldable pub fault_of : (begun : Bool) → (held : ℕ) → (inside : Bool) → (rank : ℕ) → ℕ
fault_of begun held inside rank =
    pick begun
    (pick (eqb held absent) (pick inside (pick (ltb largest rank) 4 0) 4)
    3)
    3

-- by the fact, the cells of its kind, and its rank: the fault, and the cells with the rank put
abbrev pub rank_fault : Size → (begun : Bool) → (cells : List ℕ) → Fact → (rank : ℕ) → ℕ
rank_fault z begun cells f rank = fault_of begun (view z.symbols z.states cells cells f) (inside z.symbols z.states f) rank

abbrev pub rank_put : Size → (cells : List ℕ) → Fact → (rank : ℕ) → List ℕ
rank_put z cells f rank = put_in z.symbols z.states cells f rank

-- a line with another count of numbers than its word takes is malformed, whatever else is wrong with it
abbrev pub counted : (count takes fault : ℕ) → ℕ
counted count takes fault = pick (eqb count takes) fault 2

-- `head` state symbol rank
abbrev pub head_fault : Size → (begun : Bool) → (cells : List ℕ) → Numbers → ℕ
head_fault z begun cells n = counted n.count 3 (rank_fault z begun cells (head (nth n 0) (nth n 1)) (nth n 2))

abbrev pub head_put : Size → (cells : List ℕ) → Numbers → List ℕ
head_put z cells n = rank_put z cells (head (nth n 0) (nth n 1)) (nth n 2)

-- `erase` state symbol endstate rank
abbrev pub triple_fault : Size → (begun : Bool) → (cells : List ℕ) → Numbers → ℕ
triple_fault z begun cells n = counted n.count 4 (rank_fault z begun cells (triple (nth n 0) (nth n 1) (nth n 2)) (nth n 3))

abbrev pub triple_put : Size → (cells : List ℕ) → Numbers → List ℕ
triple_put z cells n = rank_put z cells (triple (nth n 0) (nth n 1) (nth n 2)) (nth n 3)

-- the fault is answered by its number, and without one the cells are as they are put
pub record Ranked (before after : List ℕ) (fault : ℕ) (put : List ℕ) (r : Result (Unit {0}) Fault) : Type 0 where
  pub answers : number_in r ≡ fault
  pub leaves : after ≡ pick (eqb fault 0) put before
