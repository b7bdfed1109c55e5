-- The steps of each class of rules, as a matrix: row q, column q' where some move leads from state q to q'. A rule's class is what its steps do to
-- the property state; with one location that is its symbol. Assumes nothing.
use Rattle.std.specs.Prelude.{Bool, cond, ◌&&◌, List, ℕ, ◌/◌, ◌%◌, min, eqb, ltb, get_or}
use Rattle.product.specs.Lists.{up_to, each}
use Rattle.product.specs.Product.{exit, symbol}
use Rattle.bits.specs.Bit.{word}
use Rattle.bits.specs.Matrix.{some, image}
use Rattle.model.specs.declared.Model.{Model}
use Rattle.model.specs.Model.{rule, move, fits_at}

-- the number of a rule's class, for the first 256 rules; 0 for any other number, which no valid model has as a rule
unfoldable pub class_of : Model → (r : ℕ) → ℕ
class_of m r = cond (ltb r 256) (symbol (rule m r)) 0

-- the symbol of class c, below 32: with one location a class is its symbol
unfoldable pub symbol_of : ℕ → ℕ
symbol_of c = c % 32

-- a matrix by its entries
abbrev pub matrix : (ℕ → ℕ → Bool) → ℕ
matrix a = word 64 (λ i. a (i / 8) (i % 8))

-- the move v, of an event below 16, makes a step from q to q' by the rules of symbol g: which of them makes no difference
abbrev pub step_by : Model → (g v q q' : ℕ) → Bool
step_by m g v q q' = ltb (move m v).event 16 && fits_at (exit g) (move m v) m.shows q && eqb (move m v).target q'

-- some move does, of the first 128
unfoldable pub steps_by : Model → (g q q' : ℕ) → Bool
steps_by m g q q' = some (min m.moves 128) (λ v. step_by m g v q q')

-- the matrix of class c, of the first 32 symbols
unfoldable pub steps_of : Model → (c : ℕ) → ℕ
steps_of m c = cond (ltb c (min m.symbols 32)) (matrix (steps_by m c)) 0

unfoldable pub class_steps : Model → List ℕ
class_steps m = each (up_to 256) (steps_of m)

-- where the steps of rule r lead from the set of states, by the matrices tg of the classes
unfoldable pub states_after : Model → (tg : List ℕ) → (r from : ℕ) → ℕ
states_after m tg r from = image from (get_or tg (class_of m r) 0)
