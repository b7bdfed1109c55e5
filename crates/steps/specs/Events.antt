-- The moves of each event, as a matrix: what is joined to the matrices of the symbols that show it. Assumes nothing.
use Rattle.std.specs.Prelude.{Bool, false, cond, ◌&&◌, List, ℕ, zero, suc, ◌+◌, ◌*◌, ◌/◌, ◌^◌, min, eqb, ltb, get_or, set}
use Rattle.std.specs.Int.Bits.{bit_or}
use Rattle.product.specs.Lists.{up_to, each}
use Rattle.bits.specs.Bit.{bit}
use Rattle.bits.specs.Matrix.{some}
use Rattle.model.specs.declared.Model.{Model}
use Rattle.model.specs.Model.{move}
use Rattle.steps.specs.Steps.{matrix}

-- the move v leads by e from q to q'
abbrev pub move_by : Model → (e v q q' : ℕ) → Bool
move_by m e v q q' = eqb (move m v).event e && (eqb (move m v).source q && eqb (move m v).target q')

unfoldable pub event_steps : Model → (moves : ℕ) → List ℕ
event_steps m moves = each (up_to 16) (λ e. matrix (λ q q'. some (min moves 128) (λ v. move_by m e v q q')))

-- with one move more, where its numbers have a place
unfoldable pub with_move : List ℕ → (q e x : ℕ) → List ℕ
with_move on q e x = cond (ltb q 8 && ltb x 8 && ltb e 16) (set on e (bit_or (get_or on e 0) (2 ^ (q * 8 + x)))) on

-- n truths from number `at` on, in a word: byte k is 1 or 0
unfoldable pub marks : (shows : List Bool) → (at n : ℕ) → ℕ
marks shows at zero = 0
marks shows at (suc n) = bit_or (marks shows at n) (cond (get_or shows (at + n) false) (2 ^ (n * 8)) 0)

-- the matrix of some event that is marked in w has bit i; its first byte is that of event `from`
unfoldable pub marked : (on : List ℕ) → (from w i : ℕ) → Bool
marked on from w i = some 64 (λ j. bit w j && bit (get_or on (from + j / 8) 0) i)
