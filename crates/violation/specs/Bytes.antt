-- What is printed of a violation: its first line, and a line for each step. Assumes nothing.
use Rattle.std.specs.Prelude.{Bool, cond, List, [], ◌∷◌, ◌++◌, ℕ, zero, suc, ◌+◌, ◌/◌, ◌%◌, min, get_or}
use Rattle.std.proofs.Math.Option.{Option, none, some}
use Rattle.product.specs.Lists.{up_to, over}
use Rattle.product.specs.Product as product
use Rattle.product.specs.Product.{Product, loaded}
use Rattle.modelline.specs.Line.{exit, direct, call}
use Rattle.model.specs.declared.Model.{Model}
use Rattle.model.specs.Model.{product_of}
use Rattle.print.specs.Bytes.{line_bytes, named_bytes}
use Rattle.violation.specs.Words.{violation_word, step_word, cut_word}

-- a room of 4,096 steps
abbrev pub room : ℕ
room = 4096

-- the steps that are printed of `count`, where so many are there: no more than a room has
abbrev pub shown : (there count : ℕ) → ℕ
shown there count = min count (min there room)

-- the kind of a rule
abbrev pub kind_of : product.Rule → List ℕ
kind_of (product.exit g) = exit
kind_of (product.direct g g1) = direct
kind_of (product.call g g1 g2) = call

-- the state after a stored step, rule·128 + move, from q; q itself where rule and move make no step
abbrev pub or_stay : ℕ → Option ℕ → ℕ
or_stay q none = q
or_stay q (some q') = q'

abbrev pub stepped : Product → (step q : ℕ) → ℕ
stepped p step q = or_stay q (p.next (loaded step) q)

-- the state after the first steps, from the start
abbrev pub state_after : Product → (steps : List ℕ) → ℕ → ℕ
state_after p steps zero = p.start_state
state_after p steps (suc i) = stepped p (get_or steps i 0) (state_after p steps i)

-- the line of a stored step: its number, rule, move, state after, kind
abbrev pub step_line : Product → (number step state : ℕ) → List ℕ
step_line p number step state = named_bytes step_word (number ∷ step / 128 ∷ step % 128 ∷ state ∷ []) (kind_of (p.rule (step / 128)))

-- the lines of the first n steps, numbered from 1
unfoldable pub step_lines : Product → (steps : List ℕ) → (n : ℕ) → List ℕ
step_lines p steps n = over (up_to n) (λ i. step_line p (i + 1) (get_or steps i 0) (state_after p steps (suc i)))

-- rounds, and the number of steps, or `cut`
unfoldable pub first_line : (whole : Bool) → (rounds n : ℕ) → List ℕ
first_line whole rounds n = cond whole (line_bytes violation_word (rounds ∷ n ∷ [])) (named_bytes violation_word (rounds ∷ []) cut_word)

-- a violation whose trace is whole or cut, with the first n of its steps
abbrev pub violation_bytes : Model → (whole : Bool) → (rounds : ℕ) → (steps : List ℕ) → (n : ℕ) → List ℕ
violation_bytes m whole rounds steps n = first_line whole rounds n ++ step_lines (product_of m) steps n
