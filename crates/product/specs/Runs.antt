-- The states of a product and its runs. Assumes nothing.
use Rattle.std.specs.Prelude.{Bool, cond, List, [], ◌∷◌, ◌++◌, ◌≡◌, ℕ, T, eqb}
use Rattle.std.proofs.Math.Option.{Option, none, some}
use Rattle.product.specs.Product.{Rule, symbol, pushed, Step, Product, rule_of}

-- a property state and a stack, the top first
abbrev pub State : Type 0
State = ℕ × List ℕ

-- a state is final if its property state is, over whatever stack: over the empty one too, and at the start itself
abbrev pub is_final : Product → State → Bool
is_final p (q, w) = p.final q

abbrev pub start : Product → State
start p = (p.start_state, p.start_symbol ∷ [])

-- the rule replaces the top, and the move gives the new property state, if there is one
abbrev pub replaced : Rule → List ℕ → Option ℕ → Option State
replaced ρ w none = none
replaced ρ w (some q) = some (q, pushed ρ ++ w)

-- the state after a step; over the empty stack there is none
unfoldable pub step : Product → Step → State → Option State
step p s (q, []) = none
step p s (q, g ∷ w) = cond (eqb (symbol (rule_of p s)) g) (replaced (rule_of p s) w (p.next s q)) none

-- the steps lead from one state to another
abbrev pub Run : Product → State → List Step → State → Type 0
Run p c [] c' = c ≡ c'
Run p c (s ∷ ss) c' = (d : State) × (step p s c ≡ some d) × Run p d ss c'

-- a run from the start to a final state
abbrev pub Reaches : Product → List Step → State → Type 0
Reaches p ss c = Run p (start p) ss c × T (is_final p c)
