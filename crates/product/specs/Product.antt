-- A product of a push-down program and a property: its rules, its steps by number, and when its numbers are in range. Assumes nothing.
use Rattle.std.specs.Prelude.{Bool, List, [], ◌∷◌, ◌≡◌, ℕ, ◌<◌, ◌+◌, ◌*◌, ◌/◌, ◌%◌}
use Rattle.std.proofs.Math.Option.{Option, some}
use Rattle.product.specs.Lists.{All, ◌∈◌}

-- g to nothing; g to g1; g to g1 on top of g2
pub data Rule : Type 0 where
  exit : (g : ℕ) → Rule
  direct : (g g1 : ℕ) → Rule
  call : (g g1 g2 : ℕ) → Rule

-- the symbol that a rule replaces, and what it puts there, the top first
abbrev pub symbol : Rule → ℕ
symbol (exit g) = g
symbol (direct g g1) = g
symbol (call g g1 g2) = g

abbrev pub pushed : Rule → List ℕ
pushed (exit g) = []
pushed (direct g g1) = g1 ∷ []
pushed (call g g1 g2) = g1 ∷ g2 ∷ []

-- a step is named by the numbers of its rule and its move
pub record Step : Type 0 where
  pub by_rule : ℕ
  pub by_move : ℕ

-- as it is stored in a trace
abbrev pub stored : Step → ℕ
stored s = s.by_rule * 128 + s.by_move

abbrev pub loaded : ℕ → Step
loaded n = record { by_rule = n / 128; by_move = n % 128 }

-- How many symbols; the property states in rising order; the start; the final property states; how many rules and moves; the rule of each number.
-- `next s q` is the one meaning of a step: the property state after the step s from the property state q with its rule's symbol on top, or none
-- where rule and move make no step there.
pub record Product : Type 0 where
  pub symbols : ℕ
  pub states : List ℕ
  pub start_state : ℕ
  pub start_symbol : ℕ
  pub final : ℕ → Bool
  pub rules : ℕ
  pub moves : ℕ
  pub rule : ℕ → Rule
  pub next : Step → ℕ → Option ℕ

abbrev pub rule_of : Product → Step → Rule
rule_of p s = p.rule s.by_rule

-- every number in use is in its range
pub record InRange (p : Product) : Type 0 where
  pub state_in : p.start_state ∈ p.states
  pub symbol_in : p.start_symbol < p.symbols
  pub rules_in : (r : ℕ) → r < p.rules → (symbol (p.rule r) < p.symbols) × All (λ g. g < p.symbols) (pushed (p.rule r))
  pub steps_in : (s : Step) (q q' : ℕ) → p.next s q ≡ some q'
      → (s.by_rule < p.rules) × (s.by_move < p.moves) × (q ∈ p.states) × (q' ∈ p.states)
