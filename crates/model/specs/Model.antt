-- What a model record says: its rules, moves, events and final states, the product that they make, and what a step of it is. Assumes nothing.
use Rattle.std.specs.Prelude.{Bool, false, cond, ◌&&◌, ◌||◌, List, [], ◌∷◌, ◌++◌, ◌≡◌, ℕ, ◌+◌, ◌*◌, ◌<◌, T, eqb, ltb, get_or}
use Rattle.std.proofs.Math.Option.{Option, none, some}
use Rattle.product.specs.Lists.{up_to}
use Rattle.product.specs.Product.{Rule, exit, direct, call, symbol, pushed, Step, Product}
use Rattle.product.specs.Runs.{State}
use Rattle.model.specs.declared.Model.{Model}
use Rattle.model.specs.declared.Move.{Move}

-- number i of row r, in rows of w numbers
abbrev pub in_row : (w : ℕ) → List ℕ → (r i : ℕ) → ℕ
in_row w rows r i = get_or rows (r * w + i) 0

-- kind 0 is an exit, 1 a direct step, and any other a call
abbrev pub rule_by : (kind g g1 g2 : ℕ) → Rule
rule_by kind g g1 g2 = cond (eqb kind 0) (exit g) (cond (eqb kind 1) (direct g g1) (call g g1 g2))

abbrev pub rule_at : (rows : List ℕ) → ℕ → Rule
rule_at rows r = rule_by (in_row 4 rows r 0) (in_row 4 rows r 1) (in_row 4 rows r 2) (in_row 4 rows r 3)

abbrev pub move_at : (rows : List ℕ) → ℕ → Move
move_at rows v = record { source = in_row 3 rows v 0; event = in_row 3 rows v 1; target = in_row 3 rows v 2 }

-- every symbol shows event 0
abbrev pub shows_at : List Bool → (g e : ℕ) → Bool
shows_at shows g e = eqb e 0 || get_or shows (g * 16 + e) false

abbrev pub rule : Model → ℕ → Rule
rule m r = rule_at m.rulerows r

abbrev pub move : Model → ℕ → Move
move m v = move_at m.moverows v

abbrev pub shown : Model → (g e : ℕ) → Bool
shown m g e = shows_at m.shows g e

abbrev pub final : Model → ℕ → Bool
final m q = get_or m.finals q false

-- the move starts at the state q, and the rule's symbol shows the move's event
abbrev pub fits_at : Rule → Move → List Bool → ℕ → Bool
fits_at ρ μ shows q = eqb μ.source q && shows_at shows (symbol ρ) μ.event

-- the state after rule r and move v from q, by the rows alone
abbrev pub next_at : (rulerows moverows : List ℕ) → (shows : List Bool) → (r v q : ℕ) → Option ℕ
next_at rulerows moverows shows r v q = cond (fits_at (rule_at rulerows r) (move_at moverows v) shows q) (some (move_at moverows v).target) none

-- the model has the rule and the move of a step
abbrev pub there : Model → Step → Bool
there m s = ltb s.by_rule m.rules && ltb s.by_move m.moves

-- The product of a model. What a step is stands in `next_at` alone, which the code's next state is too.
abbrev pub product_of : Model → Product
product_of m = record {
  symbols = m.symbols;
  states = up_to m.states;
  start_state = m.startstate;
  start_symbol = m.startsymbol;
  final = final m;
  rules = m.rules;
  moves = m.moves;
  rule = rule m;
  next = λ s q. cond (there m s) (next_at m.rulerows m.moverows m.shows s.by_rule s.by_move q) none;
}

-- A rule and a move make a step from q with g on top: the rule's symbol is on top, the move starts at q, and g, on top before the step, shows the
-- move's event.
pub record Fits (m : Model) (s : Step) (q g : ℕ) : Type 0 where
  pub rule_there : s.by_rule < m.rules
  pub move_there : s.by_move < m.moves
  pub top : symbol (rule m s.by_rule) ≡ g
  pub here : (move m s.by_move).source ≡ q
  pub seen : T (shown m g (move m s.by_move).event)

-- the rule then replaces the top, and the move gives the new property state; over the empty stack nothing is a step
abbrev pub Makes : Model → Step → State → State → Type 0
Makes m s (q, []) d = ⊥
Makes m s (q, g ∷ w) d = Fits m s q g × (d ≡ ((move m s.by_move).target, pushed (rule m s.by_rule) ++ w))
