-- Which model records are valid: every count within its size, and every number in use within its range. Assumes nothing.
-- In use are the start, of each counted rule its kind, its symbol and what it pushes, and the three numbers of each counted move. Rows after the
-- counts, the numbers of a row that its kind does not push, and the truths of `finals` and `shows` may be anything.
use Rattle.std.specs.Prelude.{Bool, ◌&&◌, List, ◌∷◌, ℕ, leb, ltb}
use Rattle.product.specs.Lists.{up_to, all}
use Rattle.product.specs.Product.{Rule, symbol, pushed}
use Rattle.model.specs.declared.Model.{Model}
use Rattle.model.specs.declared.Shape.{Shape}
use Rattle.model.specs.Model.{in_row, rule_at, move_at}

abbrev pub within : (low high n : ℕ) → Bool
within low high n = leb low n && leb n high

abbrev pub sizes_in : (symbols states events rules moves : ℕ) → Bool
sizes_in symbols states events rules moves = within 1 32 symbols && within 1 8 states && within 1 16 events && leb rules 256 && leb moves 128

abbrev pub start_in : Model → Bool
start_in m = ltb m.startstate m.states && ltb m.startsymbol m.symbols

abbrev pub symbols_in : (symbols : ℕ) → Rule → Bool
symbols_in symbols ρ = all (λ g. ltb g symbols) (symbol ρ ∷ pushed ρ)

-- of row r or v
abbrev pub rule_row_in : (symbols : ℕ) → (rows : List ℕ) → ℕ → Bool
rule_row_in symbols rows r = leb (in_row 4 rows r 0) 2 && symbols_in symbols (rule_at rows r)

abbrev pub move_row_in : (states events : ℕ) → (rows : List ℕ) → ℕ → Bool
move_row_in states events rows v = ltb (move_at rows v).source states && ltb (move_at rows v).event events && ltb (move_at rows v).target states

abbrev pub rule_in : Model → ℕ → Bool
rule_in m r = rule_row_in m.symbols m.rulerows r

abbrev pub move_in : Model → ℕ → Bool
move_in m v = move_row_in m.states m.events m.moverows v

unfoldable pub valid : Model → Bool
valid m =
    sizes_in m.symbols m.states m.events m.rules m.moves
    && start_in m
    && all (rule_in m) (up_to m.rules)
    && all (move_in m) (up_to m.moves)

-- a record by its parts: what it says beside its arrays, and these
abbrev pub of_parts : Shape → (rulerows moverows : List ℕ) → (shows finals : List Bool) → Model
of_parts shape rulerows moverows shows finals = record {
  symbols = shape.symbols;
  states = shape.states;
  events = shape.events;
  startstate = shape.startstate;
  startsymbol = shape.startsymbol;
  finals = finals;
  shows = shows;
  rules = shape.rules;
  rulerows = rulerows;
  moves = shape.moves;
  moverows = moverows;
}
