-- A model as one array of bytes, as it is lent to the calls above: which record such bytes are, and which product. Assumes nothing.
-- Four numbers a rule from 0 on, three a move from 1,024, a truth for each symbol and event from 1,408, one for each state that is final from 1,920;
-- from 1,928 on symbols, states, events, start state, start symbol, the number of rules, its low byte first, and the number of moves.
use Rattle.std.specs.Prelude as code
use Rattle.std.specs.Prelude.{Some, None, Bool, cond, List, [], ◌∷◌, ◌++◌, map, ◌≡◌, ℕ, ◌+◌, ◌*◌, ◌/◌, ◌%◌, ◌≤◌, eqb, length, get_or, take, drop}
use Rattle.std.proofs.Math.Option.{Option}
use Rattle.product.specs.Product.{Product}
use Rattle.model.specs.declared.Model.{Model}
use Rattle.model.specs.declared.Shape.{Shape}
use Rattle.model.specs.Model.{in_row, product_of}
use Rattle.model.specs.Valid.{of_parts}
use Rattle.lent.specs.declared.Row.{Row}

-- n cells from a place on
abbrev pub part : (from n : ℕ) → List ℕ → List ℕ
part from n cells = take n (drop from cells)

-- a truth is an odd number
abbrev pub is_true : ℕ → Bool
is_true n = eqb (n % 2) 1

abbrev pub byte_of : Bool → ℕ
byte_of b = cond b 1 0

unfoldable pub truths : List ℕ → List Bool
truths cells = map is_true cells

unfoldable pub bytes_of : List Bool → List ℕ
bytes_of bs = map byte_of bs

abbrev pub shape_in : List ℕ → Shape
shape_in cells = record {
  symbols = get_or cells 1928 0;
  states = get_or cells 1929 0;
  events = get_or cells 1930 0;
  startstate = get_or cells 1931 0;
  startsymbol = get_or cells 1932 0;
  rules = get_or cells 1933 0 + 256 * get_or cells 1934 0;
  moves = get_or cells 1935 0;
}

-- the numbers of the row of rule r
abbrev pub row_in : List ℕ → (r : ℕ) → Row
row_in cells r = record {
  kind = in_row 4 (part 0 1024 cells) r 0;
  symbol = in_row 4 (part 0 1024 cells) r 1;
  over = in_row 4 (part 0 1024 cells) r 2;
  under = in_row 4 (part 0 1024 cells) r 3;
}

-- the record of a shape and the bytes' rules, moves and truths; and the record that the bytes are
abbrev pub of_lent : Shape → List ℕ → Model
of_lent s cells = of_parts s (part 0 1024 cells) (part 1024 384 cells) (truths (part 1408 512 cells)) (truths (part 1920 8 cells))

unfoldable pub model_in : List ℕ → Model
model_in cells = of_lent (shape_in cells) cells

-- and its product
abbrev pub product_in : List ℕ → Product
product_in cells = product_of (model_in cells)

-- the state after rule r and move v from q
abbrev pub next_by : Product → (r v q : ℕ) → Option ℕ
next_by p r v q = p.next (record { by_rule = r; by_move = v }) q

-- a state that was read is a byte
abbrev pub InByte : code.Option ℕ → Type 0
InByte None = Unit {0}
InByte (Some q) = q ≤ 255

-- The bytes of a record: its rules, its moves, what is shown, what is final; then the last eight, which say the rest of it in the order above.
unfoldable pub laid : Model → (last : List ℕ) → List ℕ
laid m last = m.rulerows ++ (m.moverows ++ (bytes_of m.shows ++ (bytes_of m.finals ++ last)))

abbrev pub shape_bytes : Model → List ℕ
shape_bytes m =
    m.symbols ∷ m.states ∷ m.events ∷ m.startstate ∷ m.startsymbol ∷ (m.rules % 256) ∷ (m.rules / 256 % 256) ∷ (m.moves % 256) ∷ []

abbrev pub packed : Model → List ℕ
packed m = laid m (shape_bytes m)

-- the arrays of a record are as long as the bytes have room for
pub record Sized (m : Model) : Type 0 where
  pub rules : length m.rulerows ≡ 1024
  pub moves : length m.moverows ≡ 384
  pub shows : length m.shows ≡ 512
  pub finals : length m.finals ≡ 8
