-- What the lines of a model text say, gathered by kind, and when a record says exactly that. Assumes nothing.
use Rattle.std.specs.Prelude.{◌&&◌, ◌||◌, List, [], ◌∷◌, ◌++◌, ◌≡◌, ℕ, ◌<◌, eqb}
use Rattle.text.specs.Split.{first, later, split}
use Rattle.numbers.specs.Number.{nth}
use Rattle.numbers.specs.declared.Numbers.{Numbers}
use Rattle.line.specs.declared.words.Line.{Line}
use Rattle.modelline.specs.declared.Word.{Word}
use Rattle.modelline.specs.declared.Word.TheVariants.{Size, Start, Final, Event, Exit, Direct, Call, Move, Unknown}
use Rattle.modelline.specs.Line.{line_of}
use Rattle.product.specs.Lists.{up_to, each, any}
use Rattle.product.specs.Product.{Rule, exit, direct, call}
use Rattle.model.specs.declared.Move as declared
use Rattle.model.specs.declared.Model.{Model}
use Rattle.model.specs.Model.{rule, move, shown, final}

-- of each kind what was said, in the order of the lines
pub record Said : Type 0 where
  pub sizes : List (ℕ × ℕ × ℕ)
  pub starts : List (ℕ × ℕ)
  pub finals : List ℕ
  pub events : List (ℕ × ℕ)
  pub rules : List Rule
  pub moves : List declared.Move

abbrev pub nothing : Said
nothing = record { sizes = []; starts = []; finals = []; events = []; rules = []; moves = [] }

abbrev pub add_size : Said → (g q e : ℕ) → Said
add_size s g q e = record { sizes = s.sizes ++ (g, q, e) ∷ []; starts = s.starts; finals = s.finals; events = s.events; rules = s.rules; moves = s.moves }

abbrev pub add_start : Said → (q g : ℕ) → Said
add_start s q g = record { sizes = s.sizes; starts = s.starts ++ (q, g) ∷ []; finals = s.finals; events = s.events; rules = s.rules; moves = s.moves }

abbrev pub add_final : Said → ℕ → Said
add_final s q = record { sizes = s.sizes; starts = s.starts; finals = s.finals ++ q ∷ []; events = s.events; rules = s.rules; moves = s.moves }

abbrev pub add_event : Said → (g e : ℕ) → Said
add_event s g e = record { sizes = s.sizes; starts = s.starts; finals = s.finals; events = s.events ++ (g, e) ∷ []; rules = s.rules; moves = s.moves }

abbrev pub add_rule : Said → Rule → Said
add_rule s ρ = record { sizes = s.sizes; starts = s.starts; finals = s.finals; events = s.events; rules = s.rules ++ ρ ∷ []; moves = s.moves }

abbrev pub add_move : Said → declared.Move → Said
add_move s μ = record { sizes = s.sizes; starts = s.starts; finals = s.finals; events = s.events; rules = s.rules; moves = s.moves ++ μ ∷ [] }

-- one more line, by its word and its numbers
abbrev pub more : Said → Word → Numbers → Said
more s Size n = add_size s (nth n 0) (nth n 1) (nth n 2)
more s Start n = add_start s (nth n 0) (nth n 1)
more s Final n = add_final s (nth n 0)
more s Event n = add_event s (nth n 0) (nth n 1)
more s Exit n = add_rule s (exit (nth n 0))
more s Direct n = add_rule s (direct (nth n 0) (nth n 1))
more s Call n = add_rule s (call (nth n 0) (nth n 1) (nth n 2))
more s Move n = add_move s (record { source = nth n 0; event = nth n 1; target = nth n 2 })
more s Unknown n = s

abbrev pub and_line : Said → Line Word → Said
and_line s l = more s l.word l.numbers

-- the pieces between line feeds, of which all but the last are lines
abbrev pub gathered : Said → List ℕ → List (List ℕ) → Said
gathered s l [] = s
gathered s l (k ∷ ls) = gathered (and_line s (line_of (split 9 l))) k ls

-- what the lines of a text say
unfoldable pub said : List ℕ → Said
said s = gathered nothing (first 10 s) (later 10 s)

-- Exactly that: one size, one start; a state is final if some line says so, and a symbol shows an event if it is event 0 or some line says so; the rules
-- and the moves, each in the order of the lines. Events are numbers below 16.
pub record Says (s : Said) (m : Model) : Type 0 where
  pub sized : s.sizes ≡ (m.symbols, m.states, m.events) ∷ []
  pub started : s.starts ≡ (m.startstate, m.startsymbol) ∷ []
  pub finals : (q : ℕ) → final m q ≡ any (eqb q) s.finals
  pub events : (g e : ℕ) → e < 16 → shown m g e ≡ (eqb e 0 || any (λ x. eqb g x.0 && eqb e x.1) s.events)
  pub rules : each (up_to m.rules) (rule m) ≡ s.rules
  pub moves : each (up_to m.moves) (move m) ≡ s.moves
