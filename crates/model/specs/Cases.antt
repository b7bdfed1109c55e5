-- The sharp cases of the document as one table: what the definitions give, and what the document says. Assumes nothing.
use Rattle.std.specs.Prelude.{Bool, true, false, not, ◌&&◌, ◌||◌, List, [], ◌∷◌, ◌++◌, ℕ, length, replicate}
use Rattle.std.proofs.Math.Option.{none, some}
use Rattle.product.specs.Lists.{over, each}
use Rattle.product.specs.Answer.{Answer, answered, refused, Acceptance, accepted}
use Rattle.product.specs.Product.{stored, loaded}
use Rattle.product.specs.Facts.{Fact, triple, same}
use Rattle.product.specs.Rounds.{held}
use Rattle.product.specs.Verdict.{Verdict, violation, safe, answer}
use Rattle.product.specs.Trace.{trace_of}
use Rattle.product.specs.Replay.{replay, replay_answer}
use Rattle.product.specs.Check.{checked, check_answer}
use Rattle.model.specs.declared.Model.{Model}
use Rattle.model.specs.Model.{product_of}

-- a verdict with the stored numbers of its trace, or an acceptance
pub data Outcome : Type 0 where
  decides : Verdict → List ℕ → Outcome
  accepts : Acceptance → Outcome

abbrev pub deciding : Model → ℕ → Answer Outcome
deciding m budget = elim (answer (product_of m) budget) [ none ↦ refused 8 (budget ∷ []) | some v ↦ answered (decides v (each (trace_of (product_of m) v) stored)) ]

-- what a call that accepts or refuses answers
abbrev pub accepting : Answer Acceptance → Answer Outcome
accepting (answered a) = answered (accepts a)
accepting (refused number values) = refused number values

abbrev pub checking : Model → (Fact → Bool) → Answer Outcome
checking m t = accepting (check_answer (checked (product_of m) t))

abbrev pub replaying : Model → List ℕ → Answer Outcome
replaying m ns = accepting (replay_answer (replay (product_of m) (each ns loaded)))

-- A model that starts in state 0 over symbol 0, by its sizes, final states, shown events, and the rows of its rules and moves. What comes after them
-- in the record's arrays is left out: it says nothing.
abbrev pub model_of : (symbols states events : ℕ) → (finals shows : List Bool) → (rules moves : List (List ℕ)) → Model
model_of symbols states events finals shows rules moves = record {
  symbols = symbols;
  states = states;
  events = events;
  startstate = 0;
  startsymbol = 0;
  finals = finals;
  shows = shows;
  rules = length rules;
  rulerows = over rules (λ row. row);
  moves = length moves;
  moverows = over moves (λ row. row);
}

abbrev pub exit_row : ℕ → List ℕ
exit_row g = 0 ∷ g ∷ 0 ∷ 0 ∷ []

abbrev pub direct_row : ℕ → ℕ → List ℕ
direct_row g g1 = 1 ∷ g ∷ g1 ∷ 0 ∷ []

abbrev pub call_row : ℕ → ℕ → ℕ → List ℕ
call_row g g1 g2 = 2 ∷ g ∷ g1 ∷ g2 ∷ []

abbrev pub move_row : ℕ → ℕ → ℕ → List ℕ
move_row q e q' = q ∷ e ∷ q' ∷ []

-- model A but for its events and moves; symbol 2 shows event 1, or nothing but event 0
abbrev pub like_a : (shows : List Bool) → (moves : List (List ℕ)) → Model
like_a shows moves = model_of 4 2 2 (false ∷ true ∷ []) shows (call_row 0 2 1 ∷ direct_row 2 3 ∷ exit_row 3 ∷ []) moves

abbrev pub two_shows : List Bool
two_shows = replicate 33 false ++ true ∷ []

abbrev pub model_a : Model
model_a = like_a two_shows (move_row 0 0 0 ∷ move_row 0 1 1 ∷ [])

abbrev pub model_b : Model
model_b = like_a [] (move_row 0 0 0 ∷ move_row 0 1 1 ∷ [])

abbrev pub without_move : Model
without_move = like_a two_shows (move_row 0 1 1 ∷ [])

abbrev pub one_exit : Model
one_exit = model_of 1 2 2 (false ∷ true ∷ []) (false ∷ true ∷ []) (exit_row 0 ∷ []) (move_row 0 1 1 ∷ [])

abbrev pub start_final : Model
start_final = model_of 1 1 1 (true ∷ []) [] [] []

abbrev pub least : Model
least = model_of 1 1 1 [] [] [] []

abbrev pub least_exit : Model
least_exit = model_of 1 1 1 [] [] (exit_row 0 ∷ []) (move_row 0 0 0 ∷ [])

-- the facts of B's table: those held after its 4 rounds
abbrev pub table_b : Fact → Bool
table_b = held (product_of model_b) 4

-- what is given, and what is said
pub record Case : Type 0 where
  pub given : Answer Outcome
  pub said : Answer Outcome

infix 5 ◌is◌
abbrev pub ◌is◌ : Answer Outcome → Answer Outcome → Case
given is said = record { given = given; said = said }

unfoldable pub cases : List Case
cases =
    (deciding model_a 24 is answered (decides (violation 2) (0 ∷ 129 ∷ [])))
    ∷ (deciding model_b 24 is answered (decides (safe 4) []))
    ∷ (deciding model_a 1 is refused 8 (1 ∷ []))
    ∷ (deciding model_b 3 is refused 8 (3 ∷ []))
    ∷ (deciding model_b 4 is answered (decides (safe 4) []))
    ∷ (deciding one_exit 6 is answered (decides (violation 1) (0 ∷ [])))
    ∷ (deciding start_final 0 is answered (decides (violation 0) []))
    ∷ (deciding least 2 is answered (decides (safe 1) []))
    ∷ (deciding least_exit 2 is answered (decides (safe 2) []))
    ∷ (deciding without_move 24 is answered (decides (safe 1) []))
    ∷ (checking model_b table_b is answered (accepts accepted))
    ∷ (checking model_b (λ f. table_b f && not (same f (triple 0 2 0))) is refused 11 (3 ∷ 1 ∷ 0 ∷ []))
    ∷ (checking model_b (λ f. table_b f || same f (triple 0 1 0)) is refused 11 (3 ∷ 0 ∷ 0 ∷ []))
    ∷ (checking model_b (λ f. table_b f || same f (triple 0 1 0) || same f (triple 0 0 0)) is answered (accepts accepted))
    ∷ (replaying model_a (0 ∷ 129 ∷ []) is answered (accepts accepted))
    ∷ (replaying model_a (0 ∷ []) is refused 12 (2 ∷ []))
    ∷ []

-- the models of the table are valid records
unfoldable pub models : List Model
models = model_a ∷ model_b ∷ without_move ∷ one_exit ∷ start_final ∷ least ∷ least_exit ∷ []
