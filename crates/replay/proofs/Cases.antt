-- Small traces of the models in the reader's table, and what the definitions answer. Assumes nothing.
use mathlib.Core.List.{List, [], ◌∷◌}
use mathlib.Core.Path.{◌≡◌, refl}
use Prim.Native.Nat.{ℕ}
use Rattle.product.specs.Answer.{Answer, answered, refused, Acceptance, accepted}
use Rattle.product.specs.Lists.{each}
use Rattle.product.specs.Runs.{step}
use Rattle.product.specs.Replay.{replay_from, replay}
use Rattle.model.specs.declared.Model.{Model}
use Rattle.model.specs.Valid.{valid}
use Rattle.model.specs.Cases.{model_of, model_a, model_b, one_exit, start_final}
use Rattle.replay.specs.Replay.{replayed}

-- a model, the stored steps, the cells of the stack, and the answer
pub record Case : Type 0 where
  pub of : Model
  pub steps : List ℕ
  pub room : ℕ
  pub said : Answer Acceptance

case : Model → List ℕ → ℕ → Answer Acceptance → Case
case m steps room said = record { of = m; steps = steps; room = room; said = said }

-- In order: accepted, one cell too few, an end that is not final, a symbol that does not show the event, no such rule, the rule's symbol not on top, no
-- move from there, nothing to run, accepted at the start, accepted over the empty stack, a step over it, and no valid record.
unfoldable pub cases : List Case
unfolding case
cases =
    case model_a (0 ∷ 129 ∷ []) 3 (answered accepted)
    ∷ case model_a (0 ∷ 129 ∷ []) 2 (refused 7 (0 ∷ []))
    ∷ case model_a (0 ∷ []) 2 (refused 12 (2 ∷ []))
    ∷ case model_b (0 ∷ 129 ∷ []) 3 (refused 12 (2 ∷ []))
    ∷ case model_a (0 ∷ 65535 ∷ []) 3 (refused 12 (2 ∷ []))
    ∷ case model_a (0 ∷ 0 ∷ []) 3 (refused 12 (2 ∷ []))
    ∷ case model_a (0 ∷ 129 ∷ 256 ∷ []) 4 (refused 12 (3 ∷ []))
    ∷ case model_a [] 1 (refused 12 (1 ∷ []))
    ∷ case start_final [] 1 (answered accepted)
    ∷ case one_exit (0 ∷ []) 2 (answered accepted)
    ∷ case one_exit (0 ∷ 0 ∷ []) 3 (refused 12 (2 ∷ []))
    ∷ case (model_of 0 1 1 [] [] [] []) [] 0 (refused 6 (0 ∷ []))
    ∷ []

pub cases_hold : each cases (λ c. replayed c.of c.steps c.room) ≡ each cases (λ c. c.said)
unfolding cases case valid step replay_from replay
cases_hold = refl
