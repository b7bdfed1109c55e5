-- What a replay answers, by the document's numbers, and what it leaves in the lent stack. Assumes nothing.
use Rattle.std.specs.Prelude.{Result, Ok, Err, cond, List, [], ◌∷◌, ◌++◌, ◌≡◌, ℕ, ◌+◌, ltb, length, replicate, drop}
use Rattle.product.specs.Lists.{each}
use Rattle.product.specs.Answer.{Answer, answered, refused, Acceptance, accepted}
use Rattle.product.specs.Product.{loaded}
use Rattle.product.specs.Replay as product
use Rattle.product.specs.Replay.{replays, stops, replay, replay_answer}
use Rattle.model.specs.declared.Model.{Model}
use Rattle.model.specs.Model.{product_of}
use Rattle.model.specs.Valid.{valid}
use Rattle.replay.specs.declared.ReplayError.{ReplayError}
use Rattle.replay.specs.declared.ReplayError.TheVariants.{Invalid, Short, Bad}

-- the code's answer: accepted, or why not
abbrev pub Replayed : Type 0
Replayed = Result (Unit {0}) ReplayError

-- the document's number and values of each answer
abbrev pub meaning : Replayed → Answer Acceptance
meaning (Ok _) = answered accepted
meaning (Err Invalid) = refused 6 (0 ∷ [])
meaning (Err Short) = refused 7 (0 ∷ [])
meaning (Err (Bad k)) = refused 12 (k ∷ [])

-- a record that is not valid, a stack without steps + 1 cells, or what the steps give
abbrev pub replayed : Model → (steps : List ℕ) → (room : ℕ) → Answer Acceptance
replayed m steps room =
    cond (valid m)
    (cond (ltb (length steps) room) (replay_answer (replay (product_of m) (each steps loaded))) (refused 7 (0 ∷ [])))
    (refused 6 (0 ∷ []))

-- the code's answer for the steps
abbrev pub replayed_as : product.Replayed → Replayed
replayed_as replays = Ok tt
replayed_as (stops k) = Err (Bad k)

-- the cells afterwards: nothing is written on 6 and 7; after any run the first n are 0
abbrev pub left : Replayed → (n : ℕ) → (stack : List ℕ) → List ℕ
left (Ok _) n stack = replicate n 0 ++ drop n stack
left (Err Invalid) n stack = stack
left (Err Short) n stack = stack
left (Err (Bad k)) n stack = replicate n 0 ++ drop n stack

pub record Replays (m : Model) (steps stack : List ℕ) (r : Replayed) (stack' : List ℕ) : Type 0 where
  pub answer : meaning r ≡ replayed m steps (length stack)
  pub cells : stack' ≡ left r (length steps + 1) stack
