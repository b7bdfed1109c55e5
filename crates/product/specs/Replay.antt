-- The replay's answer to a trace. Assumes nothing.
use Rattle.std.specs.Prelude.{true, false, List, [], ◌∷◌, ℕ, suc}
use Rattle.std.proofs.Math.Option.{none, some}
use Rattle.product.specs.Product.{Product, Step}
use Rattle.product.specs.Runs.{State, is_final, step, start}
use Rattle.product.specs.Answer.{Answer, answered, refused, Acceptance, accepted}

-- accepted; or the first bad step, from 1: one that is no step of the product, or the one after the last if the end is not final
pub data Replayed : Type 0 where
  replays : Replayed
  stops : ℕ → Replayed

-- the rest of a replay, after k steps that led to the state c
unfoldable pub replay_from : Product → ℕ → State → List Step → Replayed
replay_from p k c [] = elim (is_final p c) [ true ↦ replays | false ↦ stops (suc k) ]
replay_from p k c (s ∷ ss) = elim (step p s c) [ none ↦ stops (suc k) | some d ↦ replay_from p (suc k) d ss ]

unfoldable pub replay : Product → List Step → Replayed
unfolding replay_from
replay p ss = replay_from p 0 (start p) ss

-- by the document's number: 12, with the step
abbrev pub replay_answer : Replayed → Answer Acceptance
replay_answer replays = answered accepted
replay_answer (stops k) = refused 12 (k ∷ [])
