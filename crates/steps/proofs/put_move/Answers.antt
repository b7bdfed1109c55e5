-- `steps::put_move` meets its contract. Assumes nothing.
use mathlib.Core.Logic.{inl, inr}
use Rattle.steps.proofs.Events.{no_source, no_target, no_event, is_put}
use Rattle.steps.proofs.put_move.Goals as goal

pub returns-then-q-ge8 : goal.returns-then-q-ge8
returns-then-q-ge8 c =
    elim c.then-q-ge8.either [ inl q ↦ no_source _ _ _ _ q | inr (inl x) ↦ no_target _ _ _ _ x.0 x.1 | inr (inr e) ↦ no_event _ _ _ _ e.0 e.1 e.2 ]

pub returns : goal.returns
returns c = is_put _ _ _ _ c.if-q-ge8.false c.if-x-ge8.false c.if-e-ge16.false
