-- `bits::composed` meets its contract. Assumes nothing.
use mathlib.Core.Logic.{inl, inr}
use Rattle.bits.proofs.Matrix.{none_left, none_right}
use Rattle.bits.proofs.composed.Goals as goal

pub returns-then-a-eq0 : goal.returns-then-a-eq0
returns-then-a-eq0 c = elim c.then-a-eq0.either [ inl e ↦ none_left _ _ e | inr e ↦ none_right _ _ e.1 ]
