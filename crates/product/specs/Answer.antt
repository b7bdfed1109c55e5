-- What a call answers, by the document's numbers: what was asked for, or a refusal by its number, with the values returned. Every call's `meaning` is
-- given in it. Assumes nothing.
use Rattle.std.specs.Prelude.{List, ℕ}

pub data Answer (A : Type 0) : Type 0 where
  answered : A → Answer A
  refused : (number : ℕ) → (values : List ℕ) → Answer A

-- what a call answers that only accepts or refuses
pub data Acceptance : Type 0 where
  accepted : Acceptance
