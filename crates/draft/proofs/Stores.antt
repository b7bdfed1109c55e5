-- A line that is taken leaves what it says. Assumes nothing.
use mathlib.Core.Path.{◌≡◌, refl}
use borrow.Author.Tests.{eq-eqb}
use Rattle.line.specs.declared.words.Line.{Line}
use Rattle.modelline.specs.declared.Word.{Word}
use Rattle.limits.specs.Limits.{Fits}
use Rattle.limits.proofs.Passed.{fits}
use Rattle.draft.specs.Draft.{Draft}
use Rattle.draft.specs.Lines.{counts_of, after, take_line}

-- a line that is taken fits, and leaves what it says
pub gone_on : (d : Draft) (l : Line Word) → (take_line d l).refusal ≡ 0 → Fits (counts_of d) l.word l.numbers × ((take_line d l).draft ≡ after d l.word l.numbers)
unfolding take_line
gone_on d l e = (fits (counts_of d) l.word l.numbers refl e, rw (eq-eqb _ 0 e))
