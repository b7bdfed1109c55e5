-- `lent::shows` meets its contract: event 0 is shown, and past the end nothing is. Assumes nothing.
use native.Mathlib.Omega.{arith}
use mathlib.Core.Path.{refl, ◌∙◌}
use borrow.Author.Tests.{le-ltb}
use Rattle.lent.proofs.Parts.{shows_zero, shows_cell, shows_past}
use Rattle.lent.proofs.shows.Goals as goal

pub returns-then-e-eq0 : goal.returns-then-e-eq0
returns-then-e-eq0 c = let a = c.args in shows_zero a.m.now a.g a.e c.if-e-eq0.true

pub returns-then-g-ge32 : goal.returns-then-g-ge32
returns-then-g-ge32 c = let a = c.args in shows_past a.m.now a.g a.e c.if-e-eq0.false (omega arith)

pub returns-then-at-lt512 : goal.returns-then-at-lt512
returns-then-at-lt512 c =
    let a = c.args in
    shows_cell a.m.now a.g a.e _ c.if-e-eq0.false refl c.if-at-lt512.true

pub returns-else-at-lt512 : goal.returns-else-at-lt512
returns-else-at-lt512 c =
    let a = c.args in
    le-ltb _ _ c.if-at-lt512.false ∙ shows_past a.m.now a.g a.e c.if-e-eq0.false c.if-at-lt512.false
