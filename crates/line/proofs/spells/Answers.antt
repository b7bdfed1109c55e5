-- `line::spells` meets its contract, by the byte behind the word (Spelled). Assumes nothing.
use mathlib.Core.Path.{sym, ◌∙◌}
use lib.Seq.{length-take-le}
use Rattle.line.proofs.Spelled.{too_short, no_tab, tabbed}
use native.Mathlib.Omega.{arith}
use Rattle.line.proofs.spells.Goals as goal

pub returns-then-s-n : goal.returns-then-s-n
returns-then-s-n c = let a = c.args in too_short a.s.now a.word.now c.if-s-n.true

pub returns-then-s-n-ne9 : goal.returns-then-s-n-ne9
returns-then-s-n-ne9 c = let a = c.args in no_tab a.s.now a.word.now c.if-s-n-ne9.true

pub slice_bounds-same-end : goal.slice_bounds-same-end
slice_bounds-same-end c = sym (length-take-le _ c.args.s.now (omega (arith, c.if-s-n.false)))

pub returns : goal.returns
returns c =
    let a = c.args in
    c.same.ensures ∙ tabbed a.s.now a.word.now c.if-s-n-ne9.false
