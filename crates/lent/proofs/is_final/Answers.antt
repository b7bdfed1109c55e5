-- `lent::is_final` meets its contract. Assumes nothing.
use mathlib.Core.Path.{refl, ◌∙◌}
use borrow.Author.Tests.{le-ltb}
use Rattle.lent.proofs.Parts.{in_truths, past_truths}
use Rattle.lent.specs.Lending.{model_in}
use Rattle.lent.proofs.is_final.Goals as goal

pub returns-then-q-lt8 : goal.returns-then-q-lt8
unfolding model_in
returns-then-q-lt8 c = let a = c.args in in_truths a.m.now 1920 8 a.q _ refl c.if-q-lt8.true

pub returns-else-q-lt8 : goal.returns-else-q-lt8
unfolding model_in
returns-else-q-lt8 c = let a = c.args in le-ltb a.q 8 c.if-q-lt8.false ∙ past_truths a.m.now 1920 8 a.q c.if-q-lt8.false
