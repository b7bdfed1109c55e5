-- `decide::rounds::judge` meets its contract. Assumes nothing.
use Rattle.decide.specs.Driven.{violates, is_safe, is_spent, goes_on}
use Rattle.decide.proofs.Turning.{not_true, not_false}
use Rattle.decide.proofs.rounds.judge.Goals as goal

pub returns-then-look-ne0 : goal.returns-then-look-ne0
returns-then-look-ne0 c = let seen = c.look in record { seen = seen.result; seen_is = seen.ensures; tested = violates c.if-look-ne0.true }

pub returns-then-not-t : goal.returns-then-not-t
returns-then-not-t c = let seen = c.look in record { seen = seen.result; seen_is = seen.ensures; tested = is_safe c.if-look-ne0.false (not_true _ c.if-not-t.true) }

pub returns-then-budget-n : goal.returns-then-budget-n
returns-then-budget-n c =
    record { seen = c.look.result; seen_is = c.look.ensures; tested = is_spent c.if-look-ne0.false (not_false _ c.if-not-t.false) c.if-budget-n.true }

pub returns : goal.returns
returns c = record { seen = c.look.result; seen_is = c.look.ensures; tested = goes_on c.if-look-ne0.false (not_false _ c.if-not-t.false) c.if-budget-n.false }
