-- `decide::heads::show_all` meets its contract. The loop's invariant: what is left to show, with the rows as they are, makes what was asked. Assumes nothing.
use Rattle.decide.proofs.Showing.{Left}
use Rattle.decide.proofs.heads.show_all.Given as goal

abbrev pub invariant-loop-i : goal.invariant-loop-i
invariant-loop-i l = Left l.fn.given.rules.now l.fn.given.tg.now l.e l.hd l.fn.set.words l.initial.nh l.i-iterator.left.words l.touched l.nh
