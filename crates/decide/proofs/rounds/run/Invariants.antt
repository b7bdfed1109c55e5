-- `decide::rounds::run` meets its contract. The loop's invariant: the arrays are those after round n, and the rows are empty; the rounds that there can be at most fall. Assumes nothing.
use Prim.Native.Nat.{◌-◌}
use Rattle.decide.specs.Gather.{Empty}
use Rattle.decide.proofs.Going.{Going}
use Rattle.decide.proofs.rounds.run.Given as goal

abbrev pub invariant-loop-d : goal.invariant-loop-d
invariant-loop-d l =
    Empty 32 l.nh × Going l.given.size l.goal l.initial.t l.given.rules.now l.given.tg.now l.given.us.now l.initial.heads l.initial.triples l.budget l.n l.t l.by l.e l.hd l.heads l.triples

abbrev pub decreases-loop-d : goal.decreases-loop-d
decreases-loop-d l =
    2305 - l.n
