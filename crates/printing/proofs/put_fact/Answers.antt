-- `printing::put_fact` meets its contract. Assumes nothing.
use Rattle.printing.proofs.Bytes.{fact_put, absent_put}
use native.Mathlib.Omega.{arith}
use Rattle.printing.proofs.put_fact.Goals as goal

pub returns-then-rank-eq-ABSENT : goal.returns-then-rank-eq-ABSENT
returns-then-rank-eq-ABSENT c = let a = c.args in absent_put _ _ a.kind a.size.symbols a.size.states a.i a.rank c.if-rank-eq-ABSENT.true (omega arith)

pub returns-in-Head : goal.returns-in-Head
returns-in-Head c = let a = c.args in fact_put a.size.symbols a.size.states a.i a.rank c.in-Head.is c.if-rank-eq-ABSENT.false c.put_head.ensures

pub returns-in-Triple : goal.returns-in-Triple
returns-in-Triple c = let a = c.args in fact_put a.size.symbols a.size.states a.i a.rank c.in-Triple.is c.if-rank-eq-ABSENT.false c.put_triple.ensures
