-- `decide::triples::visit` meets its contract. Assumes nothing.
use native.Mathlib.Omega.{arith}
use Rattle.decide.proofs.Gathered.{visit_none, visit_some}
use Rattle.decide.proofs.triples.visit.Goals as goal

pub returns-then-all-old : goal.returns-then-all-old
returns-then-all-old c =
    visit_none c.row_at-row.ensures c.args.e.now _ _ (omega arith) c.requires.by_len c.rest-m.ensures c.if-all-old.true

pub returns : goal.returns
returns c =
    visit_some c.row_at-row.ensures c.args.e.now _ _ (omega arith) c.requires.by_len c.rest-m.ensures c.insert.ensures
