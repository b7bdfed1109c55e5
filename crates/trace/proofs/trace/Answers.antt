-- `trace::trace` meets its contract: after a violation the arrays are the table of ranks that `write_trace` asks for. Assumes nothing.
use mathlib.Core.Path.{refl, ap}
use Rattle.std.specs.Prelude.{Ok}
use Rattle.lent.specs.Lending.{model_in}
use Rattle.trace.proofs.Write.{ranked_by, written_by}
use Rattle.trace.proofs.Outcome.{ranked, outcome_traced, outcome_other, passed_on}
use Rattle.trace.proofs.trace.Goals as goal

pub returns-in_err-verdict : goal.returns-in_err-verdict
returns-in_err-verdict c =
    let a = c.args in
    passed_on (model_in a.m.now) a.budget a.heads.now a.triples.now _ _ a.room.now _ c.in_err-verdict.ensures _ c.from_residual.ensures.1

pub write_trace-requires : goal.write_trace-requires
write_trace-requires c =
    let a = c.args in
    record { shape_value = c.shape-shape.ensures; ranked = ranked_by a.m.now c.shape-shape.ensures (ranked (model_in a.m.now) a.budget a.heads.now a.triples.now _ _ c.in_ok-verdict.ensures _ (ap Ok c.in-Violation.is)) }

pub returns-in-Violation : goal.returns-in-Violation
returns-in-Violation c =
    let a = c.args in
    outcome_traced (model_in a.m.now) a.budget a.heads.now a.triples.now _ _ c.in_ok-verdict.ensures _ (ap Ok c.in-Violation.is)
    (written_by a.m.now c.shape-shape.ensures c.write_trace.ensures)

pub returns-in-Safe : goal.returns-in-Safe
returns-in-Safe c =
    let a = c.args in
    outcome_other (model_in a.m.now) a.budget a.heads.now a.triples.now _ _ a.room.now c.in_ok-verdict.ensures _ (ap Ok c.in-Safe.is) _ refl refl
