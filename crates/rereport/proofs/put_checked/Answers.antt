-- `rereport::put_checked` meets its contract. Assumes nothing.
use mathlib.Core.Path.{ap, ◌∙◌}
use Rattle.std.specs.Prelude.{Err}
use Rattle.lent.specs.Lending.{model_in}
use Rattle.text.proofs.Puts.{put_length}
use Rattle.rereport.proofs.Cases.{checked_put, rule_fits, move_fits, never}
use native.Mathlib.Omega.{arith}
use Rattle.rereport.proofs.put_checked.Goals as goal

pub overflow_cast-rule : goal.overflow_cast-rule
overflow_cast-rule c =
    let a = c.args in
    omega (
      arith,
      rule_fits (model_in a.m.now) a.heads.now a.triples.now c.requires
          c.check_table-c.ensures (c.in-Err-Open.is ∙ ap Err (rw c.in-Err-Open.is at c.in-Err-Open.field-0-is)),
    )

pub overflow_cast-by : goal.overflow_cast-by
overflow_cast-by c =
    let a = c.args in
    omega (
      arith,
      move_fits (model_in a.m.now) a.heads.now a.triples.now c.requires
          c.check_table-c.ensures (c.in-Err-Open.is ∙ ap Err (rw c.in-Err-Open.is at c.in-Err-Open.field-0-is)),
    )

pub shape_of-out-in-Ok : goal.shape_of-out-in-Ok
shape_of-out-in-Ok c = put_length c.put_all.ensures

pub returns-in-Ok : goal.returns-in-Ok
returns-in-Ok c =
    let a = c.args in
    checked_put (model_in a.m.now) a.heads.now a.triples.now c.requires
    c.check_table-c.ensures c.in-Ok.is c.put_all.ensures

pub shape_of-out-in-Err-NoStart : goal.shape_of-out-in-Err-NoStart
shape_of-out-in-Err-NoStart c = put_length c.put_open.ensures

pub returns-in-Err-NoStart : goal.returns-in-Err-NoStart
returns-in-Err-NoStart c =
    let a = c.args in
    checked_put (model_in a.m.now) a.heads.now a.triples.now c.requires
    c.check_table-c.ensures (c.in-Err-NoStart.is ∙ ap Err (rw c.in-Err-NoStart.is at c.in-Err-NoStart.field-0-is)) c.put_open.ensures

pub shape_of-out-in-Err-Violating : goal.shape_of-out-in-Err-Violating
shape_of-out-in-Err-Violating c = put_length c.put_open-in-Err-Violating.ensures

pub returns-in-Err-Violating : goal.returns-in-Err-Violating
returns-in-Err-Violating c =
    let a = c.args in
    checked_put (model_in a.m.now) a.heads.now a.triples.now c.requires
    c.check_table-c.ensures (c.in-Err-Violating.is ∙ ap Err (rw c.in-Err-Violating.is at c.in-Err-Violating.field-0-is)) c.put_open-in-Err-Violating.ensures

pub shape_of-out-in-Err-Open : goal.shape_of-out-in-Err-Open
shape_of-out-in-Err-Open c = put_length c.put_open-in-Err-Open.ensures

pub returns-in-Err-Open : goal.returns-in-Err-Open
returns-in-Err-Open c =
    let a = c.args in
    checked_put (model_in a.m.now) a.heads.now a.triples.now c.requires
    c.check_table-c.ensures (c.in-Err-Open.is ∙ ap Err (rw c.in-Err-Open.is at c.in-Err-Open.field-0-is)) c.put_open-in-Err-Open.ensures

pub unreachable-requires : goal.unreachable-requires
unreachable-requires c =
    let a = c.args in
    never (model_in a.m.now) a.heads.now a.triples.now c.requires c.check_table-c.ensures _ (c.in-Err-Refused.is ∙ ap Err (rw c.in-Err-Refused.is at c.in-Err-Refused.field-0-is))
