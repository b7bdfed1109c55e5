-- `rereport::put_heard` meets its contract. Assumes nothing.
use mathlib.Core.Path.{ap, ◌∙◌}
use native.Mathlib.Omega.{arith}
use Rattle.std.specs.Prelude.{Err}
use Rattle.lent.specs.Lending.{model_in}
use Rattle.text.proofs.Puts.{put_length}
use Rattle.rereport.proofs.Cases.{case_put, text_put, case_line}
use Rattle.rereport.proofs.put_heard.Goals as goal

pub put_checked-requires : goal.put_checked-requires
put_checked-requires c = c.requires.fits

pub shape_of-out-in-Ok : goal.shape_of-out-in-Ok
shape_of-out-in-Ok c = put_length c.put_checked.ensures

pub returns-in-Ok : goal.returns-in-Ok
returns-in-Ok c = let a = c.args in case_put (model_in a.m.now) a.heads.now a.triples.now c.in-Ok.is c.put_checked.ensures

pub overflow_cast-line : goal.overflow_cast-line
overflow_cast-line c = let l = c.line.ensures in omega (arith, case_line c.requires (c.in-Err-Text.is ∙ ap Err (rw c.in-Err-Text.is at c.in-Err-Text.field-0-is)))

pub shape_of-out-in-Err-Text : goal.shape_of-out-in-Err-Text
shape_of-out-in-Err-Text c = put_length c.put_refused.ensures

pub returns-in-Err-Text : goal.returns-in-Err-Text
returns-in-Err-Text c =
    let a = c.args in
    text_put (model_in a.m.now) a.heads.now a.triples.now (c.in-Err-Text.is ∙ ap Err (rw c.in-Err-Text.is at c.in-Err-Text.field-0-is)) (c.from.ensures ∙ c.number.ensures) c.line.ensures c.put_refused.ensures

pub unreachable-requires : goal.unreachable-requires
unreachable-requires c = c.requires.not_refused _ (c.in-Err-Refused.is ∙ ap Err (rw c.in-Err-Refused.is at c.in-Err-Refused.field-0-is))
