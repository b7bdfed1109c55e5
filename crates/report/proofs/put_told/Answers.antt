-- `report::put_told` meets its contract. Assumes nothing.
use mathlib.Core.Path.{ap, ◌∙◌}
use Rattle.std.specs.Prelude.{Err}
use Rattle.lent.specs.Lending.{model_in}
use Rattle.text.proofs.Puts.{put_length}
use Rattle.report.proofs.Answer.{found_put, cut_put, safe_put, is_decided, fits_after}
use Rattle.report.proofs.put_told.Goals as goal

pub put_safe-requires : goal.put_safe-requires
put_safe-requires c = fits_after (model_in c.args.m.now) c.requires

pub returns-in-Ok : goal.returns-in-Ok
returns-in-Ok c = found_put (model_in c.args.m.now) c.requires _ _ c.in-Ok.is c.put_violation.ensures

pub returns-in-Err-Cut : goal.returns-in-Err-Cut
returns-in-Err-Cut c = cut_put (model_in c.args.m.now) c.requires _ _ (c.in-Err-Cut.is ∙ ap Err (rw c.in-Err-Cut.is at c.in-Err-Cut.field-0-is)) c.put_violation-in-Err-Cut.ensures

pub returns-in-Err-Safe : goal.returns-in-Err-Safe
returns-in-Err-Safe c = safe_put (model_in c.args.m.now) c.requires _ (c.in-Err-Safe.is ∙ ap Err (rw c.in-Err-Safe.is at c.in-Err-Safe.field-0-is)) c.put_safe.ensures

pub unreachable-requires : goal.unreachable-requires
unreachable-requires c = is_decided (model_in c.args.m.now) c.requires _ (c.in-Err-Undecided.is ∙ ap Err (rw c.in-Err-Undecided.is at c.in-Err-Undecided.field-0-is))
