-- `report::put_model` meets its contract. Assumes nothing.
use mathlib.Core.Path.{refl}
use Rattle.lent.specs.Lending.{model_in}
use Rattle.text.proofs.Puts.{put_length}
use Rattle.report.proofs.Answer.{told}
use Rattle.report.proofs.put_model.Goals as goal

pub put_told-requires : goal.put_told-requires
put_told-requires c = told (model_in c.args.m.now) c.requires refl refl refl c.budget-b.ensures c.trace-told.ensures

pub shape_of-out : goal.shape_of-out
shape_of-out c = put_length c.put_told.ensures

pub returns : goal.returns
returns c = c.put_told.ensures
