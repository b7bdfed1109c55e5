-- `report::check_text` meets its contract. Assumes nothing.
use mathlib.Core.Path.{refl, ◌∙◌}
use Rattle.text.proofs.Puts.{put_length}
use Rattle.refusal.proofs.Reading.{model_valid, accepted_put, refused_put}
use Rattle.report.specs.Output.{model_output}
use Rattle.report.proofs.check_text.Goals as goal

pub put_model-requires : goal.put_model-requires
put_model-requires c = model_valid c.in-Ok.ensures refl

pub shape_of-out-in-Ok : goal.shape_of-out-in-Ok
shape_of-out-in-Ok c = put_length c.put_model.ensures ∙ put_length c.in-Ok.ensures.puts

pub returns-in-Ok : goal.returns-in-Ok
returns-in-Ok c = accepted_put c.in-Ok.ensures refl model_output c.put_model.ensures

pub shape_of-out-in-Err : goal.shape_of-out-in-Err
shape_of-out-in-Err c = put_length c.in-Err.ensures.puts

pub returns-in-Err : goal.returns-in-Err
returns-in-Err c = refused_put c.in-Err.ensures refl model_output
