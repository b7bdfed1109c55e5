-- `numbers::wrong_fields` meets its contract. Assumes nothing.
use mathlib.Core.Path.{ap}
use Rattle.numbers.specs.Number.{wrong}
use Rattle.numbers.specs.Field.{fields_by}
use Rattle.numbers.proofs.wrong_fields.Goals as goal

pub find-requires : goal.find-requires
find-requires c = tt

pub returns : goal.returns
returns c = ap (fields_by wrong) c.find.ensures
