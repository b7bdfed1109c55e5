-- `report::budget` meets its contract. Assumes nothing.
use native.Mathlib.Omega.{arith}
use Rattle.lent.specs.Lending.{model_in}
use Rattle.report.proofs.Answer.{fits_read, is_read}
use Rattle.report.proofs.budget.Goals as goal

pub overflow_mul-result : goal.overflow_mul-result
overflow_mul-result c =
    let z = fits_read (model_in c.args.m.now) c.requires c.size_of-size.ensures in
    record { fits = omega arith }

pub overflow_mul-result-2 : goal.overflow_mul-result-2
overflow_mul-result-2 c =
    let z = fits_read (model_in c.args.m.now) c.requires c.size_of-size.ensures in
    record { fits = omega arith }

pub returns : goal.returns
returns c =
    is_read (model_in c.args.m.now) c.requires c.size_of-size.ensures
