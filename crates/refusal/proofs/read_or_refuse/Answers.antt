-- `refusal::read_or_refuse` meets its contract. Assumes nothing.
use mathlib.Core.Path.{◌∙◌}
use native.Mathlib.Omega.{arith}
use Rattle.refusal.proofs.Reading.{line_fits, seeing, refusing}
use Rattle.refusal.proofs.read_or_refuse.Goals as goal

pub returns-in-Ok : goal.returns-in-Ok
returns-in-Ok c = seeing c.args.text.now c.in-Ok.ensures _

pub returns-in-Err : goal.returns-in-Err
returns-in-Err c = refusing c.args.text.now c.in-Err.ensures (c.from.ensures ∙ c.number.ensures) c.line.ensures c.put_refused.ensures

pub overflow_cast-line : goal.overflow_cast-line
overflow_cast-line c = let l = c.line.ensures in omega (arith, line_fits c.args.text.now c.in-Err.ensures)
