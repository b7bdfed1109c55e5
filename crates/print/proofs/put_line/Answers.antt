-- `print::put_line` meets its contract. Assumes nothing.
use Rattle.print.proofs.Puts.{line_put}
use Rattle.print.proofs.put_line.Goals as goal

pub returns : goal.returns
returns c = line_put _ c.put_all-fields.ensures c.put_fields-end.ensures c.put.ensures
