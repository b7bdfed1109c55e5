-- `print::put_named` meets its contract. Assumes nothing.
use Rattle.print.proofs.Puts.{named_put}
use Rattle.print.proofs.put_named.Goals as goal

pub returns : goal.returns
returns c =
    named_put _ c.put_all-fields.ensures c.put_fields-tab.ensures c.put-name.ensures c.put_all-last_end.ensures c.put.ensures
