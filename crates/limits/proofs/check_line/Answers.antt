-- `limits::check_line` meets its contract: each word has its own case of `tests`. Assumes nothing.
use Rattle.limits.proofs.check_line.Goals as goal

pub returns-in-Size : goal.returns-in-Size
returns-in-Size c = rw c.in-Size.is c.check_size.ensures

pub returns-in-Start : goal.returns-in-Start
returns-in-Start c = rw c.in-Start.is c.check_start.ensures

pub returns-in-Final : goal.returns-in-Final
returns-in-Final c = rw c.in-Final.is c.check_final.ensures

pub returns-in-Event : goal.returns-in-Event
returns-in-Event c = rw c.in-Event.is c.check_event.ensures

pub returns-in-Exit : goal.returns-in-Exit
returns-in-Exit c = rw c.in-Exit.is c.check_rule.ensures

pub returns-in-Direct : goal.returns-in-Direct
returns-in-Direct c = rw c.in-Direct.is c.check_rule-in-Direct.ensures

pub returns-in-Call : goal.returns-in-Call
returns-in-Call c = rw c.in-Call.is c.check_rule-in-Call.ensures

pub returns-in-Move : goal.returns-in-Move
returns-in-Move c = rw c.in-Move.is c.check_move.ensures

pub returns-in-Unknown : goal.returns-in-Unknown
returns-in-Unknown c = rw c.in-Unknown.is
