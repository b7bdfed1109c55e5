-- `closed::erasing` meets its contract. Assumes nothing.
use Rattle.closed.proofs.Told.{erasing_direct, erasing_call}
use Rattle.closed.proofs.erasing.Goals as goal

pub returns-in-Direct : goal.returns-in-Direct
returns-in-Direct c = rw c.in-Direct.is (erasing_direct _ _ _ c.of_symbol.ensures c.composed.ensures)

pub returns-in-Call : goal.returns-in-Call
returns-in-Call c = rw c.in-Call.is (erasing_call _ _ _ c.of_symbol-in-Call.ensures _ c.of_symbol-in-Call-2.ensures c.composed-rest.ensures c.composed-in-Call.ensures)
