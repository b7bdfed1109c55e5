-- `closed::heads_there` meets its contract. Assumes nothing.
use Rattle.closed.proofs.Told.{heads_direct, heads_not, heads_call}
use Rattle.closed.proofs.heads_there.Goals as goal

pub returns-then-not-included : goal.returns-then-not-included
returns-then-not-included c = rw c.in-Call.is (heads_not _ _ _ _ c.of_symbol-in-Call.ensures c.included-in-Call.ensures _ c.if-not-included.true)

pub returns-in-Direct : goal.returns-in-Direct
returns-in-Direct c = rw c.in-Direct.is (heads_direct c.args.triples.now _ _ _ c.of_symbol.ensures c.included.ensures)

pub returns-else-not-included : goal.returns-else-not-included
returns-else-not-included c =
    rw c.in-Call.is
    (heads_call _ _ _ _ c.of_symbol-in-Call.ensures c.included-in-Call.ensures _ c.if-not-included.false c.of_symbol-in-Call-2.ensures c.through-back.ensures
    c.of_symbol-in-Call-3.ensures c.included-in-Call-2.ensures)
