-- `decide::triples::rest` meets its contract. Assumes nothing.
use mathlib.Core.Path.{◌∙◌}
use Rattle.decide.proofs.Gathered.{rest_exit, rest_direct, rest_call}
use Rattle.decide.proofs.triples.rest.Goals as goal

pub returns-in-Exit : goal.returns-in-Exit
returns-in-Exit c = rest_exit _ _ _ _ c.in-Exit.is

pub returns-in-Direct : goal.returns-in-Direct
returns-in-Direct c = rest_direct _ _ _ _ c.in-Direct.is

pub returns-in-Call : goal.returns-in-Call
returns-in-Call c = c.composed.ensures ∙ rest_call _ _ _ _ c.in-Call.is
