-- `decide::heads::take_heads` meets its contract. Assumes nothing.
use Rattle.decide.proofs.Taking.{take_none, take_in, take_some}
use Rattle.decide.proofs.heads.take_heads.Goals as goal

pub returns-then-new-eq0 : goal.returns-then-new-eq0
returns-then-new-eq0 c = take_none _ c.gain-new.ensures c.requires.room c.requires.fits c.if-new-eq0.true

pub stamp_heads-requires : goal.stamp_heads-requires
stamp_heads-requires c = take_in c.args.k c.gain-new.ensures c.requires.room c.requires.fits c.if-new-eq0.false

pub returns : goal.returns
returns c =
    take_some _ c.gain-new.ensures c.requires.room c.requires.fits c.if-new-eq0.false c.stamp_heads.ensures
