-- `decide::triples::settle` meets its contract. Assumes nothing.
use Rattle.decide.proofs.Taking.{take_none, take_in, take_some}
use Rattle.decide.proofs.Settling.{settle_in, settle_is}
use native.Mathlib.Omega.{arith}
use Rattle.decide.proofs.triples.settle.Goals as goal

pub returns-then-new-eq0 : goal.returns-then-new-eq0
returns-then-new-eq0 c =
    let g = c.symbol_of-g.ensures.value in
    let m = c.product-m.ensures in
    settle_is _ _ _ g m (take_none _ c.gain-new.ensures c.requires.room (settle_in _ _ _ g m c.requires.fits) c.if-new-eq0.true)

pub stamp-requires : goal.stamp-requires
stamp-requires c =
    let g = c.symbol_of-g.ensures.value in
    let m = c.product-m.ensures in
    take_in c.args.k c.gain-new.ensures c.requires.room (settle_in _ _ _ g m c.requires.fits) c.if-new-eq0.false

pub overflow_shl-result : goal.overflow_shl-result
overflow_shl-result c = let g = c.symbol_of-g.ensures.upper_bound in omega arith

pub returns : goal.returns
returns c =
    let g = c.symbol_of-g.ensures.value in
    let m = c.product-m.ensures in
    settle_is _ _ _ g m (take_some _ c.gain-new.ensures c.requires.room (settle_in _ _ _ g m c.requires.fits) c.if-new-eq0.false c.stamp.ensures)
