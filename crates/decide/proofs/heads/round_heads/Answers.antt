-- `decide::heads::round_heads` meets its contract. Assumes nothing.
use Rattle.decide.proofs.heads.round_heads.Goals as goal

pub show_all-touched-requires : goal.show_all-touched-requires
show_all-touched-requires c = c.requires.empty

pub settle_heads-requires : goal.settle_heads-requires
settle_heads-requires c =
    let shown = c.show_all-touched.ensures in
    record { rows_cover = shown.covers; room = c.requires.heads_ready.room; rows_fit = c.requires.heads_ready.fit shown }

pub shape_of-heads : goal.shape_of-heads
shape_of-heads c = c.settle_heads.ensures.took.table.as_long

pub returns : goal.returns
returns c =
    record { touched = c.show_all-touched.result; rows = _; shows = c.show_all-touched.ensures; settles = c.settle_heads.ensures }
