-- `decide::triples::round_triples` meets its contract. Assumes nothing.
use Rattle.decide.proofs.triples.round_triples.Goals as goal

pub gather-touched-requires : goal.gather-touched-requires
gather-touched-requires c = c.requires.long

pub settle_all-requires : goal.settle_all-requires
settle_all-requires c =
    let gathered = c.gather-touched.ensures in
    record { room = c.requires.room; all_fit = c.requires.fit gathered }

pub shape_of-triples : goal.shape_of-triples
shape_of-triples c = c.settle_all.ensures.table.as_long

pub returns : goal.returns
returns c = record { touched = c.gather-touched.result.words; gains = c.gather-touched.ensures; took = c.settle_all.ensures }
