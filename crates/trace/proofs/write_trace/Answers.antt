-- `trace::write_trace` meets its contract. Assumes nothing.
use native.Mathlib.Omega.{arith}
use Rattle.model.proofs.Valid.{valid_sizes}
use Rattle.lent.specs.Lending.{of_lent, model_in}
use Rattle.trace.proofs.Write.{taken_by, unfolded_by, written_cut, written_whole}
use Rattle.trace.proofs.write_trace.Goals as goal

pub unfold_fact-at-requires : goal.unfold_fact-at-requires
unfold_fact-at-requires c =
    let z = valid_sizes _ c.requires.ranked.valid_model in
    record { rules_in = z.rules; moves_in = z.moves; place_in = omega arith }

pub returns-then-room-at : goal.returns-then-room-at
unfolding model_in
returns-then-room-at c =
    let a = c.args in
    let m = of_lent a.shape a.m.now in
    let hs = a.heads.now in
    let ts = a.triples.now in
    let f = taken_by a.m.now c.requires.shape_value c.size_of-size.ensures hs ts m.startstate m.startsymbol c.culprit-of.ensures in
    let u = unfolded_by a.m.now c.requires.shape_value c.size_of-size.ensures hs ts m.rules m.moves c.unfold_fact-at.ensures in
    written_cut m a.n hs ts c.requires.ranked f u c.unfold_fact-at.auto.room c.if-room-at.true

pub returns : goal.returns
unfolding model_in
returns c =
    let a = c.args in
    let m = of_lent a.shape a.m.now in
    let hs = a.heads.now in
    let ts = a.triples.now in
    let f = taken_by a.m.now c.requires.shape_value c.size_of-size.ensures hs ts m.startstate m.startsymbol c.culprit-of.ensures in
    let u = unfolded_by a.m.now c.requires.shape_value c.size_of-size.ensures hs ts m.rules m.moves c.unfold_fact-at.ensures in
    written_whole m a.n hs ts c.requires.ranked f u c.unfold_fact-at.auto.room c.if-room-at.false
