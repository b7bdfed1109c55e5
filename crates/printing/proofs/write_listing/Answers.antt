-- `printing::write_listing` meets its contract. Assumes nothing.
use Rattle.text.proofs.Puts.{put_length}
use Rattle.lent.specs.Lending.{model_in}
use Rattle.printing.proofs.Whole.{passed_on, whole, put_whole, all_writes, cut_writes}
use Rattle.printing.proofs.write_listing.Goals as goal

pub returns-in_err-fit : goal.returns-in_err-fit
returns-in_err-fit c =
    let a = c.args in
    passed_on (model_in a.m.now) a.rounds a.heads.now a.triples.now a.out.now _ c.in_err-fit.ensures _ c.from_residual.ensures.1

pub put_listing-n-requires : goal.put_listing-n-requires
put_listing-n-requires c =
    let a = c.args in
    whole (model_in a.m.now) a.rounds a.heads.now a.triples.now a.out.now c.in_ok-fit.ensures

pub shape_of-out-then-out-n : goal.shape_of-out-then-out-n
shape_of-out-then-out-n c = put_length c.put_listing-n.ensures

pub returns-then-out-n : goal.returns-then-out-n
returns-then-out-n c =
    let a = c.args in
    cut_writes (model_in a.m.now) a.rounds a.heads.now a.triples.now a.out.now c.in_ok-fit.ensures
    (put_whole (model_in a.m.now) a.rounds a.heads.now a.triples.now a.out.now c.in_ok-fit.ensures c.put_listing-n.ensures) c.if-out-n.true

pub shape_of-out : goal.shape_of-out
shape_of-out c = put_length c.put_listing-n.ensures

pub returns : goal.returns
returns c =
    let a = c.args in
    all_writes (model_in a.m.now) a.rounds a.heads.now a.triples.now a.out.now c.in_ok-fit.ensures
    (put_whole (model_in a.m.now) a.rounds a.heads.now a.triples.now a.out.now c.in_ok-fit.ensures c.put_listing-n.ensures) c.if-out-n.false
