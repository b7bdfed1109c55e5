-- `listing::read_listing` meets its contract. Assumes nothing.
use native.Mathlib.Omega.{arith}
use Rattle.lent.specs.Lending.{model_in}
use Rattle.listing.proofs.Cases.{unfit_passed, text_passed, heads_within, triples_within, heads_few, triples_few, accepted_after}
use Rattle.listing.proofs.read_listing.Goals as goal

pub returns-in_err-fit : goal.returns-in_err-fit
returns-in_err-fit c =
    let a = c.args in
    unfit_passed (model_in a.m.now) a.text.now a.heads.now a.triples.now _ c.in_err-fit.ensures _ c.from_residual.ensures.1

pub returns-in_err-read_text : goal.returns-in_err-read_text
returns-in_err-read_text c =
    let a = c.args in
    text_passed (model_in a.m.now) a.text.now a.heads.now a.triples.now c.in_ok-fit.ensures _ c.in_err-read_text.ensures _ c.from_residual-in_err-read_text.ensures.1

pub copy-requires : goal.copy-requires
copy-requires c =
    let a = c.args in
    let m = model_in a.m.now in
    record { n_in_bounds = omega (arith, heads_few m a.text.now a.heads.now a.triples.now c.in_ok-fit.ensures); n_in_bounds_2 = heads_within m a.text.now a.heads.now a.triples.now c.in_ok-fit.ensures }

pub copy-requires-2 : goal.copy-requires-2
copy-requires-2 c =
    let a = c.args in
    let m = model_in a.m.now in
    record { n_in_bounds = omega (arith, triples_few m a.text.now a.heads.now a.triples.now c.in_ok-fit.ensures); n_in_bounds_2 = triples_within m a.text.now a.heads.now a.triples.now c.in_ok-fit.ensures }

pub returns : goal.returns
returns c =
    let a = c.args in
    let m = model_in a.m.now in
    accepted_after m a.text.now a.heads.now a.triples.now c.in_ok-fit.ensures c.in_ok-read_text.ensures c.copy.ensures c.copy-2.ensures
