-- `recheck::check_table` meets its contract: at each of its ends the answer follows from the tests before. Assumes nothing.
use Rattle.lent.specs.Lending.{model_in}
use Rattle.recheck.proofs.Reasons.{passed_on, sized, has_no_start, has_violating, is_open, is_accepted, start_read, clean_read, found_read}
use Rattle.recheck.proofs.check_table.Goals as goal

pub returns-in_err-fit : goal.returns-in_err-fit
returns-in_err-fit c =
    let a = c.args in
    passed_on (model_in a.m.now) a.heads.now a.triples.now _ c.in_err-fit.ensures _ c.from_residual.ensures.1

pub returns-then-not-has : goal.returns-then-not-has
returns-then-not-has c =
    let a = c.args in
    let z = sized (model_in a.m.now) a.heads.now a.triples.now c.in_ok-fit.ensures in
    has_no_start (model_in a.m.now) a.heads.now a.triples.now c.in_ok-fit.ensures
    (start_read a.m.now a.heads.now a.triples.now z.size_is c.shape-s.ensures c.has.ensures) c.if-not-has.true

pub returns-then-not-is_clean : goal.returns-then-not-is_clean
returns-then-not-is_clean c =
    let a = c.args in
    let z = sized (model_in a.m.now) a.heads.now a.triples.now c.in_ok-fit.ensures in
    has_violating (model_in a.m.now) a.heads.now a.triples.now c.in_ok-fit.ensures
    (start_read a.m.now a.heads.now a.triples.now z.size_is c.shape-s.ensures c.has.ensures) c.if-not-has.false
    (clean_read a.m.now a.heads.now a.triples.now z.size_is c.shape-s.ensures c.is_clean.ensures) c.if-not-is_clean.true

pub open_step-requires : goal.open_step-requires
open_step-requires c =
    let a = c.args in
    sized (model_in a.m.now) a.heads.now a.triples.now c.in_ok-fit.ensures

pub returns-in-Some : goal.returns-in-Some
returns-in-Some c =
    let a = c.args in
    let z = sized (model_in a.m.now) a.heads.now a.triples.now c.in_ok-fit.ensures in
    is_open (model_in a.m.now) a.heads.now a.triples.now c.in_ok-fit.ensures
    (start_read a.m.now a.heads.now a.triples.now z.size_is c.shape-s.ensures c.has.ensures) c.if-not-has.false
    (clean_read a.m.now a.heads.now a.triples.now z.size_is c.shape-s.ensures c.is_clean.ensures) c.if-not-is_clean.false
    (found_read a.m.now a.heads.now a.triples.now z.size_is c.open_step.ensures) c.in-Some.is

pub returns-in-None : goal.returns-in-None
returns-in-None c =
    let a = c.args in
    let z = sized (model_in a.m.now) a.heads.now a.triples.now c.in_ok-fit.ensures in
    is_accepted (model_in a.m.now) a.heads.now a.triples.now c.in_ok-fit.ensures
    (start_read a.m.now a.heads.now a.triples.now z.size_is c.shape-s.ensures c.has.ensures) c.if-not-has.false
    (clean_read a.m.now a.heads.now a.triples.now z.size_is c.shape-s.ensures c.is_clean.ensures) c.if-not-is_clean.false
    (found_read a.m.now a.heads.now a.triples.now z.size_is c.open_step.ensures) c.in-None.is
