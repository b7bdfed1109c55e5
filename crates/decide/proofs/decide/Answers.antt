-- `decide::decide` meets its contract: the tests, and then the rounds. Assumes nothing.
use Rattle.lent.specs.Lending.{model_in}
use Rattle.decide.proofs.Tested.{passed_on, able, done, able_read, ran_read}
use Rattle.decide.proofs.decide.Goals as goal

pub returns-in_err-_fit : goal.returns-in_err-_fit
returns-in_err-_fit c =
    let a = c.args in
    passed_on (model_in a.m.now) a.budget a.heads.now a.triples.now _ c.in_err-_fit.ensures _ c.from_residual.ensures.1

pub run-requires : goal.run-requires
run-requires c =
    let a = c.args in record { shape_value = c.shape-shape.ensures; able = able_read a.m.now c.shape-shape.ensures a.heads.now a.triples.now (able (model_in a.m.now) a.budget a.heads.now a.triples.now c.in_ok-_fit.ensures) }

pub returns : goal.returns
returns c =
    let a = c.args in
    done (model_in a.m.now) a.budget a.heads.now a.triples.now c.in_ok-_fit.ensures
    (ran_read a.m.now c.shape-shape.ensures a.heads.now a.triples.now c.run.ensures)
