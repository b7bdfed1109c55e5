-- `fitting::measure` meets its contract. Assumes nothing.
use mathlib.Core.Path.{sym, ap, ◌∙◌}
use native.Mathlib.Omega.{arith}
use Rattle.std.specs.Prelude.{Ok}
use Rattle.model.proofs.Counted.{passed, failed}
use Rattle.lent.specs.Lending.{model_in}
use Rattle.fitting.proofs.Tested.{tested_invalid, fits_well, heads_read, triples_read, fit_read}
use Rattle.fitting.proofs.measure.Goals as goal

pub returns-then-not-is_valid : goal.returns-then-not-is_valid
returns-then-not-is_valid c =
    let a = c.args in
    sym (tested_invalid (model_in a.m.now) a.heads a.triples (failed c.is_valid.ensures c.if-not-is_valid.true) _ _ _)

pub returns : goal.returns
returns c =
    let a = c.args in
    let m = model_in a.m.now in
    let ok = passed c.is_valid.ensures c.if-not-is_valid.false in
    ap Ok (fit_read m c.size_of-size.ensures (heads_read m c.size_of-size.ensures c.head_count-h.ensures) (triples_read m c.size_of-size.ensures c.triple_count-t.ensures))
    ∙ sym (fits_well m a.heads a.triples ok (omega (arith, (heads_read m c.size_of-size.ensures c.head_count-h.ensures))) (omega (arith, (triples_read m c.size_of-size.ensures c.triple_count-t.ensures))) _ _ _)
