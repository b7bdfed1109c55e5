-- `recheck::search::open_step` meets its contract. Matrices decide the rule, and its moves are tried. Assumes nothing.
use mathlib.Core.Path.{ap, ◌∙◌}
use Rattle.model.specs.declared.Shape.{Shape}
use Rattle.lent.specs.Lending.{model_in}
use Rattle.recheck.proofs.Rules.{fits, nowhere_at, first_at, some_at}
use Rattle.recheck.proofs.search.open_step.Goals as goal

pub all_triples-ts-requires : goal.all_triples-ts-requires
all_triples-ts-requires c =
    let f = fits c.requires in
    record { symbols_bound = f.0; states_bound = f.1; states_in_bounds = f.3 }

pub all_heads-hs-requires : goal.all_heads-hs-requires
all_heads-hs-requires c =
    let f = fits c.requires in
    record { symbols_bound = f.0; states_bound = f.1; states_in_bounds = f.2 }

pub returns-in_err-rule : goal.returns-in_err-rule
unfolding model_in
returns-in_err-rule c =
    let a = c.args in
    c.from_residual.ensures ∙ nowhere_at (model_in a.m.now) c.requires.fits.valid_model a.table.now.heads.now a.table.now.triples.now a.table.now.size c.requires.size_is _ _
    (c.all_triples-ts.ensures, c.all_heads-hs.ensures) (ap (λ (s : Shape). s.rules) c.shape-s.ensures) c.class_steps-tg.ensures c.in_err-rule.ensures

pub returns-in_err-by : goal.returns-in_err-by
unfolding model_in
returns-in_err-by c =
    let a = c.args in
    let (l, n, k) = c.in_ok-rule.ensures in
    absurd (some_at (model_in a.m.now) c.requires.fits.valid_model a.table.now.heads.now a.table.now.triples.now a.table.now.size c.requires.size_is _ _
    (c.all_triples-ts.ensures, c.all_heads-hs.ensures) (ap (λ (s : Shape). s.rules) c.shape-s.ensures) c.class_steps-tg.ensures
    c.in_ok-rule.rule l (ap (λ (s : Shape). s.moves) c.shape-s.ensures) n c.in_err-by.ensures)

pub returns : goal.returns
unfolding model_in
returns c =
    let a = c.args in
    let (l, n, k) = c.in_ok-rule.ensures in
    let (i, o, b) = c.in_ok-by.ensures in
    first_at (model_in a.m.now) c.requires.fits.valid_model a.table.now.heads.now a.table.now.triples.now a.table.now.size c.requires.size_is _ _
    (c.all_triples-ts.ensures, c.all_heads-hs.ensures) (ap (λ (s : Shape). s.rules) c.shape-s.ensures) c.class_steps-tg.ensures
    c.in_ok-rule.rule l (ap (λ (s : Shape). s.moves) c.shape-s.ensures) k c.in_ok-by.by i o b
