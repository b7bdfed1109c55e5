-- `lent::rule_at` meets its contract: the kind that was read decides. Assumes nothing.
use mathlib.Core.Path.{ap, ◌∙◌}
use native.Mathlib.Omega.{arith}
use Rattle.model.proofs.Answers.{is_exit, is_direct, is_call}
use Rattle.lent.specs.declared.Row.{Row}
use Rattle.lent.specs.Lending.{part, model_in}
use Rattle.lent.proofs.rule_at.Goals as goal

pub returns-in-0 : goal.returns-in-0
unfolding model_in
returns-in-0 c =
    let a = c.args in
    is_exit (part 0 1024 a.m.now) a.r (ap (λ (w : Row). w.kind) c.row_at-row.ensures) (c.from-g.ensures ∙ ap (λ (w : Row). w.symbol) c.row_at-row.ensures) c.in-0.is

pub returns-in-1 : goal.returns-in-1
unfolding model_in
returns-in-1 c =
    let a = c.args in
    is_direct (part 0 1024 a.m.now) a.r (ap (λ (w : Row). w.kind) c.row_at-row.ensures) (c.from-g.ensures ∙ ap (λ (w : Row). w.symbol) c.row_at-row.ensures) (c.from-g1.ensures ∙ ap (λ (w : Row). w.over) c.row_at-row.ensures) c.in-1.is

pub returns-in_default : goal.returns-in_default
unfolding model_in
returns-in_default c =
    let a = c.args in
    is_call (part 0 1024 a.m.now) a.r (ap (λ (w : Row). w.kind) c.row_at-row.ensures) (c.from-g.ensures ∙ ap (λ (w : Row). w.symbol) c.row_at-row.ensures) (c.from-g1.ensures ∙ ap (λ (w : Row). w.over) c.row_at-row.ensures) (c.from.ensures ∙ ap (λ (w : Row). w.under) c.row_at-row.ensures)
    (λ e. omega arith) (λ e. omega arith)
