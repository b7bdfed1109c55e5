-- `explain::why::tried` meets its contract. Assumes nothing.
use mathlib.Core.Path.{◌∙◌}
use Prim.Native.Nat.{suc}
use Rattle.table.specs.Places.{fact_of}
use Rattle.lent.specs.Lending.{product_in}
use Rattle.table.specs.Looked.{ranks_in}
use Rattle.explain.specs.Search.{lower}
use Rattle.explain.proofs.Tried.{tried_stuck, tried_to}
use Rattle.explain.proofs.why.tried.Goals as goal

pub returns-in_err-end : goal.returns-in_err-end
returns-in_err-end c =
    let a = c.args in
    let h = lower (ranks_in a.table.now) (suc a.ask.k) in
    c.from_residual.ensures ∙ tried_stuck (product_in a.m.now) h (fact_of a.ask.f) a.s.rule a.s.by a.s.free c.source.ensures c.next_state.ensures.value c.in_err-end.was

pub returns : goal.returns
returns c =
    let a = c.args in
    let h = lower (ranks_in a.table.now) (suc a.ask.k) in
    tried_to (product_in a.m.now) h (fact_of a.ask.f) a.s.rule a.s.by a.s.free c.source.ensures c.next_state.ensures.value
    c.in_ok-end.was c.rule_at-rule.ensures c.first-first.ensures c.second-second.ensures c.first_lower.ensures
