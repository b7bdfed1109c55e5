use borrow.Author.Rules.{rules}
use Rattle.lent.specs.Lending.{product_in}
use Rattle.model.proofs.Counted.{more, stop}
use Rattle.table.specs.Looked.{held_in}
use Rattle.kept.proofs.Ways.{kept_read}
use Rattle.recheck.specs.Tests.{step, step_kept}
use Rattle.recheck.proofs.search.steps_kept.Goals as goal

pub returns-then-not-next_kept : goal.returns-then-not-next_kept
returns-then-not-next_kept c =
    let a = c.args in
    let t = held_in a.table.now in
    let k = product_in a.m.now in
    let w = c.loop-q in
    let kept = kept_read a.table.now.size.states t w.q (k.rule a.r) (k.next (step a.r a.v) w.q) c.rule_at-rule.ensures c.next_state-next.ensures.value c.next_kept.ensures in
    stop (step_kept k a.table.now.size.states t a.r a.v) w.q kept a.table.now.size.states (search rules) c.if-not-next_kept.true

pub loop-q-preserved : goal.loop-q-preserved
loop-q-preserved c =
    let a = c.args in
    let t = held_in a.table.now in
    let k = product_in a.m.now in
    let w = c.loop-q in
    let kept = kept_read a.table.now.size.states t w.q (k.rule a.r) (k.next (step a.r a.v) w.q) c.rule_at-rule.ensures c.next_state-next.ensures.value c.next_kept.ensures in
    more (step_kept k a.table.now.size.states t a.r a.v) w.q kept w.invariant c.if-not-next_kept.false
