use mathlib.Core.Bool.{true, false}
use mathlib.Core.Path.{◌∙◌}
use native.Mathlib.Omega.{arith}
use lib.ListN.{length-set}
use borrow.Author.Rules.{rules}
use Rattle.lent.specs.Lending.{model_in}
use Rattle.replay.proofs.Running.{ready, begins_lent, ran_lent, blocked, turns, finished}
use Rattle.replay.proofs.run.Goals as goal
use Rattle.replay.proofs.run.Goals.{in-Moved, in-Arrived}

pub loop-k-init : goal.loop-k-init
loop-k-init c =
    let a = c.args in
    begins_lent a.m.now a.steps.now a.stack.now c.shape-s.ensures c.is_final-accepting.ensures (search rules)

pub step-outcome-requires : goal.step-outcome-requires
step-outcome-requires c =
    let a = c.args in
    let l = c.loop-k in
    let long = length-set a.stack.now 0 c.shape-s.result.startsymbol in
    ready (model_in a.m.now) c.requires.is_valid l.stack l.at.depth (omega (arith, l.invariant.deep, l.invariant.long, long, c.requires.room))

pub shape_of-stack-in-Blocked : goal.shape_of-stack-in-Blocked
shape_of-stack-in-Blocked c =
    let a = c.args in
    c.step-outcome.auto.stack ∙ c.loop-k.invariant.long ∙ length-set a.stack.now 0 c.shape-s.result.startsymbol

pub returns-in-Blocked : goal.returns-in-Blocked
returns-in-Blocked c =
    let a = c.args in
    ran_lent a.m.now a.steps.now a.stack.now c.shape-s.ensures
    (blocked (model_in a.m.now) a.steps.now c.loop-k.invariant (search rules) c.step-outcome.ensures c.in-Blocked.is)

pub loop-k-preserved : goal.loop-k-preserved
loop-k-preserved c =
    let a = c.args in
    elim c.match-outcome.branch [
      | in-Moved w ↦ rw (w.at-is, w.accepting-is) (turns (model_in a.m.now) a.steps.now c.loop-k.invariant (search rules) c.step-outcome.ensures c.step-outcome.auto.stack false w.in-Moved.is)
      | in-Arrived w ↦ rw (w.at-is, w.accepting-is) (turns (model_in a.m.now) a.steps.now c.loop-k.invariant (search rules) c.step-outcome.ensures c.step-outcome.auto.stack true w.in-Arrived.is)
    ]

pub shape_of-stack-then-accepting : goal.shape_of-stack-then-accepting
shape_of-stack-then-accepting c =
    let a = c.args in
    c.loop-k.invariant.long ∙ length-set a.stack.now 0 c.shape-s.result.startsymbol

pub returns-then-accepting : goal.returns-then-accepting
returns-then-accepting c =
    let a = c.args in
    ran_lent a.m.now a.steps.now a.stack.now c.shape-s.ensures
    (finished (model_in a.m.now) a.steps.now c.loop-k.invariant (search rules) true c.if-accepting.true)

pub shape_of-stack : goal.shape_of-stack
shape_of-stack c =
    let a = c.args in
    c.loop-k.invariant.long ∙ length-set a.stack.now 0 c.shape-s.result.startsymbol

pub returns : goal.returns
returns c =
    let a = c.args in
    ran_lent a.m.now a.steps.now a.stack.now c.shape-s.ensures
    (finished (model_in a.m.now) a.steps.now c.loop-k.invariant (search rules) false c.if-accepting.false)
