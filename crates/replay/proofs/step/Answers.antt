-- `replay::step` meets its contract: no step over the empty stack or where none goes, and else the rule replaces the top. Assumes nothing.
use mathlib.Core.Bool.{true, false}
use Prim.Native.Nat.{◌-◌}
use Rattle.product.specs.Product.{loaded}
use Rattle.replay.proofs.Stepping.{empty, top_room, stepped, stuck}
use native.Mathlib.Omega.{arith}
use borrow.Author.Rules.{rules}
use Rattle.replay.proofs.step.Goals as goal

pub returns-then-depth-eq0 : goal.returns-then-depth-eq0
returns-then-depth-eq0 c =
    let a = c.args in
    empty c.requires (loaded a.n) a.number a.at.state c.if-depth-eq0.true

pub overflow_cast-top : goal.overflow_cast-top
overflow_cast-top c =
    let a = c.args in
    omega (arith, c.type_inv.stack (a.at.depth - 1))

pub replace-requires : goal.replace-requires
replace-requires c =
    let a = c.args in
    top_room c.requires (loaded a.n) a.number a.at.state (search rules) c.goes-next.ensures c.in-Some.is c.rule_at-rule.ensures

pub returns-then-is_final : goal.returns-then-is_final
returns-then-is_final c =
    let a = c.args in
    stepped c.requires (loaded a.n) a.number a.at.state (search rules) c.goes-next.ensures c.in-Some.is c.rule_at-rule.ensures c.replace.ensures c.is_final.ensures true c.if-is_final.true

pub returns-in-None : goal.returns-in-None
returns-in-None c =
    let a = c.args in
    stuck c.requires (loaded a.n) a.number a.at.state (search rules) c.goes-next.ensures c.in-None.is

pub returns-else-is_final : goal.returns-else-is_final
returns-else-is_final c =
    let a = c.args in
    stepped c.requires (loaded a.n) a.number a.at.state (search rules) c.goes-next.ensures c.in-Some.is c.rule_at-rule.ensures c.replace.ensures c.is_final.ensures false c.if-is_final.false
