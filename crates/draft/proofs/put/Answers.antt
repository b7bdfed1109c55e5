-- `draft::put` meets its contract: each word has its own case of `written`. Assumes nothing.
use lib.ListN.{get_or}
use mir.Syntax.{w32}
use mir.Val.{Fits}
use native.Mathlib.Omega.{arith}
use borrow.Author.Rules.{rules}
use Rattle.draft.proofs.put.Goals as goal

pub overflow_mul-at : goal.overflow_mul-at
overflow_mul-at c = let g : Fits w32 (get_or c.args.l.numbers.at 0 0) = search rules in omega (arith, g)

pub overflow_add-at : goal.overflow_add-at
overflow_add-at c =
    let at = c.args.l.numbers.at in
    let g : Fits w32 (get_or at 0 0) = search rules in
    let e : Fits w32 (get_or at 1 0) = search rules in
    omega (arith, g, e)
