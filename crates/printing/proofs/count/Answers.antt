use mathlib.Core.Path.{◌≡◌, sym, ap, ◌∙◌}
use lib.ListN.{length}
use Prim.Native.Nat.{◌+◌}
use Rattle.printing.proofs.Bytes.{count_none, count_more, present_same}
use native.Mathlib.Omega.{arith}
use Rattle.printing.proofs.count.Goals as goal
use Rattle.printing.proofs.count.Goals.{then-rank, else-rank}

pub loop-rank-init : goal.loop-rank-init
loop-rank-init c = (omega arith, count_none _)

pub loop-rank-preserved : goal.loop-rank-preserved
loop-rank-preserved c =
    let l = c.loop-rank in
    let cells = c.args.cells.now in
    elim c.if-rank.branch [
      | then-rank w ↦ (omega arith, w.present-is ∙ ap (λ n. n + 1) l.invariant.1 ∙ sym (count_more cells l.rank-index w.if-rank.true))
      | else-rank w ↦ (omega arith, w.present-is ∙ l.invariant.1 ∙ ap length (sym (present_same cells l.rank-index w.if-rank.false)))
    ]

pub returns : goal.returns
returns c = let e : c.loop-rank.rank-index ≡ length c.args.cells.now = omega arith in rw (← e) c.loop-rank.invariant.1
