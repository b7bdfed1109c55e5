-- `draft::outline_after` meets its contract: each word has its own case of `after`. Assumes nothing.
use mathlib.Core.Logic.{⊎_elim}
use Rattle.draft.proofs.outline_after.Goals as goal

pub returns-in-Exit : goal.returns-in-Exit
returns-in-Exit c =
    let rule = c.with_rule.ensures in
    let n = c.args.l.numbers in
    ⊎_elim (λ e. rw e (rule 0 n)) (λ x. ⊎_elim (λ e. rw e (rule 1 n)) (λ e. rw e (rule 2 n)) x) c.in-Exit.is

pub returns-in-Move : goal.returns-in-Move
returns-in-Move c = rw c.in-Move.is (c.with_move.ensures c.args.l.numbers)
