-- The table check's answer. Assumes nothing.
use Rattle.std.specs.Prelude.{Bool, true, false, not, ◌&&◌, ◌||◌, [], ◌∷◌, ℕ}
use Rattle.std.proofs.Math.Option.{Option, none, some}
use Rattle.product.specs.Lists.{all, find}
use Rattle.product.specs.Product.{Product, Step}
use Rattle.product.specs.Facts.{Fact, Way, needs, first, cells, ways_of, pairs}
use Rattle.product.specs.Verdict.{violating}
use Rattle.product.specs.Answer.{Answer, answered, refused, Acceptance, accepted}

-- if all that the way needs is present, what it gives is too
abbrev pub keeps : (Fact → Bool) → Way → Bool
keeps t w = not (all t (needs w)) || t w.gives

-- every consequence of a rule and a move is present
abbrev pub closed_at : Product → (Fact → Bool) → Step → Bool
closed_at p t s = all (keeps t) (ways_of p s)

-- no violating fact is present
abbrev pub clean : Product → (Fact → Bool) → Bool
clean p t = all (λ f. not (violating p f && t f)) (cells p)

unfoldable pub accepts : Product → (Fact → Bool) → Bool
accepts p t = t (first p) && clean p t && all (closed_at p t) (pairs p)

-- accepted; or a reason (1 start, 2 violating, 3 not closed) with a rule and a move, which are 0 where there are none
pub data Checked : Type 0 where
  passes : Checked
  fails : (reason by_rule by_move : ℕ) → Checked

abbrev pub open_at : Option Step → Checked
open_at none = passes
open_at (some s) = fails 3 s.by_rule s.by_move

-- the first reason that applies; of those not closed the first rule, and then the first move
unfoldable pub checked : Product → (Fact → Bool) → Checked
checked p t =
    elim (t (first p)) [
      | false ↦ fails 1 0 0
      | true ↦ elim (clean p t) [ false ↦ fails 2 0 0 | true ↦ open_at (find (λ s. not (closed_at p t s)) (pairs p)) ]
    ]

-- by the document's number: 11, with the reason, the rule and the move
abbrev pub check_answer : Checked → Answer Acceptance
check_answer passes = answered accepted
check_answer (fails reason r v) = refused 11 (reason ∷ r ∷ v ∷ [])
