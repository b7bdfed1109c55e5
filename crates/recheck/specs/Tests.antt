-- Which steps are closed in the facts t of a table; and the first that is not. Assumes nothing.
use Rattle.std.specs.Prelude as code
use Rattle.std.specs.Prelude.{Bool, false, not, List, ◌≡◌, ℕ, ◌<◌, T, get_or, MatchOption}
use Rattle.std.proofs.Math.Option.{Option, none, some}
use Rattle.product.specs.Lists.{up_to, over, each, all, find}
use Rattle.product.specs.Product.{Step, Product}
use Rattle.product.specs.Facts.{Fact}
use Rattle.model.specs.declared.Model.{Model}
use Rattle.model.specs.Model.{rule, product_of}
use Rattle.steps.specs.Steps.{class_of}
use Rattle.kept.specs.Kept.{next_kept}
use Rattle.closed.specs.Closed.{rule_closed}
use Rattle.recheck.specs.declared.Opening.{Opening}

abbrev pub step : (r v : ℕ) → Step
step r v = record { by_rule = r; by_move = v }

-- of rule r and move v, from the state q; and from every state
abbrev pub step_kept : Product → (states : ℕ) → (Fact → Bool) → (r v q : ℕ) → Bool
step_kept p states t r v q = next_kept states t q (p.rule r) (p.next (step r v) q)

abbrev pub steps_kept : Product → (states : ℕ) → (Fact → Bool) → (r v : ℕ) → Bool
steps_kept p states t r v = all (step_kept p states t r v) (up_to states)

-- the first of some steps that is not closed
abbrev pub is_closed : Product → (states : ℕ) → (Fact → Bool) → Step → Bool
is_closed p states t s = steps_kept p states t s.by_rule s.by_move

abbrev pub is_open : Product → (states : ℕ) → (Fact → Bool) → Step → Bool
is_open p states t s = not (is_closed p states t s)

abbrev pub found_as : Option Step → code.Option Opening
found_as none = code.None
found_as (some s) = code.Some (record { rule = s.by_rule; by = s.by_move })

-- the first step of a model's rules and moves that is not closed, rule by rule and move by move
abbrev pub opening_of : Model → (Fact → Bool) → Option Step
opening_of m t = find (is_open (product_of m) m.states t) (over (up_to m.rules) (λ r. each (up_to m.moves) (step r)))

-- rule r is closed by matrices: tg has the steps of each class, ts and hs the triples and the heads of each symbol
unfoldable pub closed_by : Model → (tg ts hs : List ℕ) → (r : ℕ) → Bool
closed_by m tg ts hs r = rule_closed ts hs (get_or tg (class_of m r) 0) (rule m r)

-- the first of n numbers that does not pass, or none where all do
abbrev pub FirstOpen : (p : ℕ → Bool) → (n : ℕ) → code.Option ℕ → Type 0
FirstOpen p n found = MatchOption found ((r : ℕ) → r < n → T (p r)) (λ k. (k < n) × (p k ≡ false) × ((r : ℕ) → r < k → T (p r)))
