-- The steps that the check's code finds open are those of the product. Assumes nothing.
use mathlib.Core.Bool.{Bool, not}
use mathlib.Core.Option.{Option, none, some}
use mathlib.Core.Path.{◌≡◌, refl, ap, ◌∙◌}
use Prim.Native.Nat.{ℕ}
use Rattle.product.specs.Lists.{up_to, over, each, all, find}
use Rattle.product.specs.Product.{Step, rule_of}
use Rattle.product.specs.Facts.{Fact, ways_to, pairs}
use Rattle.product.specs.Check.{keeps, closed_at}
use Rattle.model.specs.declared.Model.{Model}
use Rattle.model.specs.Model.{product_of}
use Rattle.kept.specs.Kept.{next_kept}
use Rattle.kept.proofs.Ways.{all_over, all_same, kept_is}
use Rattle.recheck.specs.Tests.{step_kept, step, is_closed, is_open}
use Rattle.recheck.proofs.Finding.{find_same}

module _ (m : Model) (t : Fact → Bool) where
  ways_kept : (s : Step) (q : ℕ) (o : Option ℕ) → all (keeps t) (ways_to (product_of m) s q o) ≡ next_kept m.states t q (rule_of (product_of m) s) o
  ways_kept s q none = refl
  ways_kept s q (some q') = kept_is m.states t s q q' (rule_of (product_of m) s)

  closed_is : (s : Step) → closed_at (product_of m) t s ≡ is_closed (product_of m) m.states t s
  closed_is s =
      all_over (keeps t) (up_to m.states) (λ q. ways_to (product_of m) s q ((product_of m).next s q))
      ∙ all_same (λ q. all (keeps t) (ways_to (product_of m) s q ((product_of m).next s q))) (step_kept (product_of m) m.states t s.by_rule s.by_move) (up_to m.states)
      (λ q. ways_kept s q ((product_of m).next s q))

  pub open_is : find (λ s. not (closed_at (product_of m) t s)) (pairs (product_of m))
      ≡ find (is_open (product_of m) m.states t) (over (up_to m.rules) (λ r. each (up_to m.moves) (step r)))
  open_is =
      find_same (λ s. not (closed_at (product_of m) t s)) (is_open (product_of m) m.states t) (pairs (product_of m))
      (λ s _. ap not (closed_is s))
