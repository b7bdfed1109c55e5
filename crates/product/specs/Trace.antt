-- The trace: the violating fact that is taken, its explanation, and that explanation unfolded to the steps of a run. Assumes nothing.
use Rattle.std.specs.Prelude.{cond, ◌&&◌, List, [], ◌∷◌, ◌++◌, ℕ, zero, suc}
use Rattle.std.proofs.Math.Option.{Option, none, some}
use Rattle.product.specs.Lists.{over, find}
use Rattle.product.specs.Product.{Product, Step}
use Rattle.product.specs.Facts.{Fact, cells, Way, ways}
use Rattle.product.specs.Rounds.{works, held}
use Rattle.product.specs.Verdict.{violating, Verdict, violation, safe}

-- the violating fact: heads before triples, then lowest state, symbol and end state
abbrev pub culprit : Product → ℕ → Option Fact
culprit p n = find (λ f. violating p f && held p n f) (cells p)

-- the explanation of a fact that round n + 1 added: the first rule, move and middle state whose needed facts were all held before
abbrev pub explanation : Product → ℕ → Fact → Option Way
explanation p n f = find (works (held p n) f) (ways p)

-- the run to the head that the way needs, the step, then the runs of its triples as they happen
abbrev pub along : (Fact → List Step) → Way → List Step
along t w = over w.before t ++ w.by ∷ over w.after t

abbrev pub along_found : (Fact → List Step) → Option Way → List Step
along_found t none = []
along_found t (some w) = along t w

-- The steps of a fact that is held after round n: those of an earlier round if it was held there, else those of its explanation, unfolded.
-- The start head unfolds to nothing.
unfoldable pub trace : Product → ℕ → Fact → List Step
trace p zero f = []
trace p (suc n) f = cond (held p n f) (trace p n f) (along_found (trace p n) (explanation p n f))

abbrev pub trace_to : Product → ℕ → Option Fact → List Step
trace_to p n none = []
trace_to p n (some f) = trace p n f

abbrev pub trace_of : Product → Verdict → List Step
trace_of p (violation n) = trace_to p n (culprit p n)
trace_of p (safe n) = []
