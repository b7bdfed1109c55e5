-- What the trace call and the replay promise, each line over the two calls' own contracts. Assumes nothing.
use Rattle.std.specs.Prelude.{Ok, Err, List, ◌≡◌, ℕ, ◌<◌, ◌≤◌, length, take}
use Rattle.product.specs.Lists.{each}
use Rattle.product.specs.Product.{loaded, stored}
use Rattle.product.specs.Runs.{State, Reaches}
use Rattle.product.specs.Verdict.{violation}
use Rattle.product.specs.Trace.{trace_of}
use Rattle.product.specs.Demands.{Violates}
use Rattle.model.specs.declared.Model.{Model}
use Rattle.model.specs.Model.{product_of}
use Rattle.trace.specs.declared.Traced.{Traced}
use Rattle.trace.specs.declared.TraceError.TheVariants.{Undecided, Cut}
use Rattle.decide.specs.declared.DecideError.TheVariants.{Spent}
use Rattle.trace.specs.Outcome.{TraceAnswer, Outcome}
use Rattle.replay.specs.Replay.{Replayed, Replays}

pub record Tracing (m : Model) (budget : ℕ) (hs ts room : List ℕ) (r : TraceAnswer) (hs' ts' room' : List ℕ) : Type 0 where
  -- A trace that fits its room is a run from the start to a final state, and the replay accepts it, given a stack that is long enough.
  pub fits_reaches : (t : Traced) → r ≡ Ok t → (c : State) × Reaches (product_of m) (each (take t.steps room') loaded) c
  pub fits_replays : (t : Traced) → r ≡ Ok t → (stack stack' : List ℕ) (a : Replayed) → Replays m (take t.steps room') stack a stack' → t.steps < length stack → a ≡ Ok tt
  -- On refusal 10 the room holds the beginning of the whole trace.
  pub cut_begins : (n k : ℕ) → r ≡ Err (Cut n k) → room' ≡ take (length room) (each (trace_of (product_of m) (violation n)) stored)
  -- Unless the budget was spent, every larger one gives the same: the answer, the table and the trace.
  pub same_more : (more : ℕ) → budget ≤ more → ((b : ℕ) → r ≡ Err (Undecided (Spent b)) → ⊥) → (r' : TraceAnswer) (hs'' ts'' room'' : List ℕ) → Outcome m more hs ts room r' hs'' ts'' room''
      → (r' ≡ r) × (hs'' ≡ hs') × (ts'' ≡ ts') × (room'' ≡ room')

-- If the replay accepts any numbers at all, some run from the start reaches a final state.
abbrev pub Replaying : Type 0
Replaying = (m : Model) (steps stack stack' : List ℕ) → Replays m steps stack (Ok tt) stack' → Violates (product_of m)
