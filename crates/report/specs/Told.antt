-- What a private function asks: that the trace call told this of the model. Assumes nothing.
use Rattle.std.specs.Prelude.{List, ◌≡◌, ℕ, length}
use Rattle.product.specs.Verdict.{bound}
use Rattle.model.specs.declared.Model.{Model}
use Rattle.model.specs.Model.{product_of}
use Rattle.fitting.specs.Fits.{Fits}
use Rattle.trace.specs.Outcome.{TraceAnswer}
use Rattle.trace.specs.Outcome.{Outcome}
use Rattle.violation.specs.Bytes.{room}

-- a valid model was traced with the budget that is always enough, and the arrays, which had room for its table and for a room of steps, are now these
pub record Told (m : Model) (told : TraceAnswer) (heads triples steps : List ℕ) : Type 0 where
  pub hs : List ℕ
  pub ts : List ℕ
  pub rm : List ℕ
  pub fits : Fits m (length hs) (length ts)
  pub roomy : length rm ≡ room
  pub outcome : Outcome m (bound (product_of m)) hs ts rm told heads triples steps
