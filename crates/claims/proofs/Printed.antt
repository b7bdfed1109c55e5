-- The states that are printed are those of the run. Assumes nothing.
use mathlib.Core.List.{List}
use Prim.Native.Nat.{ℕ}
use Rattle.model.specs.declared.Model.{Model}
use Rattle.model.specs.Model.{product_of}
use Rattle.violation.proofs.Runs.{line_run}
use Rattle.claims.specs.Printed.{Printed}

pub printed : (m : Model) (steps : List ℕ) → Printed m steps
printed m steps = line_run (product_of m) steps
