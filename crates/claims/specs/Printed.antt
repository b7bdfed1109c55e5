-- What is printed of a violation tells the run: wherever the first steps of a trace are a run from the start, the line of the last of them has the
-- property state in which that run stands. For all traces: where the steps make no run, nothing is claimed of them. Assumes nothing.
use Rattle.std.specs.Prelude.{List, ◌++◌, ◌≡◌, ℕ, suc, ◌+◌, ◌<◌, length, get_or, take}
use Rattle.product.specs.Lists.{each}
use Rattle.product.specs.Product.{loaded}
use Rattle.product.specs.Runs.{State, start, Run}
use Rattle.model.specs.declared.Model.{Model}
use Rattle.model.specs.Model.{product_of}
use Rattle.violation.specs.Bytes.{step_line, step_lines}

abbrev pub Printed : Model → (steps : List ℕ) → Type 0
Printed m steps =
    let p = product_of m in
    (i : ℕ) (c : State) → i < length steps → Run p (start p) (each (take (suc i) steps) loaded) c
    → step_lines p steps (i + 1) ≡ step_lines p steps i ++ step_line p (i + 1) (get_or steps i 0) c.0
