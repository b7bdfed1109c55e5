-- `numbers::read_field` meets its contract. Assumes nothing.
use mathlib.Core.Path.{refl, sym, ◌∙◌}
use Rattle.numbers.proofs.Field.{ill_written, not_ended, ended}
use Rattle.numbers.proofs.read_field.Goals as goal
use Rattle.numbers.proofs.read_field.Goals.{else-stop-ne10-via-then-stop-ne10+else-stop-ne9, else-stop-ne10-via-else-stop-ne10}

pub returns-then-stop-ne9 : goal.returns-then-stop-ne9
returns-then-stop-ne9 c = not_ended c.args.s.now c.read_digits-run.ensures c.if-stop-ne10.true c.if-stop-ne9.true

pub returns-then-not-well_written : goal.returns-then-not-well_written
returns-then-not-well_written c = ill_written c.args.s.now c.read_digits-run.ensures (sym c.well_written.ensures ∙ c.if-not-well_written.true)

pub returns : goal.returns
returns c =
    let written = sym c.well_written.ensures ∙ c.if-not-well_written.false in
    elim c.else-stop-ne10.branch [
      | else-stop-ne10-via-then-stop-ne10+else-stop-ne9 w ↦ ended c.args.s.now c.read_digits-run.ensures written (rw w.if-stop-ne9.false refl)
      | else-stop-ne10-via-else-stop-ne10 w ↦ ended c.args.s.now c.read_digits-run.ensures written (rw w.if-stop-ne10.false refl)
    ]
