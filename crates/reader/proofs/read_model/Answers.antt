-- `reader::read_model` meets its contract. Assumes nothing.
use borrow.Author.Tests.{lt-ltb, le-ltb}
use mathlib.Core.List.{[]}
use Rattle.line.specs.declared.fault.TextError.TheVariants.{TooLong}
use Rattle.reader.specs.Text.{read_model}
use Rattle.reader.proofs.Leaves.{refused_read, cleared, uncleared}
use Rattle.reader.proofs.read_model.Goals as goal

pub returns-then-text-gt-LONGEST : goal.returns-then-text-gt-LONGEST
unfolding read_model
returns-then-text-gt-LONGEST c = cleared TooLong (refused_read TooLong {cells = []} (rw (lt-ltb _ _ c.if-text-gt-LONGEST.true))) c.clear.ensures

pub returns-in-Err : goal.returns-in-Err
unfolding read_model
returns-in-Err c = rw (le-ltb _ _ c.if-text-gt-LONGEST.false) (cleared _ c.in-Err.ensures c.clear-in-Err.ensures)

pub returns : goal.returns
unfolding read_model
returns c = rw (le-ltb _ _ c.if-text-gt-LONGEST.false) (uncleared c.in_default.ensures)
