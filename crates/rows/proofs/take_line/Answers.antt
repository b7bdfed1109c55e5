-- `rows::take_line` meets its contract: each word has its own case of `step_by`. Assumes nothing.
use Rattle.rows.specs.Lines.{step_of}
use Rattle.rows.proofs.take_line.Goals as goal

pub returns-in-Safe : goal.returns-in-Safe
unfolding step_of
returns-in-Safe c = rw c.in-Safe.is (c.take_safe.ensures _ _)

pub returns-in-Head : goal.returns-in-Head
unfolding step_of
returns-in-Head c = rw c.in-Head.is (c.take_head.ensures _)

pub returns-in-Erase : goal.returns-in-Erase
unfolding step_of
returns-in-Erase c = rw c.in-Erase.is (c.take_triple.ensures _)

pub returns-in-Unknown : goal.returns-in-Unknown
unfolding step_of
returns-in-Unknown c = rw c.in-Unknown.is
