use mathlib.Core.Path.{refl, ◌∙◌}
use Rattle.text.proofs.Split.{after_shorter}
use Rattle.ranking.proofs.Faults.{some_fault}
use Rattle.rows.proofs.Lines.{first_turn, refused_turn, next_turn, counted, open_line, done}
use borrow.Author.Rules.{rules}
use Rattle.rows.proofs.read_lines.Goals as goal

pub loop-rest-init : goal.loop-rest-init
loop-rest-init c = (refl, refl, first_turn _ _ _ _ c.requires.empty)

pub returns-then-rest-e : goal.returns-then-rest-e
returns-then-rest-e c = open_line c.loop-rest.invariant.2 c.read_line-l.ensures c.loop-rest-test.true c.if-rest-e.true

pub take_line-requires : goal.take_line-requires
take_line-requires c = counted c.loop-rest.invariant.2 c.requires.short

pub returns-in-Err : goal.returns-in-Err
returns-in-Err c = refused_turn c.loop-rest.invariant.2 c.read_line-l.ensures c.if-rest-e.false c.in-Err.ensures (some_fault c.in-Err.fault)

pub overflow_add-line : goal.overflow_add-line
overflow_add-line c = let r = c.loop-rest.invariant.2.room in search rules

pub overflow_add-rest : goal.overflow_add-rest
overflow_add-rest c = let r = c.loop-rest.invariant.2.room in let s = c.requires.short in search rules

pub loop-rest-smaller : goal.loop-rest-smaller
loop-rest-smaller c = after_shorter _ c.loop-rest.rest.now c.if-rest-e.false

pub loop-rest-preserved : goal.loop-rest-preserved
loop-rest-preserved c =
    let i = c.loop-rest.invariant in (
      c.take_line.auto.heads ∙ i.0,
      c.take_line.auto.triples ∙ i.1,
      next_turn i.2 c.read_line-l.ensures c.if-rest-e.false c.in_default.ensures refl,
    )

pub returns : goal.returns
returns c = done c.loop-rest.invariant.2 c.loop-rest-test.false (c.finish.ensures _ _)
