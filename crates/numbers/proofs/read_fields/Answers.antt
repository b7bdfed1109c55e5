use mathlib.Core.Path.{sym, ◌∙◌}
use Rattle.text.proofs.Split.{after_shorter}
use Rattle.numbers.proofs.Field.{end_within}
use Rattle.numbers.proofs.Fields.{first_turn, bad_turn, full_turn, last_turn, next_turn, inside}
use native.Mathlib.Omega.{arith}
use borrow.Author.Rules.{rules}
use Rattle.numbers.proofs.read_fields.Goals as goal

pub loop-f-init : goal.loop-f-init
loop-f-init c = first_turn c.args.s.now

pub returns-in_default : goal.returns-in_default
returns-in_default c = bad_turn c.loop-f.invariant (sym c.in_default.is ∙ c.read_field.ensures) c.wrong_fields.ensures

pub returns-then-count-ge-MOST : goal.returns-then-count-ge-MOST
returns-then-count-ge-MOST c = full_turn c.loop-f.invariant c.in-Some.ensures c.if-count-ge-MOST.true c.wrong_fields-then-count-ge-MOST.ensures

pub overflow_add-result : goal.overflow_add-result
overflow_add-result c = let i = c.loop-f.invariant in omega (arith, i.fits, end_within c.loop-f.rest.now c.in-Some.ensures)

pub overflow_add-b : goal.overflow_add-b
overflow_add-b c = let i = c.loop-f.invariant in omega (arith, i.fits, end_within c.loop-f.rest.now c.in-Some.ensures)

pub returns-then-f-eq10 : goal.returns-then-f-eq10
returns-then-f-eq10 c = last_turn c.loop-f.invariant c.in-Some.ensures c.if-count-ge-MOST.false c.if-f-eq10.true

pub slice_bounds-rest-count : goal.slice_bounds-rest-count
slice_bounds-rest-count c = let h = inside c.loop-f.invariant c.in-Some.ensures c.if-count-ge-MOST.false c.if-f-eq10.false in search rules

pub slice_bounds-rest-start : goal.slice_bounds-rest-start
slice_bounds-rest-start c = let h = inside c.loop-f.invariant c.in-Some.ensures c.if-count-ge-MOST.false c.if-f-eq10.false in search rules

pub slice_bounds-rest-end : goal.slice_bounds-rest-end
slice_bounds-rest-end c = let h = inside c.loop-f.invariant c.in-Some.ensures c.if-count-ge-MOST.false c.if-f-eq10.false in search rules

pub loop-f-smaller : goal.loop-f-smaller
loop-f-smaller c = after_shorter _ c.loop-f.rest.now (inside c.loop-f.invariant c.in-Some.ensures c.if-count-ge-MOST.false c.if-f-eq10.false)

pub loop-f-preserved : goal.loop-f-preserved
loop-f-preserved c = next_turn c.loop-f.invariant c.in-Some.ensures c.if-count-ge-MOST.false c.if-f-eq10.false
