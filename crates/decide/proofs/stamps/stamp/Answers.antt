use mathlib.Core.Path.{refl, ap}
use native.Mathlib.Omega.{arith}
use borrow.Author.Rules.{rules}
use Rattle.table.proofs.Bytes.{cell_small}
use Rattle.bits.specs.declared.Ones.{Ones}
use Rattle.decide.proofs.Stamped.{left_first, cell_in, triples_next, triples_last}
use Rattle.decide.proofs.stamps.stamp.Goals as goal

pub overflow_mul-first : goal.overflow_mul-first
overflow_mul-first c =
    omega (arith, c.requires.symbol, cell_small {a = c.args.g} {b = c.args.size.states} {c = 0} 255 (omega (arith, c.requires.symbol)) (omega arith) (omega arith))

pub loop-i-init : goal.loop-i-init
loop-i-init c z h e f = left_first _ _ _ _ _ _ (ap (λ (s : Ones). s.0) c.into_iter-i-iterator.ensures.into_iter_gives)

-- the cell lies in the array, whose length is what it was: no sum on the way to it wraps
pub bounds-triples-first : goal.bounds-triples-first
bounds-triples-first c = cell_in _ _ _ _ _ c.requires refl c.head_count-row.ensures _ c.in-Some.ensures.steps (c.loop-i.invariant _ c.requires refl c.head_count-row.ensures)

pub shape_of-triples : goal.shape_of-triples
shape_of-triples c = (c.loop-i.invariant _ c.requires refl c.head_count-row.ensures).as_long

pub overflow_mul-triples : goal.overflow_mul-triples
overflow_mul-triples c = omega (arith, bounds-triples-first c, (c.loop-i.invariant _ c.requires refl c.head_count-row.ensures).as_long)

pub overflow_add-triples : goal.overflow_add-triples
overflow_add-triples c = omega (arith, bounds-triples-first c, (c.loop-i.invariant _ c.requires refl c.head_count-row.ensures).as_long)

pub overflow_add-triples-in-loop-i : goal.overflow_add-triples-in-loop-i
overflow_add-triples-in-loop-i c = omega (arith, bounds-triples-first c, (c.loop-i.invariant _ c.requires refl c.head_count-row.ensures).as_long)

pub offset_bounds-triples-first : goal.offset_bounds-triples-first
offset_bounds-triples-first c = omega (arith, bounds-triples-first c, (c.loop-i.invariant _ c.requires refl c.head_count-row.ensures).as_long)

pub loop-i-preserved : goal.loop-i-preserved
loop-i-preserved c z h e f = triples_next _ _ _ _ _ h e f _ c.in-Some.ensures.steps (c.loop-i.invariant z h e f)

pub returns : goal.returns
returns c = triples_last _ _ _ _ _ c.requires (search rules) _ _ c.in-None.ensures.steps.0 (c.loop-i.invariant _ c.requires refl c.head_count-row.ensures)
