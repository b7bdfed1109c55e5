use Rattle.decide.proofs.Emptied.{empty_first}
use Rattle.decide.proofs.Going.{small_state, small_symbol, going_first, changed_low, ends, room, can_heads, can_triples, low_triples, low_heads, going_next}
use native.Mathlib.Omega.{arith}
use Rattle.decide.proofs.rounds.run.Goals as goal

pub begin-requires : goal.begin-requires
begin-requires c = let d = c.requires in record { state_bound = small_state d; symbol_bound = small_symbol d }

pub loop-d-init : goal.loop-d-init
loop-d-init c = let d = c.requires in (empty_first 32, going_first _ d c.begin.ensures)

pub judge-requires : goal.judge-requires
judge-requires c = let d = c.requires in record { state_bound = small_state d; symbol_bound = small_symbol d; by_index = changed_low c.loop-d.invariant.1 d }

pub shape_of-heads-in-Some : goal.shape_of-heads-in-Some
shape_of-heads-in-Some c = c.loop-d.invariant.1.heads_long

pub shape_of-triples-in-Some : goal.shape_of-triples-in-Some
shape_of-triples-in-Some c = c.loop-d.invariant.1.triples_long

pub returns-in-Some : goal.returns-in-Some
returns-in-Some c = ends c.loop-d.invariant.1 _ c.judge.ensures c.in-Some.is

pub overflow_add-n : goal.overflow_add-n
overflow_add-n c =
    let d = c.requires in
    omega (arith, room c.loop-d.invariant.1 c.judge.ensures c.in_default.is d)

pub round_heads-ch-requires : goal.round_heads-ch-requires
round_heads-ch-requires c =
    record { heads_ready = can_heads c.loop-d.invariant.1 c.judge.ensures c.in_default.is c.requires; empty = c.loop-d.invariant.0 }

pub round_triples-ce-requires : goal.round_triples-ce-requires
round_triples-ce-requires c =
    can_triples c.loop-d.invariant.1 c.judge.ensures c.in_default.is c.requires

pub choose-t-requires : goal.choose-t-requires
choose-t-requires c =
    let b = c.round_triples-ce.ensures in
    let a = c.round_heads-ch.ensures in
    let g = c.loop-d.invariant.1 in
    let j = c.judge.ensures in
    let i = c.in_default.is in
    record { by_index = low_triples g j i c.requires a b; by_index_2 = low_heads g j i c.requires a b }

pub loop-d-smaller : goal.loop-d-smaller
loop-d-smaller c =
    omega (arith, room c.loop-d.invariant.1 c.judge.ensures c.in_default.is c.requires)

pub loop-d-preserved : goal.loop-d-preserved
loop-d-preserved c =
    let b = c.round_triples-ce.ensures in
    let a = c.round_heads-ch.ensures in
    (a.settles.empty, going_next c.loop-d.invariant.1 c.judge.ensures c.in_default.is c.requires a b c.choose-t.ensures)
