use native.Mathlib.Omega.{arith}
use borrow.Author.Rules.{rules}
use Rattle.recheck.proofs.Matrices.{small_place, triples_inside, matrixed_none, matrixed_more, triples_are}
use Rattle.recheck.proofs.facts.triples_of.Goals as goal

pub triples_of_eight-requires : goal.triples_of_eight-requires
triples_of_eight-requires c =
    record { g_lt_symbols = c.requires.g_lt_symbols; states_value = c.if-table-eq8.true; states_in_bounds = c.requires.states_in_bounds }

pub returns-then-table-eq8 : goal.returns-then-table-eq8
returns-then-table-eq8 c = c.triples_of_eight.ensures

pub loop-q-init : goal.loop-q-init
loop-q-init c =
    let a = c.args in
    matrixed_none a.table.now.size.symbols a.table.now.size.states a.table.now.triples.now a.g

pub overflow_mul-q : goal.overflow_mul-q
overflow_mul-q c =
    let a = c.args in
    let h = small_place a.table.now.size.symbols a.table.now.size.states c.loop-q.q a.g (omega arith) c.requires.states_bound (omega arith) c.requires.g_lt_symbols in
    search rules

pub overflow_add-q : goal.overflow_add-q
overflow_add-q c =
    let a = c.args in
    let h = small_place a.table.now.size.symbols a.table.now.size.states c.loop-q.q a.g (omega arith) c.requires.states_bound (omega arith) c.requires.g_lt_symbols in
    search rules

pub overflow_mul-q-in-loop-q : goal.overflow_mul-q-in-loop-q
overflow_mul-q-in-loop-q c =
    let a = c.args in
    let h = small_place a.table.now.size.symbols a.table.now.size.states c.loop-q.q a.g (omega arith) c.requires.states_bound (omega arith) c.requires.g_lt_symbols in
    search rules

pub with_row-m-requires : goal.with_row-m-requires
with_row-m-requires c =
    let a = c.args in
    triples_inside a.table.now.size.symbols a.table.now.size.states c.requires.states_bound a.g c.requires.g_lt_symbols _ c.requires.states_in_bounds c.loop-q.q (omega arith)

pub loop-q-preserved : goal.loop-q-preserved
loop-q-preserved c =
    let a = c.args in
    let l = c.loop-q in
    matrixed_more a.table.now.size.symbols a.table.now.size.states a.table.now.triples.now a.g l.q l.m _ l.invariant c.with_row-m.ensures

pub returns : goal.returns
returns c =
    let a = c.args in
    let l = c.loop-q in
    triples_are a.table.now.size.symbols a.table.now.size.states a.table.now.triples.now a.g c.requires.states_bound c.requires.g_lt_symbols l.q l.m (omega arith) l.invariant
