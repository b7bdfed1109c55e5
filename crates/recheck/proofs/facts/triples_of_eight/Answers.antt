use mathlib.Core.Path.{subst, subst⁻¹}
use Prim.Native.Nat.{◌*◌, ◌≤◌}
use native.Mathlib.Omega.{arith}
use lib.ListN.{length}
use borrow.Author.Rules.{rules}
use Rattle.table.specs.Cells.{triple_count}
use Rattle.recheck.proofs.Matrices.{small_place, Triples, triples_inside, rowed_moved, matrixed_none, matrixed_more, triples_are}
use Rattle.recheck.proofs.facts.triples_of_eight.Goals as goal

pub loop-q-init : goal.loop-q-init
loop-q-init c =
    let a = c.args in
    matrixed_none a.table.now.size.symbols 8 a.table.now.triples.now a.g

pub overflow_mul-q : goal.overflow_mul-q
overflow_mul-q c =
    let a = c.args in
    let h = small_place a.table.now.size.symbols 8 c.loop-q.q a.g (omega arith) (omega arith) (omega arith) c.requires.g_lt_symbols in
    search rules

pub overflow_add-q : goal.overflow_add-q
overflow_add-q c =
    let a = c.args in
    let h = small_place a.table.now.size.symbols 8 c.loop-q.q a.g (omega arith) (omega arith) (omega arith) c.requires.g_lt_symbols in
    search rules

pub overflow_mul-q-in-loop-q : goal.overflow_mul-q-in-loop-q
overflow_mul-q-in-loop-q c =
    let a = c.args in
    let h = small_place a.table.now.size.symbols 8 c.loop-q.q a.g (omega arith) (omega arith) (omega arith) c.requires.g_lt_symbols in
    search rules

pub row_of_eight-row-requires : goal.row_of_eight-row-requires
row_of_eight-row-requires c =
    let a = c.args in
    let long = subst (λ Q. triple_count a.table.now.size.symbols Q ≤ length a.table.now.triples.now) c.requires.states_value c.requires.states_in_bounds in
    let h = (triples_inside a.table.now.size.symbols 8 (omega arith) a.g c.requires.g_lt_symbols _ long c.loop-q.q (omega arith)).inside 7 (omega arith) in
    omega arith

pub loop-q-preserved : goal.loop-q-preserved
loop-q-preserved c =
    let a = c.args in
    let l = c.loop-q in
    matrixed_more a.table.now.size.symbols 8 a.table.now.triples.now a.g l.q l.m _ l.invariant (rowed_moved a.table.now.triples.now _ 1 8 l.m (l.q * 8) _ (omega arith) c.row_of_eight-row.ensures)

pub returns : goal.returns
returns c =
    let a = c.args in
    let l = c.loop-q in
    subst⁻¹ (λ Q. Triples a.table.now.size.symbols Q a.table.now.triples.now a.g l.m) c.requires.states_value
    (triples_are a.table.now.size.symbols 8 a.table.now.triples.now a.g (omega arith) c.requires.g_lt_symbols l.q l.m (omega arith) l.invariant)
