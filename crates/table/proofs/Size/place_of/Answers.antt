-- `table::Size::place_of` meets its contract. Assumes nothing.
use native.Mathlib.Omega.{arith}
use Rattle.table.proofs.Places.{triple_row, triple_end, triple_cell, triple_small}
use Rattle.table.proofs.Size.place_of.Goals as goal

pub returns-in_err-i-in-Triple : goal.returns-in_err-i-in-Triple
returns-in_err-i-in-Triple c =
    let q = c.in-Triple.q in
    let g = c.in-Triple.g in
    let e = c.in-Triple.e in
    rw (c.from_residual.ensures, c.in-Triple.is) (triple_row _ _ q g c.row-in-Triple.ensures e c.in_err-i-in-Triple.was)

pub returns-then-self-e : goal.returns-then-self-e
returns-then-self-e c =
    let q = c.in-Triple.q in
    let g = c.in-Triple.g in
    let e = c.in-Triple.e in
    rw c.in-Triple.is (triple_end _ _ q g c.row-in-Triple.ensures e c.in_ok-i-in-Triple.was c.if-self-e.true)

pub overflow_mul-result : goal.overflow_mul-result
overflow_mul-result c =
    let q = c.in-Triple.q in
    let g = c.in-Triple.g in
    let e = c.in-Triple.e in
    omega (arith, triple_small _ _ q g c.row-in-Triple.ensures e c.in_ok-i-in-Triple.was (omega arith) (omega arith) c.if-self-e.false)

pub overflow_add-result : goal.overflow_add-result
overflow_add-result c =
    let q = c.in-Triple.q in
    let g = c.in-Triple.g in
    let e = c.in-Triple.e in
    omega (arith, triple_small _ _ q g c.row-in-Triple.ensures e c.in_ok-i-in-Triple.was (omega arith) (omega arith) c.if-self-e.false)

pub returns-in-Head : goal.returns-in-Head
returns-in-Head c = rw c.in-Head.is c.row.ensures

pub returns-else-self-e : goal.returns-else-self-e
returns-else-self-e c =
    let q = c.in-Triple.q in
    let g = c.in-Triple.g in
    let e = c.in-Triple.e in
    rw c.in-Triple.is (triple_cell _ _ q g c.row-in-Triple.ensures e c.in_ok-i-in-Triple.was c.if-self-e.false)
