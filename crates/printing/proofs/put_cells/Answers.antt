use mathlib.Core.Path.{◌≡◌}
use lib.ListN.{length}
use Rattle.text.proofs.Puts.{none_put, as_put, put_length}
use Rattle.printing.proofs.Bytes.{cells_none, cells_put}
use borrow.Author.Rules.{rules}
use native.Mathlib.Omega.{arith}
use Rattle.printing.proofs.put_cells.Goals as goal

pub loop-i-init : goal.loop-i-init
loop-i-init c = as_put (cells_none _ _ _ _) (none_put _ _ c.place-next.ensures)

pub put_fact-next-requires : goal.put_fact-next-requires
put_fact-next-requires c = (search rules, let x = c.loop-i.invariant in omega (arith, x.place, put_length x))

pub loop-i-preserved : goal.loop-i-preserved
loop-i-preserved c = let a = c.args in cells_put a.kind a.size.symbols a.size.states a.cells.now c.loop-i.i c.loop-i.invariant c.put_fact-next.ensures

pub shape_of-out : goal.shape_of-out
shape_of-out c = put_length c.loop-i.invariant

pub returns : goal.returns
returns c = let e : c.loop-i.i ≡ length c.args.cells.now = omega arith in rw e at c.loop-i.invariant
