-- `printing::put_cells` meets its contract. Assumes nothing.
use Rattle.text.specs.Put.{Put}
use Rattle.printing.specs.Listing.{cells_bytes}
use Rattle.printing.proofs.put_cells.Given as goal

abbrev pub invariant-loop-i : goal.invariant-loop-i
invariant-loop-i l = Put l.initial.out l.out l.at l.next (cells_bytes l.kind l.size.symbols l.size.states l.cells l.i)
