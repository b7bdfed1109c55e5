-- `printing::count` meets its contract. Assumes nothing.
use mathlib.Core.Path.{◌≡◌}
use lib.ListN.{length}
use Prim.Native.Nat.{◌≤◌}
use Rattle.printing.specs.Listing.{present_in}
use Rattle.printing.proofs.count.Given as goal

abbrev pub invariant-loop-rank : goal.invariant-loop-rank
invariant-loop-rank l = (l.present ≤ l.rank-index) × (l.present ≡ length (present_in l.cells l.rank-index))
