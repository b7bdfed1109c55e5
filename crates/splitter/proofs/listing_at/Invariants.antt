-- `splitter::listing_at` meets its contract. The loop's invariant: the listing does not begin before the four places. Assumes nothing.
use mathlib.Core.Path.{◌≡◌}
use mathlib.Core.Bool.{false}
use Prim.Native.Nat.{ℕ, ◌+◌, ◌*◌, ◌<◌}
use Rattle.splitter.specs.Search.{safe_at}
use Rattle.splitter.proofs.listing_at.Given as goal

abbrev pub invariant-loop-four : goal.invariant-loop-four
invariant-loop-four l = (i : ℕ) → i + 3 < l.four * 4 + 3 → safe_at l.text i ≡ false
