-- `recheck::facts::all_heads` meets its contract. The loop's invariant: the symbols before g have their heads. Assumes nothing.
use mathlib.Core.Path.{◌≡◌}
use Prim.Native.Nat.{ℕ, ◌<◌}
use lib.ListN.{length, get_or}
use Rattle.recheck.proofs.Matrices.{Heads}
use Rattle.recheck.proofs.facts.all_heads.Given as goal

abbrev pub invariant-loop-g : goal.invariant-loop-g
invariant-loop-g l = (length l.hs ≡ 32) × ((c : ℕ) → c < l.g → Heads l.symbols l.states l.table.heads.now c (get_or l.hs c 0))
