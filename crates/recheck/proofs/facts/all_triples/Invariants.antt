-- `recheck::facts::all_triples` meets its contract. The loop's invariant: the symbols before g have their triples. Assumes nothing.
use mathlib.Core.Path.{◌≡◌}
use Prim.Native.Nat.{ℕ, ◌<◌}
use lib.ListN.{length, get_or}
use Rattle.recheck.proofs.Matrices.{Triples}
use Rattle.recheck.proofs.facts.all_triples.Given as goal

abbrev pub invariant-loop-g : goal.invariant-loop-g
invariant-loop-g l = (length l.ts ≡ 32) × ((c : ℕ) → c < l.g → Triples l.symbols l.table.size.states l.table.triples.now c (get_or l.ts c 0))
