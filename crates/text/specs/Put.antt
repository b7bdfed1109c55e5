-- What it is to put numbers, bytes or stored steps, into lent memory. Assumes nothing.
use Rattle.std.specs.Prelude.{List, ◌≡◌, ℕ, ◌+◌, min, length}
use Rattle.std.proofs.lemmas.List.Edits.{sets}

-- a place in n cells: any place past the end, which has no cell either, is the one that says that something was cut
abbrev pub place_in : (n at : ℕ) → ℕ
place_in n at = min at (n + 1)

-- s is put into `out` from `at` on, and no other cell changes; what has no room is dropped. The answer `next` is the place behind s.
pub record Put (out after : List ℕ) (at next : ℕ) (s : List ℕ) : Type 0 where
  pub place : next ≡ place_in (length out) (at + length s)
  pub cells : after ≡ sets out at s
