-- Laws on lists that several proofs cite. Assumes nothing.
use mathlib.Core.Path.{◌≡◌}
use mathlib.Core.List.{List, ◌∷◌}
use Prim.Native.Nat.{ℕ, ◌+◌, ◌-◌, ◌<◌}
use native.Mathlib.Numerals.{add-one}
use native.Mathlib.Omega.{arith}
use lib.ListN.{length, get_or, take, drop, length-drop}
use lib.Seq.{drop-cons, take_all}
use borrow.Author.Rules.{rules}
use borrow.Author.Tests.{lt-ltb, le-ltb, le-leb, lt-leb, eq-eqb, ne_eqb}

-- what is left at i, one element taken off
pub next : (s : List ℕ) (i : ℕ) → i < length s → drop i s ≡ get_or s i 0 ∷ drop (i + 1) s
next s i h = rw (add-one, drop-cons s i 0)

-- the part `&s[b..]`
pub tail_part : (s : List ℕ) (b : ℕ) → take (length s - b) (drop b s) ≡ drop b s
tail_part s b = take_all (length s - b) (drop b s) (omega (arith, length-drop b s))

-- what `search rules` knows, how a fact decides a test, and what `&s[b..]` holds
pub ruleset tests = (rules, lt-ltb, le-ltb, le-leb, lt-leb, eq-eqb, ne_eqb, tail_part)
