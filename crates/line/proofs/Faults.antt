-- A fault is known by its number. Assumes nothing.
use mathlib.Core.Path.{◌≡◌, refl, ap, sym, ◌∙◌}
use Prim.Native.Nat.{ℕ, ◌≤◌}
use native.Mathlib.Omega.{arith}
use lib.Dec.{eqb}
use Rattle.std.specs.Prelude.{Result, Ok, Err}
use Rattle.text.specs.Split.{pick}
use Rattle.line.specs.Fault.{number_of, number_in}
use Rattle.line.specs.declared.fault.Fault.{Fault}
use Rattle.line.specs.declared.fault.Fault.TheVariants.{Malformed, Misplaced, OutOfRange, TooMany}

-- it is one of the document's numbers of a line
pub number_within : (f : Fault) → (2 ≤ number_of f) × (number_of f ≤ 5)
number_within Malformed = (omega arith, omega arith)
number_within Misplaced = (omega arith, omega arith)
number_within OutOfRange = (omega arith, omega arith)
number_within TooMany = (omega arith, omega arith)

-- a fault, out of its number
abbrev pub fault_by : ℕ → Fault
fault_by n = pick (eqb n 2) Malformed (pick (eqb n 3) Misplaced (pick (eqb n 4) OutOfRange TooMany))

by_number : (f : Fault) → fault_by (number_of f) ≡ f
by_number Malformed = refl
by_number Misplaced = refl
by_number OutOfRange = refl
by_number TooMany = refl

pub same_fault : {f g : Fault} → number_of f ≡ number_of g → f ≡ g
same_fault {f} {g} e = sym (by_number f) ∙ ap fault_by e ∙ by_number g

-- a line that is taken, and one that is not
pub same_check : (r s : Result (Unit {0}) Fault) → number_in r ≡ number_in s → r ≡ s
same_check (Ok x) (Ok y) e = refl
same_check (Ok x) (Err g) e = let h = (number_within g).0 in absurd (omega arith)
same_check (Err f) (Ok y) e = let h = (number_within f).0 in absurd (omega arith)
same_check (Err f) (Err g) e = ap (λ f. Err f) (same_fault e)
