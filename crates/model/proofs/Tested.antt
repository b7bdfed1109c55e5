-- What was read of a row, tested, is the test of the row. Assumes nothing.
use mathlib.Core.Bool.{Bool, ◌&&◌, ◌||◌, and-true}
use mathlib.Core.Path.{◌≡◌, refl, sym, ap, ◌∙◌}
use Prim.Native.Nat.{ℕ, zero, suc}
use native.Mathlib.Omega.{arith}
use lib.Dec.{leb, ltb}
use borrow.Author.Tests.{lt-leb}
use Rattle.model.specs.Model.{rule_by}
use Rattle.model.specs.Valid.{symbols_in}

-- in the order of the code: the kind, the symbol, and of what is pushed the first and the second
abbrev tests : (n kind g g1 g2 : ℕ) → Bool
tests n kind g g1 g2 = leb kind 2 && (ltb g n && (ltb kind 1 || (ltb g1 n && (ltb kind 2 || ltb g2 n))))

by_kind : (n kind g g1 g2 : ℕ) → tests n kind g g1 g2 ≡ leb kind 2 && symbols_in n (rule_by kind g g1 g2)
by_kind n zero g g1 g2 = refl
by_kind n (suc zero) g g1 g2 = refl
by_kind n (suc (suc zero)) g g1 g2 = ap (λ b. ltb g n && (ltb g1 n && b)) (sym (and-true (ltb g2 n)))
by_kind n (suc (suc (suc k))) g g1 g2 = rw (lt-leb (suc (suc (suc k))) 2 (omega arith))

pub kind_tested : (n kind g g1 g2 : ℕ) {b : Bool} → b ≡ tests n kind g g1 g2 → b ≡ leb kind 2 && symbols_in n (rule_by kind g g1 g2)
kind_tested n kind g g1 g2 e = e ∙ by_kind n kind g g1 g2
