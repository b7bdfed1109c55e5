-- The fault of a fact's line, case by case. Assumes nothing.
use mathlib.Core.Path.{◌≡◌, sym, ◌∙◌}
use mathlib.Core.Bool.{Bool, true, false}
use mathlib.Core.List.{List}
use Prim.Native.Nat.{ℕ, ◌<◌, ◌≤◌}
use native.Mathlib.Omega.{arith}
use borrow.Author.Tests.{lt-ltb, le-ltb, eq-eqb, ne_eqb}
use Rattle.std.specs.Prelude.{Result, Ok, Err}
use Rattle.line.specs.declared.fault.Fault.{Fault}
use Rattle.line.proofs.Faults.{number_within}
use Rattle.line.specs.Fault.{number_of, number_in}
use Rattle.product.specs.Table.{absent}
use Rattle.ranking.specs.Rank.{largest, fault_of, counted, Ranked}

-- by the count of the line's numbers
module _ (count takes fault : ℕ) where
  pub miscounted : (count ≡ takes → ⊥) → 2 ≡ counted count takes fault
  miscounted h = rw (ne_eqb _ _ h)

  pub well_counted : count ≡ takes → {r : Result (Unit {0}) Fault} {before after put : List ℕ} → Ranked before after fault put r → Ranked before after (counted count takes fault) put r
  well_counted h x = rw (eq-eqb _ _ h) x

-- the fault of a fact's line
module _ (begun : Bool) (held : ℕ) (inside : Bool) (rank : ℕ) where
  pub fault_early : begun ≡ false → 3 ≡ fault_of begun held inside rank
  unfolding fault_of
  fault_early h = rw h

  module _ (h : begun ≡ true) where
    pub fault_twice : (held ≡ absent → ⊥) → 3 ≡ fault_of begun held inside rank
    unfolding fault_of
    fault_twice k = rw (h, ne_eqb _ _ k)

    module _ (k : held ≡ absent) where
      pub fault_outside : inside ≡ false → 4 ≡ fault_of begun held inside rank
      unfolding fault_of
      fault_outside i = rw (h, eq-eqb _ _ k, i)

      pub fault_large : inside ≡ true → largest < rank → 4 ≡ fault_of begun held inside rank
      unfolding fault_of
      fault_large i l = rw (h, eq-eqb _ _ k, i, lt-ltb _ _ l)

      pub fault_none : inside ≡ true → rank ≤ largest → 0 ≡ fault_of begun held inside rank
      unfolding fault_of
      fault_none i l = rw (h, eq-eqb _ _ k, i, le-ltb _ _ l)

-- no fault has the number 0
pub some_fault : (fault : Fault) → number_of fault ≡ 0 → ⊥
some_fault fault e = let h = (number_within fault).0 in omega arith

-- what is left of the cells, by the fault that was found
module _ {before put : List ℕ} (fault : Fault) {g : ℕ} (e : number_of fault ≡ g) where
  pub not_ranked : Ranked before before g put (Err fault)
  not_ranked = record { answers = e; leaves = rw (← e, ne_eqb _ _ (some_fault fault)) }

pub is_ranked : {before put after : List ℕ} {g : ℕ} → 0 ≡ g → after ≡ put → Ranked before after g put (Ok tt)
is_ranked e k = record { answers = e; leaves = k ∙ rw (← e) }

-- without a refusal the rank stands there, and with one nothing changes
module _ {before after put : List ℕ} {g : ℕ} {r : Result (Unit {0}) Fault} (x : Ranked before after g put r) where
  pub ranked_cells : number_in r ≡ 0 → after ≡ put
  ranked_cells h = x.leaves ∙ rw (eq-eqb g 0 (sym x.answers ∙ h))

  pub unranked_cells : (number_in r ≡ 0 → ⊥) → after ≡ before
  unranked_cells h = x.leaves ∙ rw (ne_eqb g 0 (λ e. h (x.answers ∙ e)))
