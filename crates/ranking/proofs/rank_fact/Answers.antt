-- `ranking::rank_fact` meets its contract. Assumes nothing.
use mathlib.Core.Path.{sym, ap, ◌∙◌}
use mathlib.Core.Bool.{not}
use native.Mathlib.Omega.{arith}
use Rattle.table.specs.Places.{fact_of}
use Rattle.table.proofs.Places.{fact_read, fact_put, has_place}
use Rattle.line.specs.declared.fault.Fault.TheVariants.{Misplaced, OutOfRange}
use Rattle.ranking.proofs.Faults.{fault_early, fault_twice, fault_outside, fault_large, fault_none, not_ranked, is_ranked}
use Rattle.ranking.proofs.rank_fact.Goals as goal
use Rattle.ranking.proofs.rank_fact.Goals.{then-is_none-via-then-is_none, then-is_none-via-else-is_none+then-rank-gt-LARGEST}

pub returns-then-not-begun : goal.returns-then-not-begun
returns-then-not-begun c = not_ranked Misplaced (fault_early _ _ _ _ c.if-not-begun.true)

pub returns-then-held : goal.returns-then-held
returns-then-held c =
    let f = fact_of c.args.f in
    let held = fact_read _ _ _ f c.place_of-place.ensures c.read-held.ensures in
    not_ranked Misplaced (fault_twice _ _ _ _ c.if-not-begun.false (λ e. c.if-held.true (held ∙ e)))

pub returns-then-is_none : goal.returns-then-is_none
returns-then-is_none c =
    let f = fact_of c.args.f in
    let held = fact_read _ _ _ f c.place_of-place.ensures c.read-held.ensures in
    let inside = has_place _ _ f c.place_of-place.ensures ∙ c.is_none.ensures in
    elim c.then-is_none.branch [
      | then-is_none-via-then-is_none w ↦
          not_ranked OutOfRange (fault_outside _ _ _ _ c.if-not-begun.false (sym held ∙ c.if-held.false) (inside ∙ ap not w.if-is_none.true))
      | then-is_none-via-else-is_none+then-rank-gt-LARGEST w ↦
          not_ranked OutOfRange (fault_large _ _ _ _ c.if-not-begun.false (sym held ∙ c.if-held.false) (inside ∙ ap not w.if-is_none.false) w.if-rank-gt-LARGEST.true)
    ]

pub returns : goal.returns
returns c =
    let f = fact_of c.args.f in
    let held = fact_read _ _ _ f c.place_of-place.ensures c.read-held.ensures in
    let inside = has_place _ _ f c.place_of-place.ensures ∙ c.is_none.ensures ∙ ap not c.if-is_none.false in
    is_ranked (fault_none _ _ _ _ c.if-not-begun.false (sym held ∙ c.if-held.false) inside c.if-rank-gt-LARGEST.false)
    (fact_put _ _ _ f c.place_of-place.ensures _ c.put.ensures)
