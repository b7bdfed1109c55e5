use mathlib.Core.Path.{sym, ◌∙◌}
use Prim.Native.Nat.{◌+◌, ◌*◌, ◌-◌}
use Rattle.splitter.proofs.Place.{place_here, place_none, none_before, none_passed, none_letter}
use native.Mathlib.Omega.{arith}
use Rattle.splitter.proofs.listing_at.Goals as goal
use Rattle.splitter.proofs.listing_at.Goals.{in-Some+else-safe_at, in_default}

pub returns-then-safe_at : goal.returns-then-safe_at
returns-then-safe_at c =
    let l = c.loop-four in
    let last = l.four * 4 + 3 in
    let t = c.args.text.now in
    place_here t (last - c.in-Some.letter) (none_before t last l.invariant c.letter_of.ensures c.in-Some.is) (omega arith) (sym c.safe_at.ensures ∙ c.if-safe_at.true)

pub loop-four-preserved : goal.loop-four-preserved
loop-four-preserved c i h =
    let l = c.loop-four in
    let last = l.four * 4 + 3 in
    let t = c.args.text.now in
    elim c.match-letter_of.branch [
      | in-Some+else-safe_at w ↦ none_passed t last l.invariant c.letter_of.ensures w.in-Some.is (omega arith) (sym w.safe_at.ensures ∙ w.if-safe_at.false) i (omega arith)
      | in_default w ↦ none_letter t last l.invariant c.letter_of.ensures w.in_default.is i (omega arith)
    ]

pub returns : goal.returns
returns c =
    let l = c.loop-four in
    place_none c.args.text.now (l.four * 4 + 3) l.invariant (omega arith)
