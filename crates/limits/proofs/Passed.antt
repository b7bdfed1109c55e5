-- A line that is not refused failed every test, and so fits. Assumes nothing.
use mathlib.Core.Bool.{Bool, true, false, ◌||◌}
use mathlib.Core.Path.{◌≡◌, refl}
use Prim.Native.Nat.{ℕ, suc, ◌≤◌}
use native.Mathlib.Omega.{arith}
use lib.Dec.{ltb}
use borrow.Author.Tests.{ltb-false, leb-false}
use Rattle.text.specs.Split.{pick}
use Rattle.numbers.specs.declared.Numbers.{Numbers}
use Rattle.modelline.specs.declared.Word.{Word}
use Rattle.modelline.specs.declared.Word.TheVariants.{Size, Start, Final, Event, Exit, Direct, Call, Move, Unknown}
use Rattle.limits.specs.declared.Counts.{Counts}
use Rattle.limits.specs.Limits.{Tests, refusal, uncounted, unsized, rule_tests, tests, Counted, RuleFits, Fits}

record Passed (t : Tests) : Type 0 where
  malformed : t.malformed ≡ false
  misplaced : t.misplaced ≡ false
  first : t.first ≡ false
  second : t.second ≡ false
  third : t.third ≡ false
  full : t.full ≡ false

-- one test, and those after it
failed : (b : Bool) (n : ℕ) {m : ℕ} → pick b (suc n) m ≡ 0 → (b ≡ false) × (m ≡ 0)
failed true n e = absurd (omega arith)
failed false n e = (refl, e)

passed : (t : Tests) → refusal t ≡ 0 → Passed t
passed t e =
    let (malformed, e) = failed t.malformed 1 e in
    let (misplaced, e) = failed t.misplaced 2 e in
    let (first, e) = failed t.first 3 e in
    let (second, e) = failed t.second 3 e in
    let (third, e) = failed t.third 3 e in
    let (full, e) = failed t.full 4 e in
    record { malformed = malformed; misplaced = misplaced; first = first; second = second; third = third; full = full }

neither : (a b : Bool) → (a || b) ≡ false → (a ≡ false) × (b ≡ false)
neither true b e = (e, cc)
neither false b e = (refl, e)

counted : (most n : ℕ) → uncounted most n ≡ false → Counted most n
counted most n e = let (l, h) = neither (ltb n 1) (ltb most n) e in (ltb-false n 1 l, ltb-false most n h)

rule_fits : (takes : ℕ) (k : Counts) (n : Numbers) → Passed (rule_tests takes k n) → RuleFits k n
rule_fits takes k n p = (leb-false 256 _ p.full, leb-false _ _ p.first, leb-false _ _ p.second, leb-false _ _ p.third)

by_word : (k : Counts) (w : Word) (n : Numbers) → Passed (tests k w n) → Fits k w n
by_word k Size n p =
    let l = ltb-false 0 k.symbols p.misplaced in
    (omega arith, counted 32 _ p.first, counted 8 _ p.second, counted 16 _ p.third)
by_word k Start n p =
    let l = ltb-false 0 k.started (neither (unsized k) (ltb 0 k.started) p.misplaced).1 in
    (omega arith, leb-false _ _ p.first, leb-false _ _ p.second)
by_word k Final n p = leb-false _ _ p.first
by_word k Event n p = (leb-false _ _ p.first, leb-false _ _ p.second)
by_word k Exit n p = rule_fits 1 k n p
by_word k Direct n p = rule_fits 2 k n p
by_word k Call n p = rule_fits 3 k n p
by_word k Move n p = (leb-false 128 _ p.full, leb-false _ _ p.first, leb-false _ _ p.second, leb-false _ _ p.third)
by_word k Unknown n p = let e = p.malformed in let z : ◌≡◌ {A = ℕ} 0 1 = cc in omega arith

pub fits : (k : Counts) (w : Word) (n : Numbers) {r : ℕ} → r ≡ refusal (tests k w n) → r ≡ 0 → Fits k w n
fits k w n p e = by_word k w n (passed (tests k w n) (rw p at e))

-- a refusal is one of the document's numbers of a line
pub line_number : (t : Tests) → (refusal t ≡ 0 → ⊥) → (2 ≤ refusal t) × (refusal t ≤ 5)
line_number t n = go t.malformed t.misplaced t.first t.second t.third t.full n
  where
    by : (a b c d e f : Bool) → ℕ
    by a b c d e f = pick a 2 (pick b 3 (pick c 4 (pick d 4 (pick e 4 (pick f 5 0)))))

    go : (a b c d e f : Bool) → (by a b c d e f ≡ 0 → ⊥) → (2 ≤ by a b c d e f) × (by a b c d e f ≤ 5)
    go true b c d e f n = (omega arith, omega arith)
    go false true c d e f n = (omega arith, omega arith)
    go false false true d e f n = (omega arith, omega arith)
    go false false false true e f n = (omega arith, omega arith)
    go false false false false true f n = (omega arith, omega arith)
    go false false false false false true n = (omega arith, omega arith)
    go false false false false false false n = absurd (n refl)
