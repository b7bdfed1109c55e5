use mathlib.Core.Path.{◌≡◌, sym, ◌∙◌}
use mathlib.Core.Logic.{⊎_elim}
use lib.ListN.{length, get_or-eq_default}
use Rattle.text.proofs.Stops.{there}
use native.Mathlib.Omega.{arith}
use Rattle.numbers.proofs.Spelling.{grows, small}
use Rattle.numbers.proofs.Field.{digit_reads, digit_long}
use Rattle.numbers.proofs.read_digits.Goals as goal
use Rattle.numbers.proofs.read_digits.Goals.{then-count-gt5-via-then-count-gt5, then-count-gt5-via-else-count-gt5+then-not-is_ascii_digit}

pub returns-then-count-gt5 : goal.returns-then-count-gt5
returns-then-count-gt5 c = let l = c.loop-count in record {
  within = l.auto.count-end;
  reads = l.invariant.2;
  long = l.invariant.3;
  next = there c.args.s.now l.count 0 10 c.loop-count-test.true;
  stops = λ few _ low high.
      elim c.then-count-gt5.branch [
        | then-count-gt5-via-then-count-gt5 w ↦ (let k = w.if-count-gt5.true in omega arith)
        | then-count-gt5-via-else-count-gt5+then-not-is_ascii_digit w ↦ ⊎_elim (λ k. omega arith) (λ k. omega arith) w.if-not-is_ascii_digit.ensures.cases
      ];
}

pub overflow_mul-value : goal.overflow_mul-value
overflow_mul-value c = let l = c.loop-count in omega (arith, small l.count l.value c.if-count-gt5.false l.invariant.1)

pub overflow_add-value : goal.overflow_add-value
overflow_add-value c = let l = c.loop-count in omega (arith, small l.count l.value c.if-count-gt5.false l.invariant.1)

pub loop-count-preserved : goal.loop-count-preserved
loop-count-preserved c =
    let l = c.loop-count in
    let s = c.args.s.now in
    let (low, high) = c.if-not-is_ascii_digit.ensures.cases in (
      omega arith,
      rw c.from.ensures (grows l.count l.value _ l.invariant.1 (omega arith)),
      rw c.from.ensures (sym (digit_reads l.value l.count s c.loop-count-test.true low high) ∙ l.invariant.2),
      let x = l.invariant.3 in omega (arith, digit_long l.value l.count s c.loop-count-test.true low high),
    )

pub returns : goal.returns
returns c = let l = c.loop-count in let same : l.count ≡ length c.args.s.now = omega arith in
    rw (← same) (record { within = l.auto.count-end; reads = l.invariant.2; long = l.invariant.3; next = sym (get_or-eq_default c.args.s.now 10 (omega arith)); stops = λ a b d e. omega arith })
