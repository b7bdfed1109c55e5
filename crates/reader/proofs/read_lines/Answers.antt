use mathlib.Core.Path.{refl, sym}
use borrow.Author.Tests.{eqb-true, eqb-false}
use Rattle.line.specs.declared.fault.TextError.TheVariants.{Line}
use Rattle.line.proofs.Faults.{number_within}
use Rattle.draft.proofs.Laid.{same_refusal, no_refusal, stands_next}
use Rattle.reader.proofs.Turns.{first_turn, refused_turn, next_turn, open_line, done}
use Rattle.reader.proofs.Leaves.{first_stands, refused_read}
use native.Mathlib.Omega.{arith}
use Rattle.reader.proofs.read_lines.Goals as goal

pub loop-left-init : goal.loop-left-init
loop-left-init c =
    (_, first_stands c.no_outline-o.ensures c.requires.m_value, first_turn c.args.text.now)

pub returns-then-left-e : goal.returns-then-left-e
returns-then-left-e c =
    let (d, _, t) = c.loop-left.invariant in
    let some = eqb-false _ 0 (sym c.loop-left-test.ensures) in
    refused_read _ (open_line t c.read_line-l.ensures (omega arith) c.if-left-e.true)

pub returns-in-Err : goal.returns-in-Err
returns-in-Err c =
    let (d, s, t) = c.loop-left.invariant in
    let fault = c.in-Err.fault in
    let (low, _) = number_within fault in
    refused_read (Line fault c.loop-left.n) (refused_turn t c.read_line-l.ensures c.if-left-e.false (same_refusal s _ fault c.in-Err.ensures) (λ z. omega arith))

pub overflow_add-n : goal.overflow_add-n
overflow_add-n c =
    let (d, _, t) = c.loop-left.invariant in
    let r = t.room in
    let text = c.requires.text_len_bound in
    omega (arith, r, text)

pub loop-left-preserved : goal.loop-left-preserved
loop-left-preserved c =
    let (d, s, t) = c.loop-left.invariant in (
      _,
      stands_next s _ c.in-Ok.ensures,
      next_turn t c.read_line-l.ensures c.if-left-e.false (no_refusal s _ c.in-Ok.ensures) refl,
    )

pub returns : goal.returns
returns c =
    let (d, s, t) = c.loop-left.invariant in
    let none = eqb-true _ 0 (sym c.loop-left-test.ensures) in
    rw (done t (omega arith)) (c.finish.ensures d s)
