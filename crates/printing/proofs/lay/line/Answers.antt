-- `printing::lay::line` meets its contract. Assumes nothing.
use Rattle.text.proofs.Puts.{put_length}
use Rattle.printing.proofs.Digits.{line_room, line_laid}
use native.Mathlib.Omega.{arith}
use Rattle.printing.proofs.lay.line.Goals as goal

pub bounds-out-end : goal.bounds-out-end
bounds-out-end c = line_room c.args.numbers.now c.requires (λ i. omega (arith, c.type_inv.numbers i)) c.word-first.ensures c.fields-end.ensures

pub shape_of-out : goal.shape_of-out
shape_of-out c = put_length (line_laid c.args.numbers.now c.requires (λ i. omega (arith, c.type_inv.numbers i)) c.word-first.ensures c.fields-end.ensures)

pub returns : goal.returns
returns c = line_laid c.args.numbers.now c.requires (λ i. omega (arith, c.type_inv.numbers i)) c.word-first.ensures c.fields-end.ensures
