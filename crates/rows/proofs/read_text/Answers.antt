-- `rows::read_text` meets its contract. Assumes nothing.
use mathlib.Core.Path.{ap, ◌∙◌}
use Rattle.rows.specs.State.{whole, before}
use Rattle.rows.specs.Lines.{ends}
use Rattle.rows.proofs.Lines.{is_nothing, long_text, short_text}
use Rattle.rows.proofs.read_text.Goals as goal

pub returns-then-text-gt-LONGEST : goal.returns-then-text-gt-LONGEST
returns-then-text-gt-LONGEST c = let a = c.args in ap (λ t. ends 1 0 (whole t a.heads.now a.triples.now)) (is_nothing c.default.result c.default.ensures) ∙ long_text a.size (before a.heads.now a.triples.now) a.text.now c.if-text-gt-LONGEST.true

pub read_lines-requires : goal.read_lines-requires
read_lines-requires c = record { short = c.if-text-gt-LONGEST.false; empty = is_nothing c.default.result c.default.ensures }

pub returns : goal.returns
returns c = let a = c.args in c.read_lines.ensures ∙ short_text a.size (before a.heads.now a.triples.now) a.text.now c.if-text-gt-LONGEST.false
