-- The cases of specs/Cases, computed. Assumes nothing.
use mathlib.Core.Path.{◌≡◌, refl}
use Rattle.product.specs.Lists.{each}
use Rattle.text.specs.Split.{first, later, same_bytes}
use Rattle.numbers.specs.Number.{spelled, number_of, numbers_from}
use Rattle.modelline.specs.Line.{line_by, line_of}
use Rattle.reader.specs.Reading.{empty}
use Rattle.draft.specs.Lines.{take_line}
use Rattle.reader.specs.Text.{read_from, read_model}
use Rattle.reader.specs.Says.{said}
use Rattle.reader.specs.Cases.{text_a, said_a, ending, cases}

pub a_said : said text_a ≡ said_a
unfolding said line_of line_by first later same_bytes spelled number_of numbers_from
a_said = refl

pub cases_end : each cases (λ c. ending (read_model c.text)) ≡ each cases (λ c. c.ends)
unfolding cases empty take_line read_from read_model line_of line_by first later same_bytes spelled number_of numbers_from
cases_end = refl
