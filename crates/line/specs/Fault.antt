-- The document's numbers of what is wrong with a text, and the line that is refused. Assumes nothing.
use Rattle.std.specs.Prelude.{ℕ, Result, Ok, Err}
use Rattle.line.specs.declared.fault.Fault.{Fault}
use Rattle.line.specs.declared.fault.Fault.TheVariants.{Malformed, Misplaced, OutOfRange, TooMany}
use Rattle.line.specs.declared.fault.TextError.{TextError}
use Rattle.line.specs.declared.fault.TextError.TheVariants.{TooLong, Line}

-- the number of a line that is refused
abbrev pub number_of : Fault → ℕ
number_of Malformed = 2
number_of Misplaced = 3
number_of OutOfRange = 4
number_of TooMany = 5

-- the same of a line's result, 0 where it is taken
abbrev pub number_in : {T : Type 0} → Result T Fault → ℕ
number_in (Ok x) = 0
number_in (Err fault) = number_of fault

-- the number of a text that is refused, and its line, 0 where no line is refused
abbrev pub text_number : TextError → ℕ
text_number TooLong = 1
text_number (Line fault line) = number_of fault

abbrev pub text_line : TextError → ℕ
text_line TooLong = 0
text_line (Line fault line) = line
