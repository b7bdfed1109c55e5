-- `printing::lay::digit_count` meets its contract. Assumes nothing.
use Rattle.printing.proofs.Digits.{one_digit, two_digits, three_digits, four_digits, five_digits}
use native.Mathlib.Omega.{arith}
use Rattle.printing.proofs.lay.digit_count.Goals as goal

pub returns-then-n-lt10 : goal.returns-then-n-lt10
returns-then-n-lt10 c = one_digit _ (omega arith)

pub returns-then-n-lt100 : goal.returns-then-n-lt100
returns-then-n-lt100 c = two_digits _ (omega arith) (omega arith)

pub returns-then-n-lt1000 : goal.returns-then-n-lt1000
returns-then-n-lt1000 c = three_digits _ (omega arith) (omega arith)

pub returns-then-n-lt10000 : goal.returns-then-n-lt10000
returns-then-n-lt10000 c = four_digits _ (omega arith) (omega arith)

pub returns : goal.returns
returns c = five_digits _ (omega arith) (omega arith)
