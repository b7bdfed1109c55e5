-- `put_first` meets its contract. Assumes nothing.
use mathlib.Core.Path.{ap}
use mathlib.Core.List.{◌∷◌}
use Prim.Native.Nat.{◌+◌}
use Rattle.numbers.proofs.Decimals.{four}
use borrow.Author.Rules.{rules}
use Rattle.numbers.proofs.put_first.Goals as goal

pub returns : goal.returns
returns c = ap (λ l. record { count = c.args.d.count + 1; at = c.args.b ∷ l }) (four c.args.d.at (search rules))
