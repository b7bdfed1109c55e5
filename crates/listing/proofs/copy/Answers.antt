-- `listing::copy` meets its contract. Assumes nothing.
use mathlib.Core.List.{◌++◌}
use mathlib.Core.Path.{ap, ◌∙◌}
use lib.ListN.{drop}
use Rattle.listing.proofs.Filled.{filled_front}
use Rattle.listing.proofs.copy.Goals as goal

pub returns : goal.returns
returns c =
    let a = c.args in
    ap (λ l. l ++ drop a.n a.to.now) c.copy_from_slice.ensures.after ∙ filled_front a.from.now a.to.now a.n c.requires.n_in_bounds c.requires.n_in_bounds_2
