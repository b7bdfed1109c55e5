-- `text::find` meets its contract: the place of the first byte that is c. Assumes nothing.
use mathlib.Core.Path.{◌≡◌}
use native.Mathlib.Omega.{arith}
use lib.ListN.{length}
use Rattle.std.proofs.lemmas.Iterator.{IsFirst-from_position, YieldsList-from_slice, index_from_first}
use Rattle.text.specs.Split.{first}
use Rattle.text.proofs.Lists.{tests}
use Rattle.text.proofs.Split.{first_hit, first_miss, first_none}
use Rattle.text.proofs.find.Goals as goal

pub returns : goal.returns
returns c =
    let k = c.args.c in
    let at = index_from_first (λ s. length (first k s)) (λ b. b ≡ k) (λ b. b ≡ k → ⊥) (first_none k) (first_hit k) (first_miss k) c.args.s.now _
    (IsFirst-from_position _ _ _ (λ b. b ≡ k) (λ b. b ≡ k → ⊥) c.position.ensures.ran (YieldsList-from_slice c.args.s.now (search tests)) (λ x q h. search tests) (λ x q h. search tests)) in
    grind (arith, c.unwrap_or.ensures, at)
