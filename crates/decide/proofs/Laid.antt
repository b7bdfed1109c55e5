-- The two arrays that the ranks were laid out in hold the ranks. Assumes nothing.
use mathlib.Core.Bool.{Bool, true, false}
use mathlib.Core.List.{List, ◌++◌}
use mathlib.Core.Path.{◌≡◌, refl}
use Prim.Native.Nat.{ℕ}
use lib.Dec.{T}
use Rattle.product.specs.Facts.{Fact, head, triple}
use Rattle.product.specs.Rounds.{held}
use Rattle.product.specs.Table.{absent, ranks}
use Rattle.product.proofs.Lists.{up_to_lt}
use Rattle.product.proofs.Range.{Within, held_within}
use Rattle.product.proofs.Ranks.{ranks_absent}
use Rattle.table.specs.Cells.{view, heads_of, triples_of}
use Rattle.table.proofs.Cells.{head_inside, triple_inside}
use Rattle.table.proofs.ReadBack.{read_back}
use Rattle.model.specs.declared.Model.{Model}
use Rattle.model.specs.Model.{product_of}
use Rattle.model.specs.Valid.{valid}
use Rattle.model.proofs.Valid.{product_in_lem}

module _ (m : Model) (v : T (valid m)) (n : ℕ) where
  -- a fact with a number out of range has no rank
  outside : (f : Fact) → (Within (product_of m) f → ⊥) → ranks (product_of m) n f ≡ absent
  outside f h = go (held (product_of m) n f) refl
    where
      go : (b : Bool) → held (product_of m) n f ≡ b → ranks (product_of m) n f ≡ absent
      go true e = absurd (h (held_within (product_of m) (product_in_lem m v) n f (rw e tt)))
      go false e = ranks_absent (product_of m) n f e

  pub ranks_laid : (hs ts : List ℕ)
      → view m.symbols m.states (heads_of m.symbols m.states (ranks (product_of m) n) ++ hs) (triples_of m.symbols m.states (ranks (product_of m) n) ++ ts)
      ≡ ranks (product_of m) n
  ranks_laid =
      read_back m.symbols m.states (ranks (product_of m) n)
      (λ q g b. outside (head q g) (λ (i, j). b (rw (head_inside (up_to_lt m.states q i) j) tt)))
      (λ q g e b. outside (triple q g e) (λ (i, j, k). b (rw (triple_inside (up_to_lt m.states q i) j (up_to_lt m.states e k)) tt)))
