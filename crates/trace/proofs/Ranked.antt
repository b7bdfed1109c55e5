-- In a table of ranks the facts of rank at most k are those held after round k, so that the search finds the product's explanations. Assumes nothing.
use mathlib.Core.Bool.{Bool, true, false}
use mathlib.Core.List.{List}
use mathlib.Core.Path.{◌≡◌, refl, ap, ◌∙◌, fun_ext}
use Prim.Native.Nat.{ℕ, suc, ◌<◌}
use native.Mathlib.Omega.{arith}
use lib.Dec.{T, ltb, ltb→lt, lt→ltb}
use Rattle.product.specs.Lists.{find}
use Rattle.product.specs.Product.{Product}
use Rattle.product.specs.Facts.{Fact, head, triple, same, first, ways}
use Rattle.product.specs.Rounds.{works, held}
use Rattle.product.specs.Table.{absent, ranks}
use Rattle.product.proofs.Lists.{same_truth, up_to_lt}
use Rattle.product.proofs.Rounds.{grown_up}
use Rattle.product.proofs.Ranks.{ranks_rank, ranks_absent}
use Rattle.product.proofs.Range.{held_within}
use Rattle.model.specs.declared.Model.{Model}
use Rattle.model.specs.Model.{product_of}
use Rattle.model.specs.Valid.{valid}
use Rattle.model.proofs.Valid.{product_in_lem}
use Rattle.table.specs.Cells.{view}
use Rattle.explain.specs.Search.{lower, why_in}
use Rattle.trace.specs.Unfold.{Explains}
use Rattle.explain.proofs.Explained.{StatesIn, searched_ways}

pub ranks_lower : (p : Product) (n k : ℕ) → k < n → n < absent → lower (ranks p n) (suc k) ≡ held p k
ranks_lower p n k l s = fun_ext λ d. same_truth (ltb (ranks p n d) (suc k)) (held p k d) (λ t. down d (held p n d) refl (ltb→lt (ranks p n d) (suc k) t)) (up d)
  where
    up : (d : Fact) → T (held p k d) → T (ltb (ranks p n d) (suc k))
    up d t = lt→ltb (ranks p n d) (suc k) (omega (arith, (ranks_rank p n d (grown_up p (same (first p)) k n d (omega arith) t)).1 k t))

    down : (d : Fact) (b : Bool) → held p n d ≡ b → ranks p n d < suc k → T (held p k d)
    down d true e i = grown_up p (same (first p)) (ranks p n d) k d (omega arith) (ranks_rank p n d (rw e tt)).0
    down d false e i = absurd (omega (arith, ranks_absent p n d e))

module _ (m : Model) (t : T (valid m)) (n : ℕ) (small : n < absent) (hs ts : List ℕ) (is : view m.symbols m.states hs ts ≡ ranks (product_of m) n) where
  states_in : (f : Fact) → T (held (product_of m) n f) → StatesIn m.states f
  states_in (head q g) h = up_to_lt m.states q (held_within (product_of m) (product_in_lem m t) n (head q g) h).0
  states_in (triple q g e) h =
      let (i, _, j) = held_within (product_of m) (product_in_lem m t) n (triple q g e) h in
      (up_to_lt m.states q i, up_to_lt m.states e j)

  pub explains_ranked : Explains (product_of m) n (view m.symbols m.states hs ts) (why_in (product_of m) m.symbols m.states hs ts m.rules m.moves)
  explains_ranked = record {
    rank = λ f _. ap (λ u. u f) is;
    way = λ k f l h.
        searched_ways m (lower (view m.symbols m.states hs ts) (suc k)) f (states_in f h)
        ∙ ap (λ (u : Fact → Bool). find (works u f) (ways (product_of m))) (ap (λ u. lower u (suc k)) is ∙ ranks_lower (product_of m) n k l small);
  }
