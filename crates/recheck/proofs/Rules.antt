-- A rule is closed by matrices exactly if it is with every move; and the first rule that is not has the first move that is not. Assumes nothing.
use mathlib.Core.Bool.{Bool, true, false, not}
use mathlib.Core.List.{List, [], ◌∷◌}
use mathlib.Core.Option.{Option, none, some}
use mathlib.Core.Path.{◌≡◌, refl, sym, ap, ◌∙◌, subst, subst⁻¹}
use Prim.Native.Nat.{ℕ, ◌%◌, ◌+◌, ◌<◌, ◌≤◌}
use native.Mathlib.Nat.{mod-eq_of_lt}
use native.Mathlib.Omega.{arith}
use lib.Dec.{T}
use lib.ListN.{length, get_or}
use borrow.Author.Count.{below_more}
use Rattle.std.specs.Prelude as code
use Rattle.product.specs.Lists.{up_to, over, each, all, find}
use Rattle.product.specs.Product.{symbol, Step}
use Rattle.product.specs.Facts.{Fact, head, triple}
use Rattle.product.proofs.Lists.{all_of, All-up_to, find_none, T_true}
use Rattle.bits.specs.Matrix.{mat, mats}
use Rattle.culprit.proofs.First.{find_over, find_here, first_idle}
use Rattle.table.specs.declared.Size.{Size}
use Rattle.model.specs.declared.Model.{Model}
use Rattle.model.specs.declared.Rule.{Rule}
use Rattle.model.specs.Answers.{rule_as, meant}
use Rattle.model.specs.Model.{product_of, rule}
use Rattle.model.specs.Valid.{valid}
use Rattle.model.proofs.Answers.{meant_as}
use Rattle.model.proofs.Counted.{passed, failed}
use Rattle.model.proofs.Valid.{all_below, valid_sizes, product_in_lem}
use Rattle.steps.specs.Steps.{class_of, class_steps}
use Rattle.steps.proofs.Laws.{class_of_lem, steps_in, steps_lt, step_entry, entry_step}
use Rattle.table.specs.Looked.{in_table}
use Rattle.kept.specs.Kept.{next_kept, rule_kept}
use Rattle.kept.proofs.Ways.{all_each}
use Rattle.closed.specs.Closed.{of_symbol, rule_closed}
use Rattle.closed.proofs.Kept.{Has, closed_exactly}
use Rattle.table.specs.Cells.{head_count, triple_count}
use Rattle.fitting.specs.Fits.{size_of}
use Rattle.recheck.specs.Recheck.{Sized}
use Rattle.recheck.specs.Tests.{step_kept, steps_kept, step, is_closed, is_open, closed_by, FirstOpen, opening_of, found_as}
use Rattle.recheck.proofs.Finding.{hit, miss}
use Rattle.recheck.proofs.Matrices.{triple_in_lem}

-- a test that the code turns about
pub open_if : (b : Bool) → true ≡ not b → b ≡ false
open_if false e = refl
open_if true e = e

pub kept_if : (b : Bool) → false ≡ not b → T b
kept_if true e = tt
kept_if false e = subst⁻¹ T e tt

-- what the code was answered of rule r
module _ (m : Model) (tg ts hs : List ℕ) (r : ℕ) {c : ℕ} {ρ : Rule} {b : Bool} (class : c ≡ class_of m r) (read : ρ ≡ rule_as (rule m r))
    (tested : b ≡ rule_closed ts hs (get_or tg c 0) (meant ρ)) where
  pub by_matrices : b ≡ closed_by m tg ts hs r
  unfolding closed_by
  by_matrices = tested ∙ ap (λ c. rule_closed ts hs (get_or tg c 0) (meant ρ)) class ∙ ap (rule_closed ts hs (get_or tg (class_of m r) 0)) (ap meant read ∙ meant_as (rule m r))

  pub opens_here : (n : ℕ) → r < n → ((j : ℕ) → j < r → T (closed_by m tg ts hs j)) → b ≡ false → FirstOpen (closed_by m tg ts hs) n (code.Some r)
  opens_here n l k h = (l, failed by_matrices h, k)

  pub closed_more : ((j : ℕ) → j < r → T (closed_by m tg ts hs j)) → b ≡ true → (j : ℕ) → j < r + 1 → T (closed_by m tg ts hs j)
  closed_more k h = below_more (λ j. T (closed_by m tg ts hs j)) r k (rw (passed by_matrices h) tt)

pub all_closed : (p : ℕ → Bool) (n r : ℕ) → r ≤ n → n ≤ r → ((j : ℕ) → j < r → T (p j)) → FirstOpen p n code.None
all_closed p n r i l k = λ j h. k j (omega arith)

-- the matrices that the code made are those of the facts
module _ (m : Model) (v : T (valid m)) (heads triples : List ℕ) where
  abbrev t : Fact → Bool
  t = in_table (size_of m) heads triples

  abbrev tg : List ℕ
  tg = class_steps m

  low : (g : ℕ) → g < m.symbols → g % 32 ≡ g
  low g l = let z = valid_sizes m v in mod-eq_of_lt (omega (arith, l, z.symbols))

  module _ (ts hs : List ℕ) (as-triples : (g : ℕ) → g < m.symbols → (q e : ℕ) → mats ts g q e ≡ t (triple q g e)) (as-heads : (g : ℕ) → g < m.symbols → (q : ℕ) → mats hs g 0 q ≡ t (head q g)) where
    has : Has m.symbols m.states t ts hs
    unfolding of_symbol
    has = record {
      triples = λ g q e l. ap (λ n. mat (get_or ts n 0) q e) (low g l) ∙ as-triples g l q e;
      heads = λ g q l. ap (λ n. mat (get_or hs n 0) 0 q) (low g l) ∙ as-heads g l q;
      ends = λ q g e x. (triple_in_lem m.symbols m.states triples q g e x).1;
    }

    module _ (r : ℕ) (l : r < m.rules) where
      abbrev has_kept : ℕ → Bool
      has_kept w = is_closed (product_of m) m.states t (step r w)

      abbrev kept_from : (w q : ℕ) → Bool
      kept_from w q = step_kept (product_of m) m.states t r w q

      abbrev mine : ℕ
      mine = get_or tg (class_of m r) 0

      -- rule r by the matrix of its class
      exactly : T (closed_by m tg ts hs r) → (q q' : ℕ) → T (mat mine q q') → T (rule_kept m.states t q q' (rule m r))
      unfolding closed_by
      exactly = let (i, j) = (product_in_lem m v).rules_in r l in
          (closed_exactly m.symbols m.states t ts hs has mine (steps_lt m (class_of m r)) (rule m r) i j).0

      exactly_back : ((q q' : ℕ) → T (mat mine q q') → T (rule_kept m.states t q q' (rule m r))) → T (closed_by m tg ts hs r)
      unfolding closed_by
      exactly_back = let (i, j) = (product_in_lem m v).rules_in r l in
          (closed_exactly m.symbols m.states t ts hs has mine (steps_lt m (class_of m r)) (rule m r) i j).1

      by_class : (q q' : ℕ) → mats tg (class_of m r) q q' ≡ mats tg (symbol (rule m r)) q q'
      by_class q q' = ap (λ c. mats tg c q q') (sym (class_of_lem m v r l))

      pub moves_closed : T (closed_by m tg ts hs r) → (w : ℕ) → w < m.moves → T (has_kept w)
      moves_closed c w i =
          all_of (λ q. T (kept_from w q)) (kept_from w) (λ _ x. x) (up_to m.states) (All-up_to (λ q. T (kept_from w q)) m.states
          (λ q _. go q ((product_of m).next (step r w) q) refl))
        where
          go : (q : ℕ) (o : Option ℕ) → (product_of m).next (step r w) q ≡ o → T (next_kept m.states t q (rule m r) o)
          go q none e = tt
          go q (some q') e = exactly c q q' (subst⁻¹ T (by_class q q') (step_entry m v r l w q q' e))

      pub closed_moves : ((w : ℕ) → w < m.moves → T (has_kept w)) → T (closed_by m tg ts hs r)
      closed_moves k = exactly_back λ q q' x.
          let y = subst T (by_class q q') x in
          let (w, i, e) = entry_step m v r l q q' y in
          subst (λ o. T (next_kept m.states t q (rule m r) o)) e
          (all_below (kept_from w) m.states (k w i) q (steps_in m v (symbol (rule m r)) q q' y).0)

      abbrev closed_with : Step → Bool
      closed_with = is_closed (product_of m) m.states t

      abbrev tried : List Step
      tried = each (up_to m.moves) (step r)

      each_is : all closed_with tried ≡ all has_kept (up_to m.moves)
      each_is = all_each closed_with (up_to m.moves) (step r)

      -- no move of a closed rule is open
      none_open : T (closed_by m tg ts hs r) → find (λ s. not (closed_with s)) tried ≡ none
      none_open c =
          find_none closed_with tried (subst⁻¹ T each_is
          (all_of (λ w. T (has_kept w)) has_kept (λ _ x. x) (up_to m.moves) (All-up_to (λ w. T (has_kept w)) m.moves (moves_closed c))))

      -- the first move that is not closed is that of the first open step of the rule
      first_move : (w : ℕ) → w < m.moves → has_kept w ≡ false → ((j : ℕ) → j < w → T (has_kept j)) → find (λ s. not (closed_with s)) tried ≡ some (step r w)
      first_move w i n k =
          find_here (λ s. not (closed_with s)) (λ w. step r w ∷ []) m.moves w (step r w) i
          (find_over (λ s. not (closed_with s)) w (λ w. step r w ∷ [])
          ∙ first_idle (λ w. find (λ s. not (closed_with s)) (step r w ∷ [])) w (λ j x. miss closed_with (step r j) refl (T_true (has_kept j) (k j x))))
          (hit closed_with (step r w) refl n)

    -- the first rule that is not closed, by matrices, is that of the first open step
    module _ {made : List ℕ} (is : made ≡ tg) where
      abbrev open_step : Step → Bool
      open_step = is_open (product_of m) m.states t

      none_before : (k : ℕ) → k ≤ m.rules → ((r : ℕ) → r < k → T (closed_by m made ts hs r)) → find open_step (over (up_to k) (λ r. each (up_to m.moves) (step r))) ≡ none
      none_before k l h =
          find_over open_step k (λ r. each (up_to m.moves) (step r))
          ∙ first_idle (λ r. find open_step (each (up_to m.moves) (step r))) k (λ r i. none_open r (omega arith) (subst (λ tg. T (closed_by m tg ts hs r)) is (h r i)))

      pub nowhere_open : ((r : ℕ) → r < m.rules → T (closed_by m made ts hs r)) → code.None ≡ found_as (opening_of m t)
      nowhere_open h = sym (ap found_as (none_before m.rules (omega arith) h))

      module _ (k : ℕ) (l : k < m.rules) where
        pub first_open : ((r : ℕ) → r < k → T (closed_by m made ts hs r)) → (w : ℕ) → w < m.moves → has_kept k l w ≡ false → ((j : ℕ) → j < w → T (has_kept k l j))
            → code.Some (record { rule = k; by = w }) ≡ found_as (opening_of m t)
        first_open h w i n b =
            sym (ap found_as (find_here open_step (λ r. each (up_to m.moves) (step r)) m.rules k (step k w) l (none_before k (omega arith) h) (first_move k l w i n b)))

        pub some_open : closed_by m made ts hs k ≡ false → ((w : ℕ) → w < m.moves → T (has_kept k l w)) → ⊥
        some_open n b = subst T n (subst⁻¹ (λ tg. T (closed_by m tg ts hs k)) is (closed_moves k l b))

-- the same by the size and the numbers that were read
module _ (m : Model) (v : T (valid m)) (heads triples : List ℕ) (z : Size) (size_is : z ≡ size_of m) (ts hs : List ℕ) where
  abbrev pub Seen : Size → Type 0
  Seen z =
      ((g : ℕ) → g < z.symbols → (q e : ℕ) → mats ts g q e ≡ in_table z heads triples (triple q g e))
      × ((g : ℕ) → g < z.symbols → (q : ℕ) → mats hs g 0 q ≡ in_table z heads triples (head q g))

  abbrev kept_in : Size → (r w : ℕ) → Bool
  kept_in z = steps_kept (product_of m) z.states (in_table z heads triples)

  module _ (seen : Seen z) {n : ℕ} (rules_are : n ≡ m.rules) {made : List ℕ} (is : made ≡ class_steps m) where
    pub nowhere_at : ((r : ℕ) → r < n → T (closed_by m made ts hs r)) → code.None ≡ found_as (opening_of m (in_table z heads triples))
    nowhere_at h =
        subst⁻¹ (λ z. Seen z → code.None ≡ found_as (opening_of m (in_table z heads triples))) size_is
        (λ (a, b). nowhere_open m v heads triples ts hs a b is (λ r l. h r (omega arith))) seen

    module _ (k : ℕ) (l : k < n) {moves : ℕ} (moves_are : moves ≡ m.moves) where
      pub first_at : ((r : ℕ) → r < k → T (closed_by m made ts hs r)) → (w : ℕ) → w < moves → kept_in z k w ≡ false → ((j : ℕ) → j < w → T (kept_in z k j))
          → code.Some (record { rule = k; by = w }) ≡ found_as (opening_of m (in_table z heads triples))
      first_at h w i n b =
          subst⁻¹ (λ z. Seen z → kept_in z k w ≡ false → ((j : ℕ) → j < w → T (kept_in z k j)) → code.Some (record { rule = k; by = w }) ≡ found_as (opening_of m (in_table z heads triples)))
          size_is (λ (a, c). first_open m v heads triples ts hs a c is k (omega arith) h w (omega arith)) seen n b

      pub some_at : closed_by m made ts hs k ≡ false → ((w : ℕ) → w < moves → T (kept_in z k w)) → ⊥
      some_at n b =
          subst⁻¹ (λ z. Seen z → ((w : ℕ) → w < moves → T (kept_in z k w)) → ⊥) size_is
          (λ (a, c) b. some_open m v heads triples ts hs a c is k (omega arith) n (λ w i. b w (omega arith))) seen b

-- what the search asks, number by number
pub fits : {m : Model} {z : Size} {hs ts : List ℕ} → Sized m z hs ts
    → (z.symbols ≤ 32) × (z.states ≤ 8) × (head_count z.symbols z.states ≤ length hs) × (triple_count z.symbols z.states ≤ length ts)
fits {m} {z} {hs} {ts} f =
    let s = valid_sizes m f.fits.valid_model in
    subst⁻¹ (λ (z : Size). (z.symbols ≤ 32) × (z.states ≤ 8) × (head_count z.symbols z.states ≤ length hs) × (triple_count z.symbols z.states ≤ length ts))
    f.size_is (s.symbols, s.states, f.fits.heads_there, f.fits.triples_there)
