-- The cells of a lent model and the numbers and truths of its record that they hold. Assumes nothing.
use mathlib.Core.Bool.{Bool, true, false, ◌&&◌}
use mathlib.Core.List.{List}
use mathlib.Core.Path.{◌≡◌, refl, sym, ap, ◌∙◌, subst}
use Prim.Native.Nat.{ℕ, ◌+◌, ◌*◌, ◌<◌, ◌≤◌}
use native.Mathlib.Nat.{min-le_left}
use native.Mathlib.Omega.{arith}
use lib.Dec.{leb, ltb}
use lib.ListN.{length, get_or, drop, length-take, get_or-map, get_or-eq_default}
use lib.Seq.{get_or-take, get_or-drop}
use borrow.Author.Tests.{eq-eqb, ne_eqb, lt-ltb, le-ltb}
use Rattle.product.specs.Lists.{up_to, all}
use Rattle.product.specs.Product.{Step}
use Rattle.model.specs.declared.Model.{Model}
use Rattle.model.specs.declared.Shape.{Shape}
use Rattle.std.specs.Prelude.{Option, None}
use Rattle.model.specs.declared.Move.{Move}
use Rattle.model.specs.Valid.{sizes_in, symbols_in, rule_row_in, move_row_in, valid}
use Rattle.model.specs.Model.{in_row, rule_by, move_at, shown, there, next_at, product_of}
use Rattle.model.specs.Answers.{next_as}
use Rattle.lent.specs.declared.Row.{Row}
use Rattle.lent.specs.Lending.{part, is_true, truths, shape_in, row_in, model_in, next_by}

module _ (cells : List ℕ) (from n : ℕ) where
  -- number i of a part lies at the place p
  pub in_part : (i p : ℕ) → p ≡ from + i → i < n → get_or cells p 0 ≡ get_or (part from n cells) i 0
  in_part i p e l = ap (λ p. get_or cells p 0) e ∙ sym (get_or-take n (drop from cells) i 0 l ∙ get_or-drop from cells i 0)

  pub past_part : (i : ℕ) → n ≤ i → 0 ≡ get_or (part from n cells) i 0
  past_part i l =
      let e = length-take n (drop from cells) in
      let f = min-le_left n (length (drop from cells)) in
      sym (get_or-eq_default (part from n cells) 0 (omega arith))

  truth_part : (i : ℕ) → is_true (get_or (part from n cells) i 0) ≡ get_or (truths (part from n cells)) i false
  unfolding truths
  truth_part i = sym (get_or-map is_true (part from n cells) i 0)

  -- and truth i
  pub in_truths : (i p : ℕ) → p ≡ from + i → i < n → is_true (get_or cells p 0) ≡ get_or (truths (part from n cells)) i false
  in_truths i p e l = ap is_true (in_part i p e l) ∙ truth_part i

  pub past_truths : (i : ℕ) → n ≤ i → false ≡ get_or (truths (part from n cells)) i false
  past_truths i l = ap is_true (past_part i l) ∙ truth_part i

-- the row of rule r
module _ (cells : List ℕ) (r : ℕ) where
  pub no_row : 256 ≤ r → record { kind = 0; symbol = 0; over = 0; under = 0 } ≡ row_in cells r
  no_row l =
      let past : (i : ℕ) → 0 ≡ in_row 4 (part 0 1024 cells) r i = λ i. past_part cells 0 1024 (r * 4 + i) (omega arith) in
      rw (← past 0, ← past 1, ← past 2, ← past 3)

  pub row_cells : r < 256
      → record { kind = get_or cells (r * 4) 0; symbol = get_or cells (r * 4 + 1) 0; over = get_or cells (r * 4 + 2) 0; under = get_or cells (r * 4 + 3) 0 } ≡ row_in cells r
  row_cells l =
      let there : (i p : ℕ) → p ≡ r * 4 + i → i < 4 → get_or cells p 0 ≡ in_row 4 (part 0 1024 cells) r i = λ i p e k. in_part cells 0 1024 (r * 4 + i) p (omega arith) (omega arith) in
      rw (
        ← there 0 (r * 4) (omega arith) (omega arith),
        ← there 1 (r * 4 + 1) refl (omega arith),
        ← there 2 (r * 4 + 2) refl (omega arith),
        ← there 3 (r * 4 + 3) refl (omega arith),
      )

-- a row that was read is in range where the rule is
pub as_read : (cells : List ℕ) (symbols r : ℕ) {w : Row} {b : Bool} → w ≡ row_in cells r
    → b ≡ leb w.kind 2 && symbols_in symbols (rule_by w.kind w.symbol w.over w.under) → b ≡ rule_row_in symbols (part 0 1024 cells) r
as_read cells symbols r e t = t ∙ ap (λ (w : Row). leb w.kind 2 && symbols_in symbols (rule_by w.kind w.symbol w.over w.under)) e

pub move_read : (rows : List ℕ) (states events v : ℕ) {μ : Move} {b : Bool} → μ ≡ move_at rows v
    → b ≡ ltb μ.source states && ltb μ.event events && ltb μ.target states → b ≡ move_row_in states events rows v
move_read rows states events v e t = t ∙ ap (λ (μ : Move). ltb μ.source states && ltb μ.event events && ltb μ.target states) e

-- the tests of a model, by the shape that was read
abbrev tests : Shape → List ℕ → Bool
tests s cells =
    sizes_in s.symbols s.states s.events s.rules s.moves
    && (ltb s.startstate s.states && ltb s.startsymbol s.symbols)
    && all (rule_row_in s.symbols (part 0 1024 cells)) (up_to s.rules)
    && all (move_row_in s.states s.events (part 1024 384 cells)) (up_to s.moves)

pub valid_read : (cells : List ℕ) {s : Shape} {b : Bool} → s ≡ shape_in cells → b ≡ tests s cells → b ≡ valid (model_in cells)
unfolding valid model_in
valid_read cells e t = t ∙ ap (λ (s : Shape). tests s cells) e

-- what a symbol shows
module _ (cells : List ℕ) (g e : ℕ) where
  pub shows_zero : e ≡ 0 → true ≡ shown (model_in cells) g e
  shows_zero z = rw (eq-eqb e 0 z)

  pub shows_cell : (p : ℕ) → (e ≡ 0 → ⊥) → p ≡ 1408 + (g * 16 + e) → g * 16 + e < 512 → is_true (get_or cells p 0) ≡ shown (model_in cells) g e
  unfolding model_in
  shows_cell p z i l = rw (ne_eqb e 0 z) (in_truths cells 1408 512 (g * 16 + e) p i l)

  pub shows_past : (e ≡ 0 → ⊥) → 512 ≤ g * 16 + e → false ≡ shown (model_in cells) g e
  unfolding model_in
  shows_past z l = rw (ne_eqb e 0 z) (past_truths cells 1408 512 (g * 16 + e) l)

-- whether the model has a rule and a move, by the shape that was read
module _ (cells : List ℕ) (r v : ℕ) {s : Shape} (read : s ≡ shape_in cells) where
  pub no_rule : s.rules ≤ r → false ≡ there (model_in cells) (record { by_rule = r; by_move = v })
  unfolding model_in
  no_rule l = rw (le-ltb r (shape_in cells).rules (subst (λ (s : Shape). s.rules ≤ r) read l))

  pub some_rule : r < s.rules → ltb v s.moves ≡ there (model_in cells) (record { by_rule = r; by_move = v })
  unfolding model_in
  some_rule l = rw (lt-ltb r (shape_in cells).rules (subst (λ (s : Shape). r < s.rules) read l), read)

-- the state after rule r and move v, by what is tested first
module _ (m : Model) (r v q : ℕ) where
  abbrev named : Step
  named = record { by_rule = r; by_move = v }

  pub not_there : there m named ≡ false → None ≡ next_as (next_by (product_of m) r v q)
  not_there e = rw e

  pub is_there : {n : Option ℕ} → there m named ≡ true → n ≡ next_as (next_at m.rulerows m.moverows m.shows r v q) → n ≡ next_as (next_by (product_of m) r v q)
  is_there e i = rw e i
