-- The answers of the code and the rules and states that they mean. Assumes nothing.
use mathlib.Core.Bool.{Bool, true, false}
use mathlib.Core.List.{List}
use mathlib.Core.Path.{◌≡◌, refl, sym, ap, ◌∙◌, subst}
use Prim.Native.Nat.{ℕ}
use borrow.Author.Tests.{eq-eqb, ne_eqb}
use Rattle.product.specs.Product as product
use Rattle.product.specs.Product.{exit, direct, call, symbol}
use Rattle.model.specs.declared.Rule.{Rule}
use Rattle.model.specs.declared.Rule.TheVariants.{Exit, Direct, Call}
use Rattle.model.specs.declared.Move.{Move}
use Rattle.std.specs.Prelude.{Some, None}
use Rattle.model.specs.Model.{in_row, rule_at, move_at, shows_at, fits_at, next_at}
use Rattle.model.specs.Answers.{rule_as, meant, next_as}

pub meant_as : (ρ : product.Rule) → meant (rule_as ρ) ≡ ρ
meant_as (exit g) = refl
meant_as (direct g g1) = refl
meant_as (call g g1 g2) = refl

-- the rule of row r, by the numbers that were read there
module _ (rows : List ℕ) (r : ℕ) {k g : ℕ} (kind : k ≡ in_row 4 rows r 0) (first : g ≡ in_row 4 rows r 1) where
  pub is_exit : k ≡ 0 → Exit g ≡ rule_as (rule_at rows r)
  is_exit z = rw (sym kind ∙ z) (ap Exit first)

  pub is_direct : {g1 : ℕ} → g1 ≡ in_row 4 rows r 2 → k ≡ 1 → Direct g g1 ≡ rule_as (rule_at rows r)
  is_direct second z = rw (sym kind ∙ z, first, second)

  pub is_call : {g1 g2 : ℕ} → g1 ≡ in_row 4 rows r 2 → g2 ≡ in_row 4 rows r 3 → (k ≡ 0 → ⊥) → (k ≡ 1 → ⊥) → Call g g1 g2 ≡ rule_as (rule_at rows r)
  is_call second third y z = rw (ne_eqb (in_row 4 rows r 0) 0 (λ e. y (kind ∙ e)), ne_eqb (in_row 4 rows r 0) 1 (λ e. z (kind ∙ e)), first, second, third)

-- the state after a step, by the move, the symbol and what it shows that were read
module _ (rulerows moverows : List ℕ) (shows : List Bool) (r v q : ℕ) {μ : Move} (by : μ ≡ move_at moverows v) where
  pub is_elsewhere : (μ.source ≡ q → ⊥) → None ≡ next_as (next_at rulerows moverows shows r v q)
  is_elsewhere n = rw (ne_eqb (move_at moverows v).source q (λ e. n (ap (λ (x : Move). x.source) by ∙ e)))

  module _ {ρ : Rule} {g : ℕ} {b : Bool} (here : μ.source ≡ q) (read : ρ ≡ rule_as (rule_at rulerows r)) (top : g ≡ symbol (meant ρ)) (seen : b ≡ shows_at shows g μ.event) where
    fits_as : fits_at (rule_at rulerows r) (move_at moverows v) shows q ≡ b
    fits_as =
        let s : g ≡ symbol (rule_at rulerows r) = top ∙ ap (λ (x : Rule). symbol (meant x)) read ∙ ap symbol (meant_as (rule_at rulerows r)) in
        subst (λ (μ : Move). fits_at (rule_at rulerows r) μ shows q ≡ b) by
        (rw (eq-eqb μ.source q here) (sym (seen ∙ ap (λ (g : ℕ). shows_at shows g μ.event) s)))

    pub is_unseen : b ≡ false → None ≡ next_as (next_at rulerows moverows shows r v q)
    is_unseen n = rw (fits_as ∙ n)

    pub is_step : b ≡ true → Some μ.target ≡ next_as (next_at rulerows moverows shows r v q)
    is_step y = rw (fits_as ∙ y, by)
