-- A valid model's own rules, with the matrices of its classes, hold its product. Assumes nothing.
use mathlib.Core.List.{List}
use mathlib.Core.Path.{◌≡◌, refl, sym, ap₂, ◌∙◌, subst, subst⁻¹}
use Prim.Native.Nat.{ℕ, ◌<◌}
use native.Mathlib.Omega.{arith}
use lib.Dec.{T, eqb_refl}
use Rattle.product.specs.Lists.{up_to}
use Rattle.product.specs.Product.{symbol}
use Rattle.product.proofs.Lists.{any_of, in_up_to, same_truth}
use Rattle.model.specs.declared.Model.{Model}
use Rattle.model.specs.Model.{rule, product_of}
use Rattle.model.specs.Valid.{valid}
use Rattle.model.proofs.Valid.{valid_sizes}
use Rattle.steps.specs.Steps.{class_steps}
use Rattle.steps.proofs.Laws.{step_entry, entry_step, steps_in}
use Rattle.steps.proofs.Rows.{LiesIn, symbol_is, class_lt, row_lent}
use Rattle.relations.specs.Relations.{goes, steps}
use Rattle.relations.proofs.Made.{of_steps}
use Rattle.bits.specs.Matrix.{mats}
use Rattle.decide.specs.Frame.{Frame}

module _ (m : Model) (v : T (valid m)) where
  -- THE STEPS of a rule are those of its class
  class_steps_lem : (r : ℕ) → r < m.rules → (q q' : ℕ) → steps (product_of m) r q q' ≡ mats (class_steps m) (symbol (rule m r)) q q'
  class_steps_lem r l q q' = same_truth (steps (product_of m) r q q') (mats (class_steps m) (symbol (rule m r)) q q') to from
    where
      to : T (steps (product_of m) r q q') → T (mats (class_steps m) (symbol (rule m r)) q q')
      to t = let (w, e) = of_steps (product_of m) r q q' t in step_entry m v r l w q q' e

      from : T (mats (class_steps m) (symbol (rule m r)) q q') → T (steps (product_of m) r q q')
      from t =
          let (w, i, e) = entry_step m v r l q q' t in
          any_of (λ w. goes ((product_of m).next (record { by_rule = r; by_move = w }) q) q') (up_to m.moves) w (in_up_to m.moves w i) (subst⁻¹ (λ o. T (goes o q')) e (eqb_refl q'))

module _ (m : Model) (v : T (valid m)) {cells : List ℕ} (same : LiesIn cells m) where
  pub model_frame : {tg : List ℕ} → tg ≡ class_steps m → Frame (product_of m) m.states cells tg
  model_frame tg-is = record {
    few_states = (valid_sizes m v).states;
    few_rules = (valid_sizes m v).rules;
    states_are = refl;
    rules_are = row_lent m v same;
    class_in = λ r l. omega (arith, class_lt m v same r l);
    steps_are = λ r q q' l. class_steps_lem m v r l q q' ∙ ap₂ (λ t g. mats t g q q') (sym tg-is) (symbol_is m v same r l);
    steps_in = λ c q q' t. steps_in m v c q q' (subst (λ l. T (mats l c q q')) tg-is t);
  }
