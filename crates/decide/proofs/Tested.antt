-- What the tests of a call say: refusal 6, refusal 7, or that the rounds can run. Assumes nothing.
use mathlib.Core.List.{List}
use mathlib.Core.Path.{◌≡◌, sym, ap, ◌∙◌, subst, subst⁻¹}
use Prim.Native.Nat.{ℕ}
use lib.ListN.{length}
use Rattle.model.specs.declared.Model.{Model}
use Rattle.model.specs.declared.Shape.{Shape}
use Rattle.lent.specs.Lending.{shape_in, of_lent, model_in}
use Rattle.steps.specs.Steps.{class_steps}
use Rattle.fitting.specs.declared.Fit.{Fit}
use Rattle.fitting.specs.Fits.{fit_of, Fits}
use Rattle.fitting.proofs.Tested.{is_unfit, is_well, tested_well}
use Rattle.decide.specs.declared.DecideError.TheVariants.{Refused}
use Rattle.fitting.specs.declared.Unfit.{Unfit}
use Rattle.fitting.specs.declared.Unfit.TheVariants.{Invalid, Short}
use Rattle.std.specs.Prelude.{Ok, Err}
use Rattle.std.specs.Result.{IsErrAnd}
use Rattle.decide.specs.Decided.{Decision, decision, heads_left, triples_left, Decided}
use Rattle.decide.specs.Ran.{Able, Ran}

-- what the model and the arrays were measured as: why they are refused, or what fits
module _ (m : Model) (budget : ℕ) (hs ts : List ℕ) where
  pub refused : (u : Unfit) → Err u ≡ fit_of m (length hs) (length ts) → Decided m budget hs ts (Err (Refused u)) hs ts
  unfolding decision heads_left triples_left
  refused Invalid measured = record {
    answer = sym (is_unfit m (length hs) (length ts) measured _ _ _);
    heads = sym (is_unfit m (length hs) (length ts) measured _ _ _);
    triples = sym (is_unfit m (length hs) (length ts) measured _ _ _);
  }
  refused Short measured = record {
    answer = sym (is_unfit m (length hs) (length ts) measured _ _ _);
    heads = sym (is_unfit m (length hs) (length ts) measured _ _ _);
    triples = sym (is_unfit m (length hs) (length ts) measured _ _ _);
  }

  -- as `?` passes it on
  pub passed_on : (u : Unfit) → Err u ≡ fit_of m (length hs) (length ts) → (r : Decision) → IsErrAnd r (λ e. e ≡ Refused u) → Decided m budget hs ts r hs ts
  passed_on u measured (Err e) n = rw n (refused u measured)
  passed_on u measured (Ok v) n = absurd n

  module _ {f : Fit} (measured : Ok f ≡ fit_of m (length hs) (length ts)) where
    fits : Fits m (length hs) (length ts)
    fits = is_well m (length hs) (length ts) measured

    pub able : Able m hs ts
    able = let w = fits in record { valid_model = w.valid_model; heads_long = w.heads_there; triples_long = w.triples_there }

    pub done : {r : Decision} {hs' ts' : List ℕ} → Ran m budget hs ts r hs' ts' → Decided m budget hs ts r hs' ts'
    unfolding decision heads_left triples_left
    done a = record {
      answer = a.answer ∙ sym (tested_well m (length hs) (length ts) fits _ _ _);
      heads = a.heads ∙ sym (tested_well m (length hs) (length ts) fits _ _ _);
      triples = a.triples ∙ sym (tested_well m (length hs) (length ts) fits _ _ _);
    }

-- the lent model is that of the shape that was read
module _ (cells : List ℕ) {s : Shape} (read : s ≡ shape_in cells) (hs ts : List ℕ) where
  pub able_read : Able (model_in cells) hs ts → Able (of_lent s cells) hs ts
  unfolding model_in
  able_read = subst⁻¹ (λ (s : Shape). Able (of_lent s cells) hs ts) read

  pub ran_read : {budget : ℕ} {r : Decision} {hs' ts' : List ℕ} → Ran (of_lent s cells) budget hs ts r hs' ts' → Ran (model_in cells) budget hs ts r hs' ts'
  unfolding model_in
  ran_read {budget} {r} {hs'} {ts'} = subst (λ (s : Shape). Ran (of_lent s cells) budget hs ts r hs' ts') read

pub steps_read : (cells : List ℕ) {s : Shape} → s ≡ shape_in cells → class_steps (of_lent s cells) ≡ class_steps (model_in cells)
unfolding model_in
steps_read cells read = ap (λ (s : Shape). class_steps (of_lent s cells)) read
