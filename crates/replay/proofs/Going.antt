-- Whether a stored step goes from a state with a symbol on top, as the code tests it. Assumes nothing.
use mathlib.Core.Bool.{Bool, true, false, cond}
use mathlib.Core.List.{List, ◌∷◌}
use mathlib.Core.Option.{Option, none, some}
use mathlib.Core.Path.{◌≡◌, refl, sym, ap, ◌∙◌}
use Prim.Native.Nat.{ℕ}
use lib.Dec.{eqb}
use Rattle.product.specs.Product.{Product, symbol, Step, rule_of}
use Rattle.product.specs.Runs.{replaced, step}
use Rattle.product.proofs.Closed.{none_some}
use Rattle.model.specs.declared.Rule.{Rule}
use Rattle.std.specs.Prelude as code
use Rattle.std.specs.Prelude.{None}
use Rattle.model.specs.Answers.{rule_as, meant, next_as, landed}
use Rattle.model.proofs.Answers.{meant_as}
use Rattle.model.proofs.Bounds.{landed_as}
use Rattle.replay.specs.Machine.{goes_at}

some_cond : (b : Bool) (o : Option ℕ) {q : ℕ} → cond b o none ≡ some q → o ≡ some q
some_cond true o e = e
some_cond false o e = none_some e

module _ (p : Product) (s : Step) (q g : ℕ) where
  abbrev answer : code.Option ℕ
  answer = next_as (goes_at p s q g)

  module _ {ρ : Rule} {b : Bool} (read : ρ ≡ rule_as (rule_of p s)) (tested : b ≡ eqb (symbol (meant ρ)) g) where
    on_top : b ≡ eqb (symbol (rule_of p s)) g
    on_top = tested ∙ ap (λ (ρ : Rule). eqb (symbol (meant ρ)) g) read ∙ ap (λ ρ. eqb (symbol ρ) g) (meant_as (rule_of p s))

    pub other_top : b ≡ false → None ≡ answer
    other_top n = rw (sym on_top ∙ n)

    pub its_top : b ≡ true → {n : code.Option ℕ} → n ≡ next_as (p.next s q) → n ≡ answer
    its_top f e = rw (sym on_top ∙ f) e

  -- the answer of the code, and the product's step
  pub went : {n n' : code.Option ℕ} → n ≡ answer → n ≡ n' → goes_at p s q g ≡ landed n'
  went e told = sym (landed_as (goes_at p s q g)) ∙ ap landed (sym e ∙ told)

  pub goes_next : {q' : ℕ} → goes_at p s q g ≡ some q' → p.next s q ≡ some q'
  goes_next e = some_cond (eqb (symbol (rule_of p s)) g) (p.next s q) e

  pub step_goes : (w : List ℕ) → step p s (q, g ∷ w) ≡ replaced (rule_of p s) w (goes_at p s q g)
  unfolding step
  step_goes w = go (eqb (symbol (rule_of p s)) g)
    where
      go : (b : Bool) → cond b (replaced (rule_of p s) w (p.next s q)) none ≡ replaced (rule_of p s) w (cond b (p.next s q) none)
      go true = refl
      go false = refl
