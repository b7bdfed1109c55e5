-- What the answers of the code say of a model's product, and the bounds of every number in use in a valid model. Assumes nothing.
use mathlib.Core.Bool.{Bool, true}
use mathlib.Core.Option.{Option, none, some}
use mathlib.Core.Path.{◌≡◌, refl, sym, ◌∙◌, subst}
use Prim.Native.Nat.{ℕ, ◌*◌, ◌<◌, ◌≤◌}
use native.Mathlib.Nat.{mul-le-mul_left, mul-le-mul_right, le_trans}
use lib.Dec.{T}
use Rattle.product.specs.Product.{Step}
use Rattle.product.proofs.Lists.{up_to_lt}
use Rattle.model.specs.declared.Model.{Model}
use Rattle.model.specs.Model.{product_of}
use Rattle.model.specs.Answers.{next_as, landed}
use Rattle.model.specs.Valid.{valid}
use Rattle.model.proofs.Valid.{Sizes, valid_sizes, product_in_lem}

pub landed_as : (o : Option ℕ) → landed (next_as o) ≡ o
landed_as none = refl
landed_as (some q) = refl

-- the answer of the test
pub is_valid : (m : Model) {b : Bool} → b ≡ valid m → b ≡ true → T (valid m)
is_valid m e y = subst T (sym y ∙ e) tt

module _ (m : Model) (t : T (valid m)) where
  pub start_state_in : m.startstate < m.states
  start_state_in = up_to_lt m.states m.startstate (product_in_lem m t).state_in

  pub start_symbol_in : m.startsymbol < m.symbols
  start_symbol_in = (product_in_lem m t).symbol_in

  -- both ends of a step
  pub step_in : (s : Step) (q q' : ℕ) → (product_of m).next s q ≡ some q' → (q < m.states) × (q' < m.states)
  step_in s q q' e =
      let (_, _, i, j) = (product_in_lem m t).steps_in s q q' e in
      (up_to_lt m.states q i, up_to_lt m.states q' j)

  -- how many heads and triples there are at most
  pub few_heads : m.states * m.symbols ≤ 256
  few_heads = let z : Sizes m = valid_sizes m t in le_trans (mul-le-mul_left m.states z.symbols) (mul-le-mul_right 32 z.states)

  pub few_triples : m.states * m.symbols * m.states ≤ 2048
  few_triples = le_trans (mul-le-mul_left (m.states * m.symbols) (valid_sizes m t).states) (mul-le-mul_right 8 few_heads)
