-- One step of the machine: what it asks of the lent cells, and the outcome that it comes to. Assumes nothing.
use mathlib.Core.Bool.{Bool, cond}
use mathlib.Core.List.{List, ◌∷◌, ◌++◌}
use mathlib.Core.Option.{none, some}
use mathlib.Core.Path.{◌≡◌, refl, sym, ap, ◌∙◌, subst}
use Prim.Native.Nat.{ℕ, zero, suc, ◌+◌, ◌-◌, ◌<◌, ◌≤◌}
use native.Mathlib.Omega.{arith}
use lib.ListN.{length, get_or, length-append}
use Rattle.product.specs.Product as product
use Rattle.product.specs.Product.{exit, direct, call, pushed, Product, Step, rule_of}
use Rattle.product.specs.Lists.{All}
use Rattle.product.specs.Runs.{State, replaced, step}
use Rattle.model.specs.declared.Rule.{Rule}
use Rattle.std.specs.Prelude.{Option, Some, None}
use Rattle.model.specs.Answers.{rule_as, meant, next_as}
use Rattle.model.proofs.Answers.{meant_as}
use Rattle.replay.specs.declared.Outcome.{Outcome}
use Rattle.replay.specs.declared.Outcome.TheVariants.{Moved, Blocked, Arrived}
use Rattle.replay.specs.Machine.{below, Room, Replaced, goes_at, Ready, Stepped}
use Rattle.replay.proofs.Stack.{length_below}
use Rattle.replay.proofs.Going.{went, goes_next, step_goes}

few_pushed : (ρ : product.Rule) → length (pushed ρ) ≤ 2
few_pushed (exit g) = omega arith
few_pushed (direct g g1) = omega arith
few_pushed (call g g1 g2) = omega arith

-- the stack with its top apart
below_top : (cells : List ℕ) (depth : ℕ) → 1 ≤ depth → below cells depth ≡ get_or cells (depth - 1) 0 ∷ below cells (depth - 1)
below_top cells zero t = absurd (omega arith)
below_top cells (suc d) t = let e : suc d - 1 ≡ d = omega arith in rw e

module _ (p : Product) (number depth : ℕ) (s : Step) (c : State) (cells : List ℕ) where
  -- nothing is written where there is no step
  stays : step p s c ≡ none → Stepped p number depth s c cells (Blocked number) cells
  stays e = record { came = rw e; held = rw e tt; rest = λ k h. refl }

  -- the machine after a step
  reaches : (q : ℕ) (gs cells' : List ℕ) {d : ℕ} → 1 ≤ depth → length gs ≤ 2 → step p s c ≡ some (q, gs ++ below cells (depth - 1)) → Replaced depth gs cells d cells'
      → (b : Bool) → p.final q ≡ b → Stepped p number depth s c cells (cond b (Arrived (record { state = q; depth = d })) (Moved (record { state = q; depth = d }))) cells'
  reaches q gs cells' {d} t few e r b f =
      let w : List ℕ = gs ++ below cells (depth - 1) in
      let l : length w ≡ length gs + (depth - 1) = length-append gs (below cells (depth - 1)) ∙ ap (λ (n : ℕ). length gs + n) (length_below cells (depth - 1)) in
      let i : d ≡ length w = omega (arith, r.deep) in
      record {
        came = rw (e, f, i);
        held = rw e (ap (below cells') (sym i) ∙ r.stack, omega arith);
        rest = r.rest;
      }

module _ {p : Product} {cells : List ℕ} {depth : ℕ} (ready : Ready p cells depth) (s : Step) (number q : ℕ) where
  abbrev Done : Outcome → List ℕ → Type 0
  Done o cells' = Stepped p number depth s (q, below cells depth) cells o cells'

  abbrev top : ℕ
  top = get_or cells (depth - 1) 0

  -- any step over the empty stack is bad
  pub empty : depth ≡ 0 → Done (Blocked number) cells
  unfolding step
  empty e = stays p number depth s (q, below cells depth) cells (rw e)

  module _ (some_top : 1 ≤ depth) {n : Option ℕ} (answer : n ≡ next_as (goes_at p s q top)) where
    by_top : step p s (q, below cells depth) ≡ replaced (rule_of p s) (below cells (depth - 1)) (goes_at p s q top)
    by_top = ap (λ w. step p s (q, w)) (below_top cells depth some_top) ∙ step_goes p s q top (below cells (depth - 1))

    pub stuck : n ≡ None → Done (Blocked number) cells
    stuck e = stays p number depth s (q, below cells depth) cells (by_top ∙ ap (replaced (rule_of p s) (below cells (depth - 1))) (went p s q top answer e))

    module _ {q' : ℕ} (to : n ≡ Some q') {ρ : Rule} (read : ρ ≡ rule_as (rule_of p s)) where
      goes : goes_at p s q top ≡ some q'
      goes = went p s q top answer to

      rule_is : rule_of p s ≡ meant ρ
      rule_is = sym (ap meant read ∙ meant_as (rule_of p s))

      pub top_room : Room cells depth (pushed (meant ρ))
      top_room = record {
        some_top = some_top;
        some_cell = ready.room;
        bytes = subst (λ ρ. All (λ g. g < 256) (pushed ρ)) rule_is (ready.symbols s q q' (goes_next p s q top goes));
      }

      pub stepped : {d : ℕ} {cells' : List ℕ} → Replaced depth (pushed (meant ρ)) cells d cells' → {b : Bool} → b ≡ p.final q' → (b' : Bool) → b ≡ b'
          → Done (cond b' (Arrived (record { state = q'; depth = d })) (Moved (record { state = q'; depth = d }))) cells'
      stepped {d} {cells'} r f b' e =
          reaches p number depth s (q, below cells depth) cells q' (pushed (meant ρ)) cells' some_top (few_pushed (meant ρ))
          (by_top ∙ ap (replaced (rule_of p s) (below cells (depth - 1))) goes ∙ ap (λ ρ. some (q', pushed ρ ++ below cells (depth - 1))) rule_is) r b' (sym f ∙ e)
