-- What the decision and the table check promise, each line over the two calls' own contracts. Assumes nothing.
use Rattle.std.specs.Prelude.{Ok, Err, List, ◌↔◌, ◌≡◌, ℕ, ◌<◌, ◌≤◌, T}
use Rattle.product.specs.Answer.{answered, accepted}
use Rattle.product.specs.Facts.{Fact}
use Rattle.product.specs.Why.{Why}
use Rattle.product.specs.Verdict.{violating, Verdict, rounds, bound}
use Rattle.product.specs.Demands.{Violates}
use Rattle.model.specs.declared.Model.{Model}
use Rattle.model.specs.Model.{product_of}
use Rattle.decide.specs.declared.Verdict.TheVariants.{Violation, Safe}
use Rattle.decide.specs.declared.DecideError.TheVariants.{Spent}
use Rattle.decide.specs.Decided.{Decision, meaning, Decided}
use Rattle.recheck.specs.Recheck.{recheck}

-- the call was made with this budget, answered r, and left these arrays; the other call likewise
pub record Deciding (m : Model) (hs ts : List ℕ) : Type 0 where
  -- Demand 2. With budget enough, violation is answered exactly if some run from the start reaches a final state, and safe exactly if none does.
  pub violation_exactly : (budget : ℕ) → bound (product_of m) ≤ budget → (r : Decision) (hs' ts' : List ℕ) → Decided m budget hs ts r hs' ts'
      → ((n : ℕ) × (r ≡ Ok (Violation n))) ↔ Violates (product_of m)
  pub safe_exactly : (budget : ℕ) → bound (product_of m) ≤ budget → (r : Decision) (hs' ts' : List ℕ) → Decided m budget hs ts r hs' ts'
      → ((n : ℕ) × (r ≡ Ok (Safe n))) ↔ (Violates (product_of m) → ⊥)
  -- Our own safe table is accepted by the check.
  pub safe_accepted : (budget n : ℕ) (hs' ts' : List ℕ) → Decided m budget hs ts (Ok (Safe n)) hs' ts' → recheck m hs' ts' ≡ answered accepted
  -- Demand 3. A verdict under one budget is the same under every larger one, the table too.
  pub same_more : (budget more : ℕ) → budget ≤ more → (r r' : Decision) (hs' hs'' ts' ts'' : List ℕ) → Decided m budget hs ts r hs' ts' → Decided m more hs ts r' hs'' ts''
      → (v : Verdict) → meaning r ≡ answered v → (r' ≡ r) × (hs'' ≡ hs') × (ts'' ≡ ts')
  -- No budget below the rounds of a verdict gives one: it is refusal 8.
  pub none_below : (budget less : ℕ) → (r r' : Decision) (hs' hs'' ts' ts'' : List ℕ) → Decided m budget hs ts r hs' ts' → Decided m less hs ts r' hs'' ts''
      → (v : Verdict) → meaning r ≡ answered v → less < rounds v → r' ≡ Err (Spent less)
  -- The budget symbols · states · (states + 1) always gives one.
  pub always_one : (budget : ℕ) → bound (product_of m) ≤ budget → (r : Decision) (hs' ts' : List ℕ) → Decided m budget hs ts r hs' ts'
      → (v : Verdict) × (meaning r ≡ answered v) × (rounds v ≤ bound (product_of m))
  -- No explanation of any violating fact is shallower than the rounds reported.
  pub no_shallower : (budget : ℕ) (r : Decision) (hs' ts' : List ℕ) → Decided m budget hs ts r hs' ts' → (v : Verdict) → meaning r ≡ answered v
      → (f : Fact) (k : ℕ) → T (violating (product_of m) f) → Why (product_of m) f k → rounds v ≤ k

-- Any table that the check accepts, whoever made it, means that no run from the start reaches a final state.
abbrev pub Accepting : Type 0
Accepting = (m : Model) (hs ts : List ℕ) → recheck m hs ts ≡ answered accepted → Violates (product_of m) → ⊥
