-- The machine in the lent array: where its stack lies, and what one step and a run of steps do to it. Assumes nothing.
use Rattle.std.specs.Prelude.{cond, List, [], ◌∷◌, ◌++◌, ◌≡◌, ℕ, zero, suc, ◌+◌, ◌-◌, ◌<◌, ◌≤◌, T, eqb, length, get_or, drop}
use Rattle.std.proofs.Math.Option.{Option, none, some}
use Rattle.product.specs.Lists.{All, each}
use Rattle.product.specs.Product.{Product, symbol, pushed, Step, rule_of, loaded}
use Rattle.product.specs.Runs.{State, step}
use Rattle.product.specs.Replay.{replay}
use Rattle.model.specs.declared.Model.{Model}
use Rattle.model.specs.Model.{product_of}
use Rattle.model.specs.Valid.{valid}
use Rattle.replay.specs.declared.Machine.{Machine}
use Rattle.replay.specs.declared.Outcome.{Outcome}
use Rattle.replay.specs.declared.Outcome.TheVariants.{Moved, Blocked, Arrived}
use Rattle.replay.specs.Replay.{Replayed, replayed_as}

-- the stack of depth d: the first d cells, the last of them on top
abbrev pub below : List ℕ → ℕ → List ℕ
below cells zero = []
below cells (suc d) = get_or cells d 0 ∷ below cells d

-- a top to replace, a cell above it, and symbols that fit a byte
pub record Room (cells : List ℕ) (depth : ℕ) (gs : List ℕ) : Type 0 where
  pub some_top : 1 ≤ depth
  pub some_cell : depth < length cells
  pub bytes : All (λ g. g < 256) gs

-- the top gives way to the symbols gs, and the cells past the one above it are as before
pub record Replaced (depth : ℕ) (gs cells : List ℕ) (d : ℕ) (cells' : List ℕ) : Type 0 where
  pub deep : d ≡ (depth - 1) + length gs
  pub stack : below cells' d ≡ gs ++ below cells (depth - 1)
  pub rest : (k : ℕ) → depth < k → drop k cells' ≡ drop k cells

-- the state after a step from q with g on top
abbrev pub goes_at : Product → Step → (q g : ℕ) → Option ℕ
goes_at p s q g = cond (eqb (symbol (rule_of p s)) g) (p.next s q) none

-- what a step asks: symbols that fit a byte, and a cell above the top
pub record Ready (p : Product) (cells : List ℕ) (depth : ℕ) : Type 0 where
  pub symbols : (s : Step) (q q' : ℕ) → p.next s q ≡ some q' → All (λ g. g < 256) (pushed (rule_of p s))
  pub room : depth < length cells

-- the machine in a state, and the outcome of a step into it
abbrev pub machine : State → Machine
machine (q, w) = record { state = q; depth = length w }

abbrev pub outcome : Product → (number : ℕ) → Option State → Outcome
outcome p number none = Blocked number
outcome p number (some c) = cond (p.final c.0) (Arrived (machine c)) (Moved (machine c))

-- the cells hold the stack of the state, which is at most one deeper
abbrev pub Held : (cells : List ℕ) → (depth : ℕ) → Option State → Type 0
Held cells depth none = Unit {0}
Held cells depth (some (q, w)) = (below cells (length w) ≡ w) × (length w ≤ depth + 1)

-- the step s of the product, from the state c
pub record Stepped (p : Product) (number depth : ℕ) (s : Step) (c : State) (cells : List ℕ) (o : Outcome) (cells' : List ℕ) : Type 0 where
  pub came : o ≡ outcome p number (step p s c)
  pub held : Held cells' depth (step p s c)
  pub rest : (k : ℕ) → depth < k → drop k cells' ≡ drop k cells

-- what a run asks, and what it answers and leaves
pub record Runs (m : Model) (steps cells : List ℕ) : Type 0 where
  pub is_valid : T (valid m)
  pub room : length steps < length cells

pub record Ran (m : Model) (steps cells : List ℕ) (r : Replayed) (cells' : List ℕ) : Type 0 where
  pub answer : r ≡ replayed_as (replay (product_of m) (each steps loaded))
  pub rest : drop (length steps + 1) cells' ≡ drop (length steps + 1) cells
