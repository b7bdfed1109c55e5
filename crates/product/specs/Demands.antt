-- What is proved of every product whose numbers are in range: the meaning of facts, ranks and verdicts, and the demands on them. Assumes nothing.
use Rattle.std.specs.Prelude.{Bool, List, [], ◌∷◌, ◌↔◌, ◌≡◌, ℕ, ◌<◌, ◌≤◌, T}
use Rattle.std.proofs.Math.Option.{none, some}
use Rattle.product.specs.Product.{Product, Step}
use Rattle.product.specs.Runs.{State, start, Run, Reaches}
use Rattle.product.specs.Facts.{Fact, head, triple}
use Rattle.product.specs.Rounds.{held, Rank}
use Rattle.product.specs.Why.{Why}
use Rattle.product.specs.Verdict.{violating, Verdict, violation, safe, rounds, IsVerdict, answer, bound}
use Rattle.product.specs.Table.{present, ranks, left}
use Rattle.product.specs.Trace.{trace_of}
use Rattle.product.specs.Replay.{replays, replay}
use Rattle.product.specs.Check.{accepts, passes, checked}

-- some run from the start reaches a final state
abbrev pub Violates : Product → Type 0
Violates p = (ss : List Step) × (c : State) × Reaches p ss c

pub record Demands (p : Product) : Type 0 where
  -- Ranks. A fact is held after round n exactly if it has an explanation of depth n or less, so its rank is the least depth of any.
  pub held_exactly : (n : ℕ) (f : Fact) → T (held p n f) ↔ ((k : ℕ) × (k ≤ n) × Why p f k)
  pub rank_least : (f : Fact) (n : ℕ) → Rank p f n → Why p f n × ((k : ℕ) → Why p f k → n ≤ k)
  pub table_rank : (n : ℕ) (f : Fact) → T (held p n f) → Rank p f (ranks p n f)
  -- Facts. A head is explained exactly if some run from the start has it; a triple, from any state and symbol, exactly if some run erases it so.
  pub head_exactly : (q g : ℕ) → ((n : ℕ) × Why p (head q g) n) ↔ ((ss : List Step) × (w : List ℕ) × Run p (start p) ss (q, g ∷ w))
  pub triple_exactly : (q g e : ℕ) → ((n : ℕ) × Why p (triple q g e) n) ↔ ((ss : List Step) × Run p (q, g ∷ []) ss (e, []))
  -- Verdicts. There is one, and only one, and it is right.
  pub verdict : (v : Verdict) × IsVerdict p v × (rounds v ≤ bound p)
  pub one_verdict : (v v' : Verdict) → IsVerdict p v → IsVerdict p v' → v ≡ v'
  pub violation_exactly : ((n : ℕ) × IsVerdict p (violation n)) ↔ Violates p
  pub safe_exactly : ((n : ℕ) × IsVerdict p (safe n)) ↔ (Violates p → ⊥)
  -- Alarms bring their trace: it is a run to a final state, and the replay accepts exactly such runs.
  pub trace_reaches : (n : ℕ) → IsVerdict p (violation n) → (c : State) × Reaches p (trace_of p (violation n)) c
  pub trace_replays : (n : ℕ) → IsVerdict p (violation n) → replay p (trace_of p (violation n)) ≡ replays
  pub replay_exactly : (ss : List Step) → (replay p ss ≡ replays) ↔ ((c : State) × Reaches p ss c)
  -- Safe brings its table: any accepted table means that no run violates, and the table of a safe verdict is accepted.
  pub accepted_safe : (t : Fact → Bool) → T (accepts p t) → Violates p → ⊥
  pub checked_exactly : (t : Fact → Bool) → (checked p t ≡ passes) ↔ T (accepts p t)
  pub safe_accepted : (n : ℕ) → n < 65535 → IsVerdict p (safe n) → T (accepts p (present (ranks p n)))
  -- Budgets. An answer is the verdict; larger budgets give the same verdict and table, none below the rounds gives one, and the bound always does.
  pub answer_verdict : (budget : ℕ) (v : Verdict) → answer p budget ≡ some v → IsVerdict p v × (rounds v ≤ budget)
  pub answer_more : (budget more : ℕ) (v : Verdict) → answer p budget ≡ some v → budget ≤ more → (answer p more ≡ some v) × (left p more ≡ left p budget)
  pub answer_below : (budget : ℕ) (v : Verdict) → IsVerdict p v → budget < rounds v → answer p budget ≡ none
  pub answer_bound : (budget : ℕ) → bound p ≤ budget → (v : Verdict) × (answer p budget ≡ some v)
  pub rounds_least : (v : Verdict) → IsVerdict p v → (f : Fact) (n : ℕ) → T (violating p f) → Why p f n → rounds v ≤ n
