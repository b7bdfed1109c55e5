-- What the rounds are run on: the rules by what they need, the rules of the first round, and what is looked for. What serves the decision's own functions. Assumes nothing.
use Rattle.std.specs.Prelude.{Bool, true, ◌&&◌, ◌||◌, List, ◌⊎◌, ◌≡◌, ℕ, ◌*◌, ◌%◌, ◌^◌, ◌<◌, T, eqb, ltb, length}
use Rattle.bits.specs.Bit.{bit}
use Rattle.model.specs.declared.Shape.{Shape}
use Rattle.steps.specs.Rows.{kind_at, row_rule}
use Rattle.decide.specs.declared.Goal.{Goal}
use Rattle.decide.specs.declared.Next.{Next}
use Rattle.decide.specs.Sets.{member, chosen}
use Rattle.decide.specs.Gather.{zeros}
use Rattle.decide.specs.Turn.{UsesOf, Collected}

-- rule r was put into the sets of what it needs, and no other rule into any; and the first n rules
pub record UsesPut (rs : List ℕ) (r : ℕ) (us us' : List ℕ) : Type 0 where
  pub long : length us' ≡ 384
  pub there : UsesOf us' r (row_rule rs r)
  pub kept : (s x : ℕ) → x < 256 → T (member us s x) → T (member us' s x)
  pub only : (s x : ℕ) → x < 256 → T (member us' s x) → T (member us s x) ⊎ (r ≡ x)

pub record UsesAll (rs : List ℕ) (n : ℕ) (us : List ℕ) : Type 0 where
  pub long : length us ≡ 384
  pub there : (r : ℕ) → r < n → UsesOf us r (row_rule rs r)
  pub only : (s r : ℕ) → r < 256 → T (member us s r) → r < n

-- rule r, if it is an exit; and the exits of the first n rules
pub record ExitPut (rs : List ℕ) (r : ℕ) (w w' : List ℕ) : Type 0 where
  pub long : length w' ≡ 4
  pub is : (x : ℕ) → chosen w' x ≡ chosen w x || (eqb r x && eqb (kind_at rs r) 0)

pub record Exits (rs : List ℕ) (n : ℕ) (w : List ℕ) : Type 0 where
  pub long : length w ≡ 4
  pub is : (x : ℕ) → chosen w x ≡ ltb x n && eqb (kind_at rs x) 0

-- both: rule r was put where it belongs, and the first n rules were
pub record RulePut (rs : List ℕ) (r : ℕ) (us w us' w' : List ℕ) : Type 0 where
  pub uses : UsesPut rs r us us'
  pub exits : ExitPut rs r w w'

pub record RulesSorted (rs : List ℕ) (n : ℕ) (us w : List ℕ) : Type 0 where
  pub uses : UsesAll rs n us
  pub exits : Exits rs n w

-- the rules of the first round: the exits, and those that need the head of the start symbol g
pub record First (rs : List ℕ) (n g : ℕ) (us : List ℕ) (t : Next) : Type 0 where
  pub uses : UsesAll rs n us
  pub more_is : t.more ≡ true
  pub changed_is : t.changed ≡ (1 * 2 ^ g) % 2 ^ 64
  pub exits : Exits rs n t.wt.words
  pub heads : Collected us 64 t.changed (zeros 4) t.wh.words

-- the final states, and the start
pub record GoalOf (s : Shape) (final : ℕ → Bool) (goal : Goal) : Type 0 where
  pub finals_are : (x : ℕ) → bit goal.finals x ≡ ltb x 8 && final x
  pub state_is : goal.state ≡ s.startstate
  pub symbol_is : goal.symbol ≡ s.startsymbol
