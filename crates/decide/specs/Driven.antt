-- What the rounds ask, answer and leave. What serves the decision's own functions. Assumes nothing.
use Rattle.std.specs.Prelude.{Bool, true, false, Option, Some, None, ◌&&◌, ◌||◌, List, ◌≡◌, ℕ, ◌+◌, ◌*◌, ◌%◌, ◌^◌, ◌<◌, ◌≤◌, T, Ok, Err, eqb, get_or, set}
use Rattle.product.specs.Product.{Product}
use Rattle.product.specs.Facts.{head, triple}
use Rattle.product.specs.Table.{ranks}
use Rattle.product.specs.Verdict.{answer, ran}
use Rattle.table.specs.declared.Size.{Size}
use Rattle.bits.specs.Bit.{bit}
use Rattle.bits.specs.Matrix.{some}
use Rattle.decide.specs.declared.Verdict.TheVariants.{Violation, Safe}
use Rattle.decide.specs.declared.DecideError.TheVariants.{Spent}
use Rattle.decide.specs.declared.Goal.{Goal}
use Rattle.decide.specs.declared.Next.{Next}
use Rattle.decide.specs.Decided.{Decision, meaning, within}
use Rattle.decide.specs.Stamp.{of_heads, of_triples, view_of}
use Rattle.decide.specs.Gather.{zeros}
use Rattle.decide.specs.Standing.{Begins, Kept}
use Rattle.decide.specs.Turn.{Uses}

-- the final states in which a symbol that changed has a head; and those into which the symbol g is erased from the state q
unfoldable pub final_heads : (fins changed : ℕ) → (hd : List ℕ) → (x : ℕ) → Bool
final_heads fins changed hd x = some 64 (λ s. bit changed s && (bit (get_or hd s 0) x && bit fins x))

unfoldable pub violations : (fins changed : ℕ) → (hd e : List ℕ) → (q g x : ℕ) → Bool
violations fins changed hd e q g x = (bit (get_or e g 0) (x + 8 * q) && bit fins x) || final_heads fins changed hd x

-- after round n: `seen` has the final states of violating facts, and the three tests of it, in this order; none of them gives an answer where the rounds go on
pub data Tested (n budget : ℕ) (more : Bool) (seen : ℕ) : Option Decision → Type 0 where
  violates : (seen ≡ 0 → ⊥) → Tested n budget more seen (Some (Ok (Violation n)))
  is_safe : seen ≡ 0 → more ≡ false → Tested n budget more seen (Some (Ok (Safe n)))
  is_spent : seen ≡ 0 → more ≡ true → budget ≤ n → Tested n budget more seen (Some (Err (Spent budget)))
  goes_on : seen ≡ 0 → more ≡ true → n < budget → Tested n budget more seen None

pub record Judged (goal : Goal) (n budget : ℕ) (t : Next) (hd e : List ℕ) (o : Option Decision) : Type 0 where
  pub seen : ℕ
  pub seen_is : (x : ℕ) → bit seen x ≡ violations goal.finals t.changed hd e goal.state goal.symbol x
  pub tested : Tested n budget t.more seen o

-- the goal has the final states of the product, and its start
pub record Goals (p : Product) (goal : Goal) : Type 0 where
  pub low : (x : ℕ) → T (bit goal.finals x) → x < 8
  pub is : (x : ℕ) → T (bit goal.finals x) → T (p.final x)
  pub all : (x : ℕ) → x < 8 → T (p.final x) → T (bit goal.finals x)
  pub state_is : goal.state ≡ p.start_state
  pub symbol_is : goal.symbol ≡ p.start_symbol

-- the rows of the heads at first: the start head alone
abbrev pub start_rows : Goal → List ℕ
start_rows goal = set (zeros 32) goal.symbol ((1 * 2 ^ goal.state) % 2 ^ 64)

-- round 0 stands, and t has the rules for the first round
pub record Starts (p : Product) (z : Size) (goal : Goal) (t : Next) (rs tg us hs ts : List ℕ) : Type 0 where
  pub begins : Begins p z 0 t.wt.words t.wh.words rs tg (zeros 256) (zeros 32) (start_rows goal) hs ts
  pub uses : Uses p us
  pub goals : Goals p goal
  pub more_is : t.more ≡ true
  pub changed_is : (x : ℕ) → bit t.changed x ≡ eqb goal.symbol x

pub record Driving (z : Size) (goal : Goal) (t : Next) (rs tg us hs ts : List ℕ) : Type 0 where
  pub product : Product
  pub starts : Starts product z goal t rs tg us hs ts

-- the answer under the budget, and the ranks after its rounds
pub record Answers (p : Product) (z : Size) (hs ts : List ℕ) (budget : ℕ) (r : Decision) (hs' ts' : List ℕ) : Type 0 where
  pub answer_is : meaning r ≡ within budget (answer p budget)
  pub triples_ranked : (q g x : ℕ) → view_of of_triples z ts' (triple q g x) ≡ ranks p (ran budget (answer p budget)) (triple q g x)
  pub heads_ranked : (q g : ℕ) → view_of of_heads z hs' (head q g) ≡ ranks p (ran budget (answer p budget)) (head q g)
  pub triples_kept : Kept of_triples z ts ts'
  pub heads_kept : Kept of_heads z hs hs'

pub record Driven (z : Size) (goal : Goal) (t : Next) (rs tg us hs ts : List ℕ) (budget : ℕ) (r : Decision) (hs' ts' : List ℕ) : Type 0 where
  pub answers : (p : Product) → Starts p z goal t rs tg us hs ts → Answers p z hs ts budget r hs' ts'
