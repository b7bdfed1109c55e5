-- What is run after the steps of the rules of a set, gathered by class. What serves the decision's own functions. Assumes nothing.
use Rattle.std.specs.Prelude.{false, ◌&&◌, ◌||◌, List, ◌≡◌, ℕ, eqb, length, get_or, replicate}
use Rattle.bits.specs.Matrix.{mat, mats, multiplied}
use Rattle.steps.specs.declared.Kind.{Kind}
use Rattle.steps.specs.declared.Kind.TheVariants.{Exit, Direct, Call}
use Rattle.steps.specs.Rows.{kind_of, kind_at, class_at, over_at, under_at}
use Rattle.decide.specs.Sets.{chosen, among}
use Rattle.decide.specs.Stamp.{Entries}

-- the matrix of what is run after a step of a rule: nothing; the triples of g1; those of g1 and then those of g2
unfoldable pub rest_of : Kind → (g1 g2 : ℕ) → List ℕ → ℕ
rest_of Exit g1 g2 e = 0x8040201008040201
rest_of Direct g1 g2 e = get_or e g1 0
rest_of Call g1 g2 e = multiplied (get_or e g1 0) (get_or e g2 0)

unfoldable pub rest_at : List ℕ → List ℕ → ℕ → ℕ
rest_at rs e i = rest_of (kind_of (kind_at rs i)) (over_at rs i) (under_at rs i) e

-- what rule i adds, and what the rules of a set add, to the matrix of class c
abbrev pub added : (rs e : List ℕ) → ℕ → Entries
added rs e i c q x = eqb (class_at rs i) c && mat (rest_at rs e i) q x

unfoldable pub added_by : (rs e w : List ℕ) → Entries
added_by rs e w c q x = among w (λ i. added rs e i c q x)

-- the matrices took in the entries m; a class that has more stands in the set t'
pub record Visits (m : Entries) (t by t' by' : List ℕ) : Type 0 where
  pub few : length t' ≡ 4
  pub long : length by' ≡ 256
  pub entries : (c q x : ℕ) → mats by' c q x ≡ mats by c q x || m c q x
  pub same : (c : ℕ) → chosen t' c ≡ false → (chosen t c ≡ false) × (get_or by' c 0 ≡ get_or by c 0)

-- from none in the set
pub record Gains (m : Entries) (by t' by' : List ℕ) : Type 0 where
  pub few : length t' ≡ 4
  pub long : length by' ≡ 256
  pub entries : (c q x : ℕ) → mats by' c q x ≡ mats by c q x || m c q x
  pub same : (c : ℕ) → chosen t' c ≡ false → get_or by' c 0 ≡ get_or by c 0

-- all are empty, as at first
abbrev pub zeros : ℕ → List ℕ
zeros n = replicate {A = ℕ} n 0

pub record Empty (n : ℕ) (by : List ℕ) : Type 0 where
  pub long : length by ≡ n
  pub empty : (c : ℕ) → get_or by c 0 ≡ 0
