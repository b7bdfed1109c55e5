-- Facts, and the ways in which the steps of a product give facts out of facts. Assumes nothing.
use Rattle.std.specs.Prelude.{Bool, false, ◌&&◌, List, [], ◌∷◌, ◌++◌, ℕ, eqb}
use Rattle.std.proofs.Math.Option.{Option, none, some}
use Rattle.product.specs.Lists.{up_to, over, each, All}
use Rattle.product.specs.Product.{Rule, exit, direct, call, Step, Product, rule_of}

-- head q g: some run from the start has property state q with g on top.
-- triple q g e: some run goes from q over the stack g alone to e over the empty stack.
pub data Fact : Type 0 where
  head : (q g : ℕ) → Fact
  triple : (q g e : ℕ) → Fact

abbrev pub same : Fact → Fact → Bool
same (head q g) (head q' g') = eqb q q' && eqb g g'
same (head q g) (triple q' g' e') = false
same (triple q g e) (head q' g') = false
same (triple q g e) (triple q' g' e') = eqb q q' && eqb g g' && eqb e e'

abbrev pub first : Product → Fact
first p = head p.start_state p.start_symbol

-- all facts of the product, in the order of their cells: heads before triples, then by state, symbol, end state
abbrev pub cells : Product → List Fact
cells p =
    over p.states (λ q. each (up_to p.symbols) (head q))
    ++ over p.states (λ q. over (up_to p.symbols) (λ g. each p.states (triple q g)))

-- A way: the step, the head that must be held before it, if it needs one, the triples that are run after it, and the fact that it gives.
pub record Way : Type 0 where
  pub by : Step
  pub before : List Fact
  pub after : List Fact
  pub gives : Fact

abbrev pub needs : Way → List Fact
needs w = w.before ++ w.after

-- The five kinds of consequence of a step s from state q with g on top to state q'.
-- An exit gives a triple.
abbrev pub leaves : Step → (q g q' : ℕ) → Way
leaves s q g q' = record { by = s; before = []; after = []; gives = triple q g q' }

-- A direct step or a call from a held head gives the head entered.
abbrev pub enters : Step → (q g q' g1 : ℕ) → Way
enters s q g q' g1 = record { by = s; before = head q g ∷ []; after = []; gives = head q' g1 }

-- A direct step passes a triple back.
abbrev pub backs : Step → (q g q' g1 e : ℕ) → Way
backs s q g q' g1 e = record { by = s; before = []; after = triple q' g1 e ∷ []; gives = triple q g e }

-- A call from a held head, with a triple that erases g1, gives the head of g2 in the state the triple ends in.
abbrev pub returns : Step → (q g q' g1 g2 e : ℕ) → Way
returns s q g q' g1 g2 e = record { by = s; before = head q g ∷ []; after = triple q' g1 e ∷ []; gives = head e g2 }

-- Two triples, one for g1 and one for g2, that meet in the middle state e give a triple for the caller.
abbrev pub meets : Step → (q g q' g1 g2 e f : ℕ) → Way
meets s q g q' g1 g2 e f = record { by = s; before = []; after = triple q' g1 e ∷ triple e g2 f ∷ []; gives = triple q g f }

-- the consequences of a step by its rule, over the states S: entering before returning, and then by the lowest middle state
abbrev pub consequences : (S : List ℕ) → Step → (q q' : ℕ) → Rule → List Way
consequences S s q q' (exit g) = leaves s q g q' ∷ []
consequences S s q q' (direct g g1) = enters s q g q' g1 ∷ each S (backs s q g q' g1)
consequences S s q q' (call g g1 g2) =
    enters s q g q' g1 ∷ each S (returns s q g q' g1 g2) ++ over S (λ e. each S (meets s q g q' g1 g2 e))

abbrev pub ways_to : Product → Step → ℕ → Option ℕ → List Way
ways_to p s q none = []
ways_to p s q (some q') = consequences p.states s q q' (rule_of p s)

-- the ways of a rule and a move, from each state
abbrev pub ways_of : Product → Step → List Way
ways_of p s = over p.states (λ q. ways_to p s q (p.next s q))

-- every rule with every move: rule by rule, and move by move
abbrev pub pairs : Product → List Step
pairs p = over (up_to p.rules) (λ r. each (up_to p.moves) (λ v. record { by_rule = r; by_move = v }))

-- all ways of the product, in the order in which an explanation is looked for
abbrev pub ways : Product → List Way
ways p = over (pairs p) (ways_of p)

-- the way leads from facts of F to one of H; and every way does
abbrev pub Leads : (F H : Fact → Type 0) → Way → Type 0
Leads F H w = All F (needs w) → H w.gives

abbrev pub Led : Product → (F H : Fact → Type 0) → Type 0
Led p F H = All (Leads F H) (ways p)

-- no way leads out of the set
abbrev pub Closed : Product → (Fact → Type 0) → Type 0
Closed p F = Led p F F
