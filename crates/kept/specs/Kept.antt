-- What the consequences of a step ask of the facts t of a table, one by one. Assumes nothing.
use Rattle.std.specs.Prelude.{Bool, true, not, ◌&&◌, ◌||◌, ℕ}
use Rattle.std.proofs.Math.Option.{Option, none, some}
use Rattle.product.specs.Lists.{up_to, all}
use Rattle.product.specs.Product.{Rule, exit, direct, call}
use Rattle.product.specs.Facts.{Fact, head, triple}

-- the fact f, if present, is passed on to the fact d
abbrev pub passes : (Fact → Bool) → (f d : Fact) → Bool
passes t f d = not (t f) || t d

-- from (q, g) to (q', g1): the head is passed on, and a triple passed back
abbrev pub head_passes : (Fact → Bool) → (q g q' g1 : ℕ) → Bool
head_passes t q g q' g1 = passes t (head q g) (head q' g1)

abbrev pub triple_passes : (Fact → Bool) → (q g q' g1 e : ℕ) → Bool
triple_passes t q g q' g1 e = passes t (triple q' g1 e) (triple q g e)

abbrev pub triples_pass : (states : ℕ) → (Fact → Bool) → (q g q' g1 : ℕ) → Bool
triples_pass states t q g q' g1 = all (triple_passes t q g q' g1) (up_to states)

-- a direct step passes on and back; a call enters, and then passes on and back by way of every state e in which g1 can be erased
abbrev pub both_pass : (states : ℕ) → (Fact → Bool) → (q g q' g1 : ℕ) → Bool
both_pass states t q g q' g1 = head_passes t q g q' g1 && triples_pass states t q g q' g1

abbrev pub return_passes : (states : ℕ) → (Fact → Bool) → (q g q' g1 g2 e : ℕ) → Bool
return_passes states t q g q' g1 g2 e = not (t (triple q' g1 e)) || both_pass states t q g e g2

abbrev pub returns_pass : (states : ℕ) → (Fact → Bool) → (q g q' g1 g2 : ℕ) → Bool
returns_pass states t q g q' g1 g2 = all (return_passes states t q g q' g1 g2) (up_to states)

-- the consequences of a step from q to q' by its rule are present
abbrev pub rule_kept : (states : ℕ) → (Fact → Bool) → (q q' : ℕ) → Rule → Bool
rule_kept states t q q' (exit g) = t (triple q g q')
rule_kept states t q q' (direct g g1) = both_pass states t q g q' g1
rule_kept states t q q' (call g g1 g2) = head_passes t q g q' g1 && returns_pass states t q g q' g1 g2

abbrev pub next_kept : (states : ℕ) → (Fact → Bool) → ℕ → Rule → Option ℕ → Bool
next_kept states t q ρ none = true
next_kept states t q ρ (some q') = rule_kept states t q q' ρ
