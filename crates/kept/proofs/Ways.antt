-- The consequences of a step by what the code was answered of it; and the check's tests are those of the product's ways. Assumes nothing.
use mathlib.Core.Bool.{Bool, true, false, not, ◌&&◌, ◌||◌, and-true}
use mathlib.Core.List.{List, [], ◌∷◌, ◌++◌}
use mathlib.Core.Option.{Option}
use mathlib.Core.Path.{◌≡◌, refl, ap, ap₂, ◌∙◌}
use Prim.Native.Nat.{ℕ}
use Rattle.product.specs.Lists.{up_to, over, each, all}
use Rattle.product.specs.Product as product
use Rattle.product.specs.Product.{exit, direct, call, Step}
use Rattle.product.specs.Facts.{Fact, head, triple, enters, backs, returns, meets, consequences}
use Rattle.product.specs.Check.{keeps}
use Rattle.product.proofs.Lists.{all_append}
use Rattle.model.specs.declared.Rule.{Rule}
use Rattle.std.specs.Prelude as code
use Rattle.std.specs.Prelude.{Some, None}
use Rattle.model.specs.Answers.{rule_as, meant, next_as, landed}
use Rattle.model.proofs.Answers.{meant_as}
use Rattle.model.proofs.Bounds.{landed_as}
use Rattle.kept.specs.Kept.{head_passes, triple_passes, triples_pass, return_passes, rule_kept, next_kept}

module _ (states : ℕ) (t : Fact → Bool) (q : ℕ) where
  -- the next state was told
  pub kept_stuck : (ρ : product.Rule) {n : code.Option ℕ} → n ≡ None → true ≡ next_kept states t q ρ (landed n)
  kept_stuck ρ e = rw e

  pub kept_to : (ρ : product.Rule) (q' : ℕ) {n : code.Option ℕ} {b : Bool} → n ≡ Some q' → b ≡ rule_kept states t q q' ρ → b ≡ next_kept states t q ρ (landed n)
  kept_to ρ q' e k = rw e k

  -- rule and next state were read
  pub kept_read : (ρ : product.Rule) (o : Option ℕ) {r : Rule} {n : code.Option ℕ} {b : Bool} → r ≡ rule_as ρ → n ≡ next_as o → b ≡ next_kept states t q (meant r) (landed n)
      → b ≡ next_kept states t q ρ o
  kept_read ρ o r n k = k ∙ ap₂ (next_kept states t q) (ap meant r ∙ meant_as ρ) (ap landed n ∙ landed_as o)

-- tests of gathered lists
module _ {A B : Type 0} (p : B → Bool) where
  pub all_over : (xs : List A) (f : A → List B) → all p (over xs f) ≡ all (λ x. all p (f x)) xs
  all_over [] f = refl
  all_over (x ∷ xs) f = all_append p (f x) (over xs f) ∙ ap (λ b. all p (f x) && b) (all_over xs f)

  pub all_each : (xs : List A) (f : A → B) → all p (each xs f) ≡ all (λ x. p (f x)) xs
  all_each [] f = refl
  all_each (x ∷ xs) f = ap (λ b. p (f x) && b) (all_each xs f)

and_swap : (a b c d : Bool) → (a && b) && (c && d) ≡ (a && c) && (b && d)
and_swap true b true d = refl
and_swap false b c d = refl
and_swap true true false d = refl
and_swap true false false d = refl

module _ {A : Type 0} where
  pub all_same : (p r : A → Bool) (xs : List A) → ((x : A) → p x ≡ r x) → all p xs ≡ all r xs
  all_same p r [] h = refl
  all_same p r (x ∷ xs) h = rw (h x, all_same p r xs h)

  -- two tests of each element are one
  pub all_and : (p r : A → Bool) (xs : List A) → (all p xs && all r xs) ≡ all (λ x. p x && r x) xs
  all_and p r [] = refl
  all_and p r (x ∷ xs) = and_swap (p x) (all p xs) (r x) (all r xs) ∙ ap (λ b. (p x && r x) && b) (all_and p r xs)

  -- a condition that does not depend on the element
  pub all_if : (a : Bool) (p : A → Bool) (xs : List A) → all (λ x. not a || p x) xs ≡ (not a || all p xs)
  all_if true p xs = refl
  all_if false p [] = refl
  all_if false p (x ∷ xs) = all_if false p xs

-- a way that needs one fact, and one that needs two
one : (a b : Bool) → (not (a && true) || b) ≡ (not a || b)
one a b = rw (and-true a)

two : (a b c : Bool) → (not (a && (b && true)) || c) ≡ (not a || (not b || c))
two true b c = one b c
two false b c = refl

turned : (a b c : Bool) → (not (a && (b && true)) || c) ≡ (not b || (not a || c))
turned true b c = one b c
turned false true c = refl
turned false false c = refl

either : (a b c : Bool) → ((not a || b) && (not a || c)) ≡ (not a || (b && c))
either true b c = refl
either false b c = refl

module _ (states : ℕ) (t : Fact → Bool) (s : Step) (q q' : ℕ) where
  entering : (g g1 : ℕ) → keeps t (enters s q g q' g1) ≡ head_passes t q g q' g1
  entering g g1 = one (t (head q g)) (t (head q' g1))

  returning : (g g1 g2 e : ℕ)
      → (keeps t (returns s q g q' g1 g2 e) && all (λ f. keeps t (meets s q g q' g1 g2 e f)) (up_to states)) ≡ return_passes states t q g q' g1 g2 e
  returning g g1 g2 e =
      ap (λ b. keeps t (returns s q g q' g1 g2 e) && b)
      (all_same (λ f. keeps t (meets s q g q' g1 g2 e f)) (λ f. not (t (triple q' g1 e)) || triple_passes t q g e g2 f) (up_to states)
      (λ f. two (t (triple q' g1 e)) (t (triple e g2 f)) (t (triple q g f)))
      ∙ all_if (t (triple q' g1 e)) (triple_passes t q g e g2) (up_to states))
      ∙ ap (λ b. b && (not (t (triple q' g1 e)) || triples_pass states t q g e g2)) (turned (t (head q g)) (t (triple q' g1 e)) (t (head e g2)))
      ∙ either (t (triple q' g1 e)) (head_passes t q g e g2) (triples_pass states t q g e g2)

  -- the tests of a rule are those of its consequences
  pub kept_is : (ρ : product.Rule) → all (keeps t) (consequences (up_to states) s q q' ρ) ≡ rule_kept states t q q' ρ
  kept_is (exit g) = and-true (t (triple q g q'))
  kept_is (direct g g1) =
      ap (λ b. b && all (keeps t) (each (up_to states) (backs s q g q' g1))) (entering g g1)
      ∙ ap (λ b. head_passes t q g q' g1 && b)
      (all_each (keeps t) (up_to states) (backs s q g q' g1)
      ∙ all_same (λ e. keeps t (backs s q g q' g1 e)) (triple_passes t q g q' g1) (up_to states) (λ e. one (t (triple q' g1 e)) (t (triple q g e))))
  kept_is (call g g1 g2) =
      ap (λ b. b && all (keeps t) (each (up_to states) (returns s q g q' g1 g2) ++ over (up_to states) (λ e. each (up_to states) (meets s q g q' g1 g2 e)))) (entering g g1)
      ∙ ap (λ b. head_passes t q g q' g1 && b)
      (all_append (keeps t) (each (up_to states) (returns s q g q' g1 g2)) (over (up_to states) (λ e. each (up_to states) (meets s q g q' g1 g2 e)))
      ∙ ap (λ b. b && all (keeps t) (over (up_to states) (λ e. each (up_to states) (meets s q g q' g1 g2 e)))) (all_each (keeps t) (up_to states) (returns s q g q' g1 g2))
      ∙ ap (λ b. all (λ e. keeps t (returns s q g q' g1 g2 e)) (up_to states) && b)
      (all_over (keeps t) (up_to states) (λ e. each (up_to states) (meets s q g q' g1 g2 e))
      ∙ all_same (λ e. all (keeps t) (each (up_to states) (meets s q g q' g1 g2 e))) (λ e. all (λ f. keeps t (meets s q g q' g1 g2 e f)) (up_to states)) (up_to states)
      (λ e. all_each (keeps t) (up_to states) (meets s q g q' g1 g2 e)))
      ∙ all_and (λ e. keeps t (returns s q g q' g1 g2 e)) (λ e. all (λ f. keeps t (meets s q g q' g1 g2 e f)) (up_to states)) (up_to states)
      ∙ all_same (λ e. keeps t (returns s q g q' g1 g2 e) && all (λ f. keeps t (meets s q g q' g1 g2 e f)) (up_to states)) (return_passes states t q g q' g1 g2) (up_to states) (returning g g1 g2))
