-- The lines of steps as they grow, and that they depend on the steps that they name alone. Assumes nothing.
use mathlib.Core.Bool.{Bool, true, false}
use mathlib.Core.List.{List, [], ◌∷◌, ◌++◌}
use mathlib.Core.Path.{◌≡◌, refl, ap, ap₂, sym, ◌∙◌}
use Prim.Native.Nat.{ℕ, zero, suc, ◌+◌, ◌/◌, ◌%◌, ◌<◌, ◌≤◌, min}
use native.Mathlib.Numerals.{add-one}
use native.Mathlib.Omega.{arith}
use lib.ListN.{length, get_or, set, take}
use lib.Seq.{sets, get_or-take, length-take-le}
use Rattle.product.specs.Lists.{up_to, over}
use Rattle.product.specs.Product.{Product, loaded}
use Rattle.product.proofs.Lists.{over_suc}
use Rattle.model.specs.declared.Model.{Model}
use Rattle.model.specs.declared.Rule.{Rule}
use Rattle.std.proofs.Math.Option as theory
use Rattle.std.specs.Prelude.{Option, Some, None, unwrap_or}
use Rattle.model.specs.Answers.{rule_as, meant, next_as}
use Rattle.model.proofs.Answers.{meant_as}
use Rattle.lent.specs.Lending.{InByte}
use Rattle.print.specs.Bytes.{line_bytes, named_bytes}
use Rattle.text.specs.Put.{Put}
use Rattle.text.proofs.Puts.{as_put, then_put}
use Rattle.product.proofs.Lists.{over_alike}
use Rattle.model.specs.Model.{product_of}
use Rattle.violation.specs.Words.{violation_word, step_word, cut_word}
use Rattle.violation.specs.Bytes.{room, shown, kind_of, or_stay, stepped, state_after, step_line, step_lines, first_line, violation_bytes}

-- one line more
module _ (p : Product) (steps : List ℕ) where
  abbrev line : ℕ → List ℕ
  line i = step_line p (i + 1) (get_or steps i 0) (state_after p steps (suc i))

  pub lines_none : [] ≡ step_lines p steps 0
  unfolding step_lines
  lines_none = refl

  pub lines_more : (i : ℕ) → step_lines p steps i ++ line i ≡ step_lines p steps (i + 1)
  unfolding step_lines
  lines_more i = sym (ap (λ n. over (up_to n) line) (add-one i) ∙ over_suc i line)

  -- the state after step i was asked, and then its line was put
  pub more_put : {o o' o'' : List ℕ} {a b c : ℕ} (i : ℕ) {q q' : ℕ} → q ≡ state_after p steps i → q' ≡ stepped p (get_or steps i 0) q
      → Put o o' a b (step_lines p steps i) → Put o' o'' b c (step_line p (i + 1) (get_or steps i 0) q') → Put o o'' a c (step_lines p steps (i + 1))
  more_put i e f x y = as_put (ap (λ s. step_lines p steps i ++ step_line p (i + 1) (get_or steps i 0) s) (f ∙ ap (stepped p (get_or steps i 0)) e) ∙ lines_more i) (then_put x y)

  pub state_more : (i : ℕ) {q q' : ℕ} → q ≡ state_after p steps i → q' ≡ stepped p (get_or steps i 0) q → q' ≡ state_after p steps (i + 1)
  state_more i e f = f ∙ ap (stepped p (get_or steps i 0)) e ∙ sym (ap (state_after p steps) (add-one i))

-- the state after a step, by what was answered
module _ (p : Product) (step q : ℕ) where
  pub asked : {n : Option ℕ} → n ≡ next_as (p.next (loaded step) q) → unwrap_or n q ≡ stepped p step q
  asked e = ap (λ n. unwrap_or n q) e ∙ go (p.next (loaded step) q)
    where
      go : (o : theory.Option ℕ) → unwrap_or (next_as o) q ≡ or_stay q o
      go theory.none = refl
      go (theory.some q') = refl

pub in_byte : (n : Option ℕ) {q : ℕ} → InByte n → q ≤ 255 → unwrap_or n q ≤ 255
in_byte None h l = l
in_byte (Some q') h l = h

-- two lists whose first n steps are the same
states_alike : (p : Product) (s t : List ℕ) (n : ℕ) → ((i : ℕ) → i < n → get_or s i 0 ≡ get_or t i 0) → state_after p s n ≡ state_after p t n
states_alike p s t zero same = refl
states_alike p s t (suc n) same = ap₂ (stepped p) (same n (omega arith)) (states_alike p s t n (λ i z. same i (omega arith)))

lines_alike : (p : Product) (s t : List ℕ) (n : ℕ) → ((i : ℕ) → i < n → get_or s i 0 ≡ get_or t i 0) → step_lines p s n ≡ step_lines p t n
unfolding step_lines
lines_alike p s t n same =
    over_alike n (line p s) (line p t) (λ i z. ap₂ (step_line p (i + 1)) (same i z) (states_alike p s t (suc i) (λ j y. same j (omega arith))))

-- what stands in a room after steps were put into it
sets_cons : (x : ℕ) (l : List ℕ) (at : ℕ) (s : List ℕ) → sets (x ∷ l) (suc at) s ≡ x ∷ sets l at s
sets_cons x l at [] = refl
sets_cons x l at (y ∷ s) = sets_cons x (set l at y) (suc at) s

get_d_sets : (l s : List ℕ) (i : ℕ) → i < length l → i < length s → get_or (sets l 0 s) i 0 ≡ get_or s i 0
get_d_sets (y ∷ l) (x ∷ s) zero h k = ap (λ o. get_or o 0 0) (sets_cons x l 0 s)
get_d_sets (y ∷ l) (x ∷ s) (suc i) h k = ap (λ o. get_or o (suc i) 0) (sets_cons x l 0 s) ∙ get_d_sets l s i (omega arith) (omega arith)
get_d_sets (y ∷ l) [] i h k = absurd (omega arith)
get_d_sets [] s i h k = absurd (omega arith)

pub lines_same : (p : Product) (l s : List ℕ) (n : ℕ) → n ≤ length l → n ≤ length s → step_lines p (sets l 0 s) n ≡ step_lines p s n
lines_same p l s n h k = lines_alike p (sets l 0 s) s n (λ i z. get_d_sets l s i (omega arith) (omega arith))

-- the first n steps of those that are cut to n
pub lines_cut : (p : Product) (steps : List ℕ) (n : ℕ) → step_lines p (take n steps) n ≡ step_lines p steps n
lines_cut p steps n = lines_alike p (take n steps) steps n (λ i z. get_or-take n steps i 0 z)

-- the line of a step, by the rule that was read
pub step_put : {o o' : List ℕ} {a b : ℕ} (p : Product) (number step state : ℕ) {rule : Rule} → rule ≡ rule_as (p.rule (step / 128))
    → Put o o' a b (named_bytes step_word (number ∷ step / 128 ∷ step % 128 ∷ state ∷ []) (kind_of (meant rule))) → Put o o' a b (step_line p number step state)
step_put p number step state f x =
    as_put (ap (named_bytes step_word (number ∷ step / 128 ∷ step % 128 ∷ state ∷ [])) (ap (λ x. kind_of (meant x)) f ∙ ap kind_of (meant_as (p.rule (step / 128))))) x

-- the line of a step by the case of its rule
pub by_put : {o p : List ℕ} {a b : ℕ} (row : List ℕ) {rule rule' : Rule} → rule ≡ rule' → Put o p a b (named_bytes step_word row (kind_of (meant rule'))) → Put o p a b (named_bytes step_word row (kind_of (meant rule)))
by_put row e x = as_put (ap (λ r. named_bytes step_word row (kind_of (meant r))) (sym e)) x

-- the first line, by what is tested
pub first_put : {o p : List ℕ} {a b : ℕ} {whole t : Bool} (rounds n : ℕ) → whole ≡ t → Put o p a b (first_line t rounds n) → Put o p a b (first_line whole rounds n)
first_put rounds n e x = as_put (ap (λ w. first_line w rounds n) (sym e)) x

pub whole_put : {o p : List ℕ} {a b : ℕ} {whole : Bool} (rounds n : ℕ) → whole ≡ true → Put o p a b (line_bytes violation_word (rounds ∷ n ∷ [])) → Put o p a b (first_line whole rounds n)
unfolding first_line
whole_put rounds n e x = first_put rounds n e x

pub cut_put : {o p : List ℕ} {a b : ℕ} {whole : Bool} (rounds n : ℕ) → whole ≡ false → Put o p a b (named_bytes violation_word (rounds ∷ []) cut_word) → Put o p a b (first_line whole rounds n)
unfolding first_line
cut_put rounds n e x = first_put rounds n e x

-- how many steps are printed
module _ (there count : ℕ) {k n : ℕ} (e : k ≡ min count there) (f : n ≡ min k room) where
  pub shown_there : n ≤ there
  shown_there = omega arith

  is_shown : n ≡ shown there count
  is_shown = omega arith

-- the first line and the others
pub violation_put : {o p q : List ℕ} {a b c : ℕ} (m : Model) (whole : Bool) (rounds : ℕ) (steps : List ℕ) (count : ℕ) {k n : ℕ} → k ≡ min count (length steps) → n ≡ min k room
    → Put o p a b (first_line whole rounds n) → Put p q b c (step_lines (product_of m) (take n steps) (length (take n steps)))
    → Put o q a c (violation_bytes m whole rounds steps (shown (length steps) count))
violation_put m whole rounds steps count {k} {n} e f x y =
    let few : length (take n steps) ≡ n = length-take-le n steps (shown_there (length steps) count e f) in
    let lines = ap (step_lines (product_of m) (take n steps)) few ∙ lines_cut (product_of m) steps n in
    as_put (ap (violation_bytes m whole rounds steps) (is_shown (length steps) count e f)) (then_put x (as_put lines y))
