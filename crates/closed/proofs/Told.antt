-- Whether a rule is closed, by what the code was answered: a direct step, a call, and the rule. Assumes nothing.
use mathlib.Core.Bool.{Bool, true, false, ◌&&◌}
use mathlib.Core.List.{List}
use mathlib.Core.Path.{◌≡◌, sym, ap, ap₂, ◌∙◌}
use Prim.Native.Nat.{ℕ}
use Rattle.product.specs.Product.{Rule, symbol}
use Rattle.bits.specs.Matrix.{multiplied, image}
use Rattle.model.proofs.Counted.{passed, failed}
use Rattle.closed.specs.Closed.{of_symbol, included, erasing, heads_there, rule_closed}

module _ (ts : List ℕ) (s g1 : ℕ) {a : ℕ} (top : a ≡ of_symbol ts g1) where
  pub erasing_direct : {r : ℕ} → r ≡ multiplied s a → r ≡ multiplied s (of_symbol ts g1)
  erasing_direct e = e ∙ ap (multiplied s) top

  pub erasing_call : (g2 : ℕ) {b r r' : ℕ} → b ≡ of_symbol ts g2 → r ≡ multiplied a b → r' ≡ multiplied s r → r' ≡ multiplied s (multiplied (of_symbol ts g1) (of_symbol ts g2))
  erasing_call g2 under e e' = e' ∙ ap (multiplied s) (e ∙ ap₂ multiplied top under)

module _ (ts hs : List ℕ) (x g1 : ℕ) {a : ℕ} {b : Bool} (top : a ≡ of_symbol hs g1) (tested : b ≡ included x a) where
  pub heads_direct : b ≡ included x (of_symbol hs g1)
  heads_direct = tested ∙ ap (included x) top

  abbrev Both : (g2 : ℕ) → Bool
  Both g2 = included x (of_symbol hs g1) && included (image x (of_symbol ts g1)) (of_symbol hs g2)

  pub heads_not : (g2 : ℕ) → b ≡ false → false ≡ Both g2
  heads_not g2 n = rw (failed heads_direct n)

  pub heads_call : (g2 : ℕ) {e y d : ℕ} {b' : Bool} → b ≡ true → e ≡ of_symbol ts g1 → y ≡ image x e → d ≡ of_symbol hs g2 → b' ≡ included y d
      → b' ≡ Both g2
  heads_call g2 n erased back under tested' =
      tested' ∙ ap₂ included (back ∙ ap (image x) erased) under ∙ ap (λ c. c && included (image x (of_symbol ts g1)) (of_symbol hs g2)) (sym (passed heads_direct n))

module _ (ts hs : List ℕ) (s : ℕ) (ρ : Rule) {g m a : ℕ} {b : Bool} (is : g ≡ symbol ρ) (gives : m ≡ erasing ts s ρ) (own : a ≡ of_symbol ts g) (tested : b ≡ included m a) where
  erased_is : b ≡ included (erasing ts s ρ) (of_symbol ts (symbol ρ))
  erased_is = tested ∙ ap₂ included gives (own ∙ ap (of_symbol ts) is)

  pub not_closed : b ≡ false → false ≡ rule_closed ts hs s ρ
  unfolding rule_closed
  not_closed n = rw (failed erased_is n)

  pub closed_by : b ≡ true → {h x : ℕ} {c : Bool} → h ≡ of_symbol hs g → x ≡ image h s → c ≡ heads_there ts hs x ρ → c ≡ rule_closed ts hs s ρ
  unfolding rule_closed
  closed_by n held lands there =
      there ∙ ap (λ x. heads_there ts hs x ρ) (lands ∙ ap (λ v. image v s) (held ∙ ap (of_symbol hs) is))
      ∙ ap (λ b. b && heads_there ts hs (image (of_symbol hs (symbol ρ)) s) ρ) (sym (passed erased_is n))
