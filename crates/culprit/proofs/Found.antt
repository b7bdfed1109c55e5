-- What is found in the arrays is the first violating fact of any product with these states, final states and start. Assumes nothing.
use mathlib.Core.Bool.{Bool, true, false, cond, not, ◌&&◌, ◌||◌}
use mathlib.Core.List.{List, [], ◌∷◌, ◌++◌}
use mathlib.Core.Option.{some}
use mathlib.Core.Path.{◌≡◌, refl, sym, ap, ap₂, ◌∙◌}
use Prim.Native.Nat.{ℕ, ◌<◌}
use lib.Dec.{eqb}
use borrow.Author.Tests.{eq-eqb, ne_eqb}
use Rattle.product.specs.Lists.{up_to, over, each, find, any, all}
use Rattle.product.specs.Product.{Product}
use Rattle.product.specs.Facts.{Fact, head, triple, cells}
use Rattle.product.specs.Rounds.{held}
use Rattle.product.specs.Verdict.{violating}
use Rattle.product.specs.Table.{present, absent, ranks}
use Rattle.product.specs.Trace.{culprit}
use Rattle.product.specs.Check.{clean}
use Rattle.product.proofs.Ranks.{present_held}
use Rattle.table.specs.Cells.{view}
use Rattle.culprit.specs.First.{or_else}
use Rattle.culprit.specs.Culprit.{only_if, nothing, if_guilty, head_of, some_head, some_triple, culprit_in, clean_in}
use Rattle.culprit.proofs.First.{first_same, first_only, first_idle, find_append, find_over, find_fails}

-- none is found if all fail, and not some passes
none_all : (p : Fact → Bool) (fs : List Fact) → nothing (find p fs) ≡ all (λ f. not (p f)) fs
none_all p [] = refl
none_all p (f ∷ fs) = go (none_all p fs) (p f)
  where
    go : nothing (find p fs) ≡ all (λ f. not (p f)) fs → (b : Bool) → nothing (cond b (some f) (find p fs)) ≡ (not b && all (λ f. not (p f)) fs)
    go ih true = refl
    go ih false = ih

none_any : (p : Fact → Bool) (fs : List Fact) → all (λ f. not (p f)) fs ≡ not (any p fs)
none_any p [] = refl
none_any p (f ∷ fs) = go (none_any p fs) (p f)
  where
    go : all (λ f. not (p f)) fs ≡ not (any p fs) → (b : Bool) → (not b && all (λ f. not (p f)) fs) ≡ not (b || any p fs)
    go ih true = refl
    go ih false = ih

module _ (p : Product) (final : ℕ → Bool) (Q : ℕ) (states_are : p.states ≡ up_to Q) (final-is : (q : ℕ) → p.final q ≡ final q) (hs ts : List ℕ) where
  abbrev G : ℕ
  G = p.symbols

  abbrev there : Fact → Bool
  there = present (view G Q hs ts)

  abbrev P : Fact → Bool
  P f = violating p f && there f

  abbrev triples : (q g : ℕ) → List Fact
  triples q g = each (up_to Q) (triple q g)

  its_head : (q g : ℕ) → find P (head q g ∷ []) ≡ if_guilty final G Q hs ts (head q g)
  its_head q g = ap (λ b. only_if (b && there (head q g)) (head q g)) (final-is q)

  heads_found : find P (over (up_to Q) (λ q. each (up_to G) (head q))) ≡ some_head final G Q hs ts
  heads_found =
      find_over P Q (λ q. each (up_to G) (head q))
      ∙ first_same (λ q. find P (each (up_to G) (head q))) (head_of final G Q hs ts) Q λ q _.
      find_over P G (λ g. head q g ∷ []) ∙ first_same (λ g. find P (head q g ∷ [])) (λ g. if_guilty final G Q hs ts (head q g)) G (λ g _. its_head q g)

  -- a triple from another state or symbol is no violating one
  other_state : (q : ℕ) → (q ≡ p.start_state → ⊥) → (g e : ℕ) → P (triple q g e) ≡ false
  other_state q n g e = rw (ne_eqb q p.start_state n)

  other_symbol : (q g : ℕ) → (g ≡ p.start_symbol → ⊥) → (e : ℕ) → P (triple q g e) ≡ false
  other_symbol q g n e = rw (ne_eqb g p.start_symbol n) (go (eqb q p.start_state))
    where
      go : (b : Bool) → ((b && false && p.final e) && there (triple q g e)) ≡ false
      go true = refl
      go false = refl

  its_triple : (e : ℕ) → find P (triple p.start_state p.start_symbol e ∷ []) ≡ if_guilty final G Q hs ts (triple p.start_state p.start_symbol e)
  its_triple e =
      let t : Fact = triple p.start_state p.start_symbol e in
      rw (eq-eqb p.start_state p.start_state refl, eq-eqb p.start_symbol p.start_symbol refl) (ap (λ b. only_if (b && there t) t) (final-is e))

  module _ (i : p.start_state < Q) (j : p.start_symbol < p.symbols) where
    triples_found : find P (over (up_to Q) (λ q. over (up_to G) (λ g. triples q g))) ≡ some_triple final G Q hs ts p.start_state p.start_symbol
    triples_found =
        find_over P Q (λ q. over (up_to G) (λ g. triples q g))
        ∙ first_only (λ q. find P (over (up_to G) (λ g. triples q g))) Q p.start_state i
        (λ q n. find_over P G (triples q) ∙ first_idle (λ g. find P (triples q g)) G (λ g _. find_fails P Q (triple q g) (other_state q n g)))
        ∙ find_over P G (triples p.start_state)
        ∙ first_only (λ g. find P (triples p.start_state g)) G p.start_symbol j (λ g n. find_fails P Q (triple p.start_state g) (other_symbol p.start_state g n))
        ∙ find_over P Q (λ e. triple p.start_state p.start_symbol e ∷ [])
        ∙ first_same (λ e. find P (triple p.start_state p.start_symbol e ∷ [])) (λ e. if_guilty final G Q hs ts (triple p.start_state p.start_symbol e)) Q (λ e _. its_triple e)

    pub culprit_found : culprit_in final G Q hs ts p.start_state p.start_symbol ≡ find P (cells p)
    culprit_found =
        sym (find_append P (over (up_to Q) (λ q. each (up_to G) (head q))) (over (up_to Q) (λ q. over (up_to G) (λ g. triples q g))) ∙ ap₂ or_else heads_found triples_found)
        ∙ ap (λ S. find P (over S (λ q. each (up_to G) (head q)) ++ over S (λ q. over (up_to G) (λ g. each S (triple q g))))) (sym states_are)

    -- it is none exactly if no violating fact is there
    pub clean_found : clean_in final G Q hs ts p.start_state p.start_symbol ≡ clean p there
    clean_found = ap nothing culprit_found ∙ none_all P (cells p)

    -- where the arrays hold the ranks up to n: the violating fact that is held after round n
    module _ (n : ℕ) (l : n < absent) (e : view G Q hs ts ≡ ranks p n) where
      held_is : there ≡ held p n
      held_is = ap present e ∙ present_held p n l

      pub culprit_held : culprit_in final G Q hs ts p.start_state p.start_symbol ≡ culprit p n
      culprit_held = culprit_found ∙ ap (λ (h : Fact → Bool). find (λ f. violating p f && h f) (cells p)) held_is
