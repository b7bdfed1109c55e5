-- A step of a model's product is what the document says it is. Assumes nothing.
use mathlib.Core.Bool.{Bool, true, false, cond}
use mathlib.Core.List.{List, ◌∷◌, ◌++◌}
use mathlib.Core.Logic.{◌↔◌}
use mathlib.Core.Option.{none, some}
use mathlib.Core.Path.{◌≡◌, refl, sym, ap, ◌∙◌, subst}
use Prim.Native.Nat.{ℕ}
use lib.Dec.{T, eqb, ltb, eqb→eq, ltb→lt}
use borrow.Author.Tests.{lt-ltb, eq-eqb}
use Rattle.product.specs.Product.{symbol, pushed, Step}
use Rattle.product.specs.Runs.{State, step}
use Rattle.product.proofs.Lists.{and_left, and_right, T_true}
use Rattle.product.proofs.Closed.{none_some, step_of_lem, step_elim}
use Rattle.model.specs.declared.Model.{Model}
use Rattle.model.specs.Model.{rule, move, shown, fits_at, there, product_of, Fits, Makes}

module _ (m : Model) (s : Step) where
  -- rule and move fit, by the rows alone
  abbrev fit : ℕ → Bool
  fit q = fits_at (rule m s.by_rule) (move m s.by_move) m.shows q

  fits_is : (q : ℕ) → T (there m s) → T (fit q) → Fits m s q (symbol (rule m s.by_rule))
  fits_is q u v =
      let a : Bool = ltb s.by_rule m.rules in
      let b : Bool = ltb s.by_move m.moves in
      let c : Bool = eqb (move m s.by_move).source q in
      let d : Bool = shown m (symbol (rule m s.by_rule)) (move m s.by_move).event in
      record {
        rule_there = ltb→lt s.by_rule m.rules (and_left a b u);
        move_there = ltb→lt s.by_move m.moves (and_right a b u);
        top = refl;
        here = eqb→eq (move m s.by_move).source q (and_left c d v);
        seen = and_right c d v;
      }

  -- the next state, where there is one
  pub next_is : (q q' : ℕ) → (product_of m).next s q ≡ some q' → Fits m s q (symbol (rule m s.by_rule)) × ((move m s.by_move).target ≡ q')
  next_is q q' e = go (there m s) (fit q) refl refl e
    where
      go : (a b : Bool) → there m s ≡ a → fit q ≡ b → cond a (cond b (some (move m s.by_move).target) none) none ≡ some q'
          → Fits m s q (symbol (rule m s.by_rule)) × ((move m s.by_move).target ≡ q')
      go true true x y e = (fits_is q (rw x tt) (rw y tt), cc)
      go true false x y e = none_some e
      go false b x y e = none_some e

  pub fits_next : (q g : ℕ) → Fits m s q g → (product_of m).next s q ≡ some (move m s.by_move).target
  fits_next q g h = rw (
    lt-ltb s.by_rule m.rules h.rule_there,
    lt-ltb s.by_move m.moves h.move_there,
    eq-eqb (move m s.by_move).source q h.here,
    h.top,
    T_true (shown m g (move m s.by_move).event) h.seen,
  )

  -- a rule and a move make a step of the product exactly if the document says so
  pub step_is : (c d : State) → (step (product_of m) s c ≡ some d) ↔ Makes m s c d
  step_is c d = (step_elim (product_of m) s (Makes m s) to c d, from c d)
    where
      to : (q q' : ℕ) (w : List ℕ) → (product_of m).next s q ≡ some q' → Makes m s (q, symbol (rule m s.by_rule) ∷ w) (q', pushed (rule m s.by_rule) ++ w)
      to q q' w e = let (h, i) = next_is q q' e in (h, cc)

      from : (c d : State) → Makes m s c d → step (product_of m) s c ≡ some d
      from (q, g ∷ w) d (h, e) =
          subst (λ g. step (product_of m) s (q, g ∷ w) ≡ some d) h.top
          (step_of_lem (product_of m) s q (move m s.by_move).target w (fits_next q g h) ∙ ap some (sym e))
      from (q, mathlib.Core.List.[]) d x3 = elim x3 [ ]
