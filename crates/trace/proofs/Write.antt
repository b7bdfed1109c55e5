-- The trace of the violating fact is the trace of the verdict; and whether it fits. Assumes nothing.
use mathlib.Core.List.{List}
use mathlib.Core.Option.{Option, none, some}
use mathlib.Core.Path.{◌≡◌, refl, sym, ap, ◌∙◌, subst, subst⁻¹}
use mathlib.Core.Bool.{◌&&◌}
use Prim.Native.Nat.{ℕ, ◌<◌, ◌≤◌}
use native.Mathlib.Omega.{arith}
use lib.Dec.{T}
use borrow.Author.Tests.{le-leb, lt-leb}
use lib.ListN.{length}
use Rattle.product.specs.Lists.{each}
use Rattle.product.specs.Product.{Product, Step, stored}
use Rattle.product.specs.Facts.{Fact, cells}
use Rattle.product.specs.Rounds.{held}
use Rattle.product.specs.Verdict.{violating}
use Rattle.product.specs.Trace.{culprit, trace, trace_to}
use Rattle.product.proofs.Lists.{and_right, length_each}
use Rattle.model.specs.declared.Model.{Model}
use Rattle.model.specs.declared.Shape.{Shape}
use Rattle.lent.specs.Lending.{shape_in, of_lent, model_in, product_in}
use Rattle.model.specs.Model.{product_of}
use Rattle.model.proofs.Bounds.{start_state_in, start_symbol_in}
use Rattle.text.specs.Put.{Put}
use Rattle.table.specs.declared.Size.{Size}
use Rattle.table.specs.Cells.{view}
use Rattle.fitting.specs.Fits.{size_of}
use Rattle.table.proofs.Places.{fact_back}
use Rattle.trace.specs.declared.Traced.{Traced}
use Rattle.trace.specs.declared.TraceError.{TraceError}
use Rattle.trace.specs.declared.TraceError.TheVariants.{Cut}
use Rattle.std.specs.Prelude.{Result, Ok, Err}
use Rattle.culprit.specs.Culprit.{Goal, goal_as, culprit_in}
use Rattle.explain.specs.Search.{why_in}
use Rattle.trace.specs.Unfold.{HeldFor, steps_for, Unfolded}
use Rattle.trace.specs.Written.{Ranked, violation_steps, Written}
use Rattle.culprit.proofs.First.{find_elim}
use Rattle.culprit.proofs.Found.{culprit_held}
use Rattle.trace.proofs.Ranked.{explains_ranked}

module _ (p : Product) (n : ℕ) where
  goal_held : (o : Option Fact) → culprit p n ≡ o → HeldFor p n (goal_as o)
  goal_held none e = tt
  goal_held (some f) e = subst⁻¹ (λ f. T (held p n f)) (fact_back f) (and_right (violating p f) (held p n f) (find_elim (λ f. violating p f && held p n f) (cells p) f e).1)

  goal_trace : (o : Option Fact) → steps_for (trace p n) (goal_as o) ≡ trace_to p n o
  goal_trace none = refl
  goal_trace (some f) = ap (trace p n) (fact_back f)

module _ (m : Model) (n : ℕ) (hs ts : List ℕ) (R : Ranked m n hs ts) {f : Goal}
    (taken : f ≡ goal_as (culprit_in (product_of m).final m.symbols m.states hs ts m.startstate m.startsymbol)) {room room' : List ℕ} {at : ℕ}
    (u : Unfolded (view m.symbols m.states hs ts) (why_in (product_of m) m.symbols m.states hs ts m.rules m.moves) f room 0 at room') where
  is_culprit : f ≡ goal_as (culprit (product_of m) n)
  is_culprit = taken ∙ ap goal_as (culprit_held (product_of m) (product_of m).final m.states refl (λ _. refl) hs ts (start_state_in m R.valid_model) (start_symbol_in m R.valid_model) n R.small R.table)

  wrote : Put room room' 0 at (each (violation_steps m n) stored)
  wrote =
      subst (λ (ss : List Step). Put room room' 0 at (each ss stored)) (ap (steps_for (trace (product_of m) n)) is_culprit ∙ goal_trace (product_of m) n (culprit (product_of m) n))
      (u.steps (product_of m) n (explains_ranked m R.valid_model n R.small hs ts R.table) (subst⁻¹ (HeldFor (product_of m) n) is_culprit (goal_held (product_of m) n (culprit (product_of m) n) refl)))

  pub written_cut : {k : ℕ} → k ≡ length room → k < at → Written m n room (Err (Cut n k)) room'
  written_cut {k} e l = record {
    answer =
        let i : length room < length (violation_steps m n) = omega (arith, wrote.place, length_each (violation_steps m n) stored) in
        rw (lt-leb (length (violation_steps m n)) (length room) i) (ap (λ k. Err (Cut n k)) e);
    cells = wrote.cells;
  }

  pub written_whole : {k : ℕ} → k ≡ length room → at ≤ k → Written m n room (Ok (record { rounds = n; steps = at })) room'
  written_whole {k} same l = record {
    answer =
        let e : at ≡ length (violation_steps m n) = omega (arith, wrote.place, length_each (violation_steps m n) stored) in
        let i : length (violation_steps m n) ≤ length room = omega arith in
        rw (le-leb (length (violation_steps m n)) (length room) i) (ap (λ k. Ok (record { rounds = n; steps = k })) e);
    cells = wrote.cells;
  }

-- what was found and unfolded by the lent model and its size, of the shape that was read; and the whole by that shape
module _ (cells : List ℕ) {s : Shape} (read : s ≡ shape_in cells) where
  module _ {z : Size} (asked : z ≡ size_of (model_in cells)) where
    size_is : z ≡ size_of (of_lent s cells)
    unfolding model_in
    size_is = asked ∙ sym (ap (λ (s : Shape). size_of (of_lent s cells)) read)

    pub taken_by : (hs ts : List ℕ) (q g : ℕ) {f : Goal} → f ≡ goal_as (culprit_in (product_in cells).final z.symbols z.states hs ts q g)
        → f ≡ goal_as (culprit_in (product_of (of_lent s cells)).final s.symbols s.states hs ts q g)
    unfolding model_in
    taken_by hs ts q g e = e ∙ ap (λ (z : Size). goal_as (culprit_in (product_in cells).final z.symbols z.states hs ts q g)) size_is

    pub unfolded_by : (hs ts : List ℕ) (n k : ℕ) {f : Goal} {room room' : List ℕ} {at at' : ℕ}
        → Unfolded (view z.symbols z.states hs ts) (why_in (product_in cells) z.symbols z.states hs ts n k) f room at at' room'
        → Unfolded (view s.symbols s.states hs ts) (why_in (product_of (of_lent s cells)) s.symbols s.states hs ts n k) f room at at' room'
    unfolding model_in
    unfolded_by hs ts n k {f} {room} {room'} {at} {at'} u =
        subst⁻¹ (λ (x : Shape). Unfolded (view s.symbols s.states hs ts) (why_in (product_of (of_lent x cells)) s.symbols s.states hs ts n k) f room at at' room') read
        (subst (λ (z : Size). Unfolded (view z.symbols z.states hs ts) (why_in (product_in cells) z.symbols z.states hs ts n k) f room at at' room') size_is u)

  pub ranked_by : {n : ℕ} {hs ts : List ℕ} → Ranked (model_in cells) n hs ts → Ranked (of_lent s cells) n hs ts
  unfolding model_in
  ranked_by {n} {hs} {ts} = subst⁻¹ (λ (s : Shape). Ranked (of_lent s cells) n hs ts) read

  pub written_by : {n : ℕ} {room room' : List ℕ} {r : Result Traced TraceError} → Written (of_lent s cells) n room r room' → Written (model_in cells) n room r room'
  unfolding model_in
  written_by {n} {room} {room'} {r} = subst (λ (s : Shape). Written (of_lent s cells) n room r room') read
