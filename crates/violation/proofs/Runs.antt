-- The states that are printed are those of the run. Assumes nothing.
use mathlib.Core.List.{List, [], ◌∷◌, ◌++◌}
use mathlib.Core.Option.{some}
use mathlib.Core.Path.{◌≡◌, refl, sym, ap, ◌∙◌, subst}
use Prim.Native.Nat.{ℕ, zero, suc, ◌+◌, ◌<◌, ◌≤◌}
use native.Mathlib.Omega.{arith}
use lib.ListN.{length, get_or, take}
use lib.Seq.{take-suc}
use Rattle.product.specs.Lists.{each}
use Rattle.product.specs.Product.{Product, Step, loaded}
use Rattle.product.specs.Runs.{State, start, step, Run}
use Rattle.product.proofs.Closed.{step_elim}
use Rattle.violation.specs.Bytes.{or_stay, stepped, state_after, step_line, step_lines}
use Rattle.violation.proofs.Lines.{lines_more}

-- the last step of a run
last : (p : Product) (ss : List Step) (s : Step) (c d : State) → Run p c (ss ++ s ∷ []) d → (b : State) × Run p c ss b × (step p s b ≡ some d)
last p [] s c d (b, e, h) = (c, refl, e ∙ ap some h)
last p (t ∷ ss) s c d (b, e, h) = let (x, r, f) = last p ss s b d h in (x, (b, e, r), f)

each_last : (xs : List ℕ) (x : ℕ) → each (xs ++ x ∷ []) loaded ≡ each xs loaded ++ loaded x ∷ []
each_last [] x = refl
each_last (y ∷ xs) x = ap (λ ss. loaded y ∷ ss) (each_last xs x)

-- whatever state the first i steps run to from the start, its property state is the one that is printed
pub states_run : (p : Product) (steps : List ℕ) (i : ℕ) (c : State) → i ≤ length steps → Run p (start p) (each (take i steps) loaded) c → c.0 ≡ state_after p steps i
states_run p steps zero c l h = ap (λ (c : State). c.0) (sym h)
states_run p steps (suc i) c l h =
    let e = ap (λ xs. each xs loaded) (take-suc steps i 0 (omega arith)) ∙ each_last (take i steps) (get_or steps i 0) in
    let (b, r, f) = last p (each (take i steps) loaded) (loaded (get_or steps i 0)) (start p) c (subst (λ ss. Run p (start p) ss c) e h) in
    to (loaded (get_or steps i 0)) b f ∙ ap (stepped p (get_or steps i 0)) (states_run p steps i b (omega arith) r)
  where
    to : (s : Step) (b : State) → step p s b ≡ some c → c.0 ≡ or_stay b.0 (p.next s b.0)
    to s b f = step_elim p s (λ b c. c.0 ≡ or_stay b.0 (p.next s b.0)) (λ q q' w e. sym (ap (or_stay q) e)) b c f

pub line_run : (p : Product) (steps : List ℕ) (i : ℕ) (c : State) → i < length steps → Run p (start p) (each (take (suc i) steps) loaded) c
    → step_lines p steps (i + 1) ≡ step_lines p steps i ++ step_line p (i + 1) (get_or steps i 0) c.0
line_run p steps i c l h =
    sym (lines_more p steps i) ∙ ap (λ s. step_lines p steps i ++ step_line p (i + 1) (get_or steps i 0) s) (sym (states_run p steps (suc i) c (omega arith) h))
