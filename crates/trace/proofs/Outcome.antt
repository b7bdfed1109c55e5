-- From the decision to the trace: the arrays after a violation are its table; and any two outcomes that the contract allows coincide. Assumes nothing.
use mathlib.Core.Bool.{Bool, true, false, cond}
use mathlib.Core.List.{List, [], ◌∷◌, ◌++◌}
use mathlib.Core.Option.{Option, none, some}
use mathlib.Core.Path.{◌≡◌, refl, sym, ap, ap₂, ◌∙◌}
use Prim.Native.Nat.{ℕ, ◌<◌, ◌≤◌}
use native.Mathlib.Omega.{arith}
use lib.Dec.{leb, eqb}
use lib.ListN.{length, drop}
use lib.Seq.{sets}
use Rattle.product.specs.Answer.{Answer, answered, refused}
use Rattle.product.specs.Product.{Product}
use Rattle.product.specs.Verdict as product
use Rattle.product.specs.Verdict.{Verdict, violation, ran}
use Rattle.product.specs.Table.{absent, ranks}
use Rattle.product.proofs.Lists.{length_up_to}
use Rattle.product.proofs.Answer.{apart}
use Rattle.product.proofs.Budget.{answer_is}
use Rattle.product.proofs.Verdict.{rounds_bound}
use Rattle.product.proofs.Demands.{bound_small}
use Rattle.model.specs.declared.Model.{Model}
use Rattle.model.specs.Model.{product_of}
use Rattle.model.proofs.Valid.{product_in_lem, valid_sizes}
use Rattle.table.specs.Cells.{view, heads_of, triples_of}
use Rattle.decide.specs.Decided as decide
use Rattle.decide.specs.Decided.{Decision, within, decision, heads_left, triples_left, Decided}
use Rattle.fitting.specs.Fits.{heads_of as head_count, triples_of as triple_count, Fits}
use Rattle.fitting.proofs.Tested.{tested_well, guarded_by}
use Rattle.trace.specs.declared.TraceError.TheVariants.{Undecided, Safe, Cut}
use Rattle.fitting.specs.declared.Unfit.TheVariants.{Invalid, Short}
use Rattle.decide.specs.declared.Verdict.TheVariants.{Violation}
use Rattle.decide.specs.declared.DecideError.{DecideError}
use Rattle.decide.specs.declared.DecideError.TheVariants.{Refused, Spent}
use Rattle.std.specs.Prelude.{Ok, Err}
use Rattle.std.specs.Result.{IsErrAnd}
use Rattle.trace.specs.Written.{Ranked, violation_steps, Written}
use Rattle.trace.specs.Outcome.{TraceAnswer, Trace, traced, meaning, traced_by, steps_by, Outcome}
use Rattle.decide.proofs.Laid.{ranks_laid}

-- a verdict was answered: the model is valid, the arrays are long enough, and the rounds gave it
module _ (m : Model) (budget h t : ℕ) (v : Verdict) where
  pub record Answered : Type 0 where
    pub fits : Fits m h t
    pub verdict_is : product.answer (product_of m) budget ≡ some v

  pub answered_by : answered v ≡ decision m budget h t → Answered
  unfolding decision
  answered_by e =
      let (f, k) = guarded_by m h t (within budget (product.answer (product_of m) budget)) (answered v) e (never 6) (never 7) in
      record { fits = f; verdict_is = go (product.answer (product_of m) budget) k }
    where
      never : (n : ℕ) → answered v ≡ refused n (0 ∷ []) → ⊥
      never n e = let z : ◌≡◌ {A = ℕ} 0 1 = cc in omega arith

      go : (o : Option Verdict) → answered v ≡ within budget o → o ≡ some v
      go (some w) e = let z : w ≡ v = cc in ap some z
      go none e = let z : ◌≡◌ {A = ℕ} 0 1 = cc in absurd (omega arith)

-- the arrays that a violation leaves
module _ (m : Model) (budget : ℕ) (hs ts hs' ts' : List ℕ) {r : Decision} (D : Decided m budget hs ts r hs' ts') (n : ℕ) (told : r ≡ Ok (Violation n)) where
  is_violation : Answered m budget (length hs) (length ts) (violation n)
  is_violation = answered_by m budget (length hs) (length ts) (violation n) (sym (ap decide.meaning told) ∙ D.answer)

  laid_heads : hs' ≡ heads_of m.symbols m.states (ranks (product_of m) n) ++ drop (head_count m) hs
  unfolding heads_left
  laid_heads =
      D.heads ∙ tested_well m (length hs) (length ts) is_violation.fits _ _ _
      ∙ ap (λ o. heads_of m.symbols m.states (ranks (product_of m) (ran budget o)) ++ drop (head_count m) hs) is_violation.verdict_is

  laid_triples : ts' ≡ triples_of m.symbols m.states (ranks (product_of m) n) ++ drop (triple_count m) ts
  unfolding triples_left
  laid_triples =
      D.triples ∙ tested_well m (length hs) (length ts) is_violation.fits _ _ _
      ∙ ap (λ o. triples_of m.symbols m.states (ranks (product_of m) (ran budget o)) ++ drop (triple_count m) ts) is_violation.verdict_is

  few_rounds : n < absent
  few_rounds =
      let z = valid_sizes m is_violation.fits.valid_model in
      let p : Product = product_of m in
      let (v, _) = answer_is p budget (violation n) is_violation.verdict_is in
      let a : n ≤ product.bound p = rounds_bound p (product_in_lem m is_violation.fits.valid_model) (violation n) v in
      let b : product.bound p ≤ 2304 = bound_small p z.symbols (omega (arith, length_up_to m.states, z.states)) in
      omega arith

  pub ranked : Ranked m n hs' ts'
  ranked = record {
    valid_model = is_violation.fits.valid_model;
    small = few_rounds;
    table =
        ap₂ (view m.symbols m.states) laid_heads laid_triples
        ∙ ranks_laid m is_violation.fits.valid_model n (drop (head_count m) hs) (drop (triple_count m) ts);
  }

  -- the trace that was written from them
  pub outcome_traced : {room room' : List ℕ} {d : TraceAnswer} → Written m n room d room' → Outcome m budget hs ts room d hs' ts' room'
  outcome_traced {room} {room'} {d} w =
      let e : answered (violation n) ≡ decision m budget (length hs) (length ts) = sym (ap decide.meaning told) ∙ D.answer in
      record {
        answer = ap meaning w.answer ∙ as_fits (leb (length (violation_steps m n)) (length room)) ∙ ap (traced_by m (length room)) e;
        heads = D.heads;
        triples = D.triples;
        steps = w.cells ∙ ap (λ x. sets room 0 (steps_by m x)) e;
      }
    where
      as_fits : (b : Bool) → meaning (cond b (Ok (record { rounds = n; steps = length (violation_steps m n) })) (Err (Cut n (length room)))) ≡ cond b (answered (traced n (length (violation_steps m n)))) (refused 10 (n ∷ length room ∷ []))
      as_fits true = refl
      as_fits false = refl

-- the other answers leave the room as it was
pub outcome_other : (m : Model) (budget : ℕ) (hs ts hs' ts' room : List ℕ) {r : Decision} → Decided m budget hs ts r hs' ts'
    → (r' : Decision) → r ≡ r' → (d : TraceAnswer) → meaning d ≡ traced_by m (length room) (decide.meaning r') → steps_by m (decide.meaning r') ≡ []
    → Outcome m budget hs ts room d hs' ts' room
outcome_other m budget hs ts hs' ts' room D r' told d a b =
    let e : decide.meaning r' ≡ decision m budget (length hs) (length ts) = sym (ap decide.meaning told) ∙ D.answer in
    record {
      answer = a ∙ ap (traced_by m (length room)) e;
      heads = D.heads;
      triples = D.triples;
      steps = ap (sets room 0) (sym b ∙ ap (steps_by m) e);
    }

-- as `?` passes on why there is no verdict
pub passed_on : (m : Model) (budget : ℕ) (hs ts hs' ts' room : List ℕ) (e : DecideError) → Decided m budget hs ts (Err e) hs' ts'
    → (d : TraceAnswer) → IsErrAnd d (λ x. x ≡ Undecided e) → Outcome m budget hs ts room d hs' ts' room
passed_on m budget hs ts hs' ts' room (Refused Invalid) D (Err x) n = rw n (outcome_other m budget hs ts hs' ts' room D _ refl _ refl refl)
passed_on m budget hs ts hs' ts' room (Refused Short) D (Err x) n = rw n (outcome_other m budget hs ts hs' ts' room D _ refl _ refl refl)
passed_on m budget hs ts hs' ts' room (Spent b) D (Err x) n = rw n (outcome_other m budget hs ts hs' ts' room D _ refl _ refl refl)
passed_on m budget hs ts hs' ts' room (Refused Invalid) D (Ok x) n = absurd n
passed_on m budget hs ts hs' ts' room (Refused Short) D (Ok x) n = absurd n
passed_on m budget hs ts hs' ts' room (Spent b) D (Ok x) n = absurd n

-- the case that has a meaning
abbrev meant : Answer Trace → TraceAnswer
meant (answered (traced n k)) = Ok (record { rounds = n; steps = k })
meant (refused k []) = Err (Undecided (Refused Invalid))
meant (refused k (a ∷ [])) =
    cond (eqb k 6) (Err (Undecided (Refused Invalid)))
    (cond (eqb k 7) (Err (Undecided (Refused Short))) (cond (eqb k 8) (Err (Undecided (Spent a))) (Err (Safe a))))
meant (refused k (a ∷ b ∷ rest)) = Err (Cut a b)

meant_meaning : (r : TraceAnswer) → meant (meaning r) ≡ r
meant_meaning (Ok t) = refl
meant_meaning (Err (Undecided (Refused Invalid))) = refl
meant_meaning (Err (Undecided (Refused Short))) = refl
meant_meaning (Err (Undecided (Spent b))) = refl
meant_meaning (Err (Safe n)) = refl
meant_meaning (Err (Cut n k)) = refl

pub meaning_one : (r r' : TraceAnswer) → meaning r ≡ meaning r' → r ≡ r'
meaning_one = apart meant meant_meaning

pub outcome_one : (m : Model) (budget : ℕ) (hs ts room : List ℕ) (r r' : TraceAnswer) (hs' hs'' ts' ts'' room' room'' : List ℕ)
    → Outcome m budget hs ts room r hs' ts' room' → Outcome m budget hs ts room r' hs'' ts'' room'' → (r ≡ r') × (hs' ≡ hs'') × (ts' ≡ ts'') × (room' ≡ room'')
outcome_one m budget hs ts room r r' hs' hs'' ts' ts'' room' room'' a b = (
  meaning_one r r' (a.answer ∙ sym b.answer),
  a.heads ∙ sym b.heads,
  a.triples ∙ sym b.triples,
  a.steps ∙ sym b.steps,
)
