-- An accepted reading gives a valid record that says exactly what the lines say. Assumes nothing.
use mathlib.Core.Bool.{Bool, true, false, ◌||◌}
use mathlib.Core.List.{List, [], ◌∷◌}
use mathlib.Core.Logic.{inl, inr}
use mathlib.Core.Path.{◌≡◌, refl, ap, sym, ◌∙◌, subst}
use Prim.Native.Nat.{ℕ, ◌+◌}
use native.Mathlib.Omega.{arith}
use lib.Dec.{T, eqb, ltb}
use lib.ListN.{length, get_or}
use borrow.Author.Tests.{eqb-true, eqb-false, lt-ltb, le-leb}
use Rattle.text.specs.Split.{pick, first, later, split}
use Rattle.product.specs.Lists.{up_to, all}
use Rattle.product.proofs.Lists.{All-up_to, all_of, both}
use Rattle.modelline.specs.Line.{line_of}
use Rattle.product.specs.Answer.{Answer, answered, refused}
use Rattle.model.specs.declared.Model.{Model}
use Rattle.model.specs.Valid.{valid, rule_in, move_in}
use Rattle.model.proofs.Valid.{valid_sizes}
use Rattle.lent.specs.Lending.{packed, model_in, Sized}
use Rattle.lent.proofs.Packed.{packed_is}
use Rattle.draft.specs.Draft.{Draft}
use Rattle.std.specs.Prelude.{Result, Ok, Err}
use Rattle.line.specs.declared.fault.Fault.TheVariants.{Malformed, Misplaced, OutOfRange, TooMany}
use Rattle.line.specs.declared.fault.TextError.{TextError}
use Rattle.line.specs.declared.fault.TextError.TheVariants.{TooLong, Line}
use Rattle.line.proofs.Faults.{fault_by}
use Rattle.reader.specs.Reading.{meaning, empty, model_of, Read}
use Rattle.draft.specs.Lines.{take_line}
use Rattle.reader.specs.Text.{fresh, finished, read_from, read_model}
use Rattle.reader.specs.Says.{Said, and_line, gathered, said, Says}
use Rattle.reader.proofs.Good.{Good}
use Rattle.reader.proofs.Steps.{Held, line_kept}
use Rattle.reader.proofs.Leaves.{sized_empty}

module _ {s : Said} {d : Draft} (h : Good s d) (started : d.started ≡ 0 → ⊥) where
  good_says : Says s d.model
  good_says = record {
    sized = h.sizes.same;
    started = h.start.one started;
    finals = h.finals.same;
    events = λ g e l. ap (λ b. eqb e 0 || b) (h.events.same g e l);
    rules = h.rules.same;
    moves = h.moves.same;
  }

  good_valid : T (valid d.model)
  unfolding valid
  good_valid =
      let z = h.sizes in
      rw (
        le-leb 1 d.model.symbols z.some_symbol,
        le-leb d.model.symbols 32 z.most_symbols,
        le-leb 1 d.model.states z.some_state,
        le-leb d.model.states 8 z.most_states,
        le-leb 1 d.model.events z.some_event,
        le-leb d.model.events 16 z.most_events,
        le-leb d.model.rules 256 h.rules.few,
        le-leb d.model.moves 128 h.moves.few,
        lt-ltb d.model.startstate d.model.states (h.start.state_in started),
        lt-ltb d.model.startsymbol d.model.symbols (h.start.symbol_in started),
      )
      (both (all (rule_in d.model) (up_to d.model.rules)) (all (move_in d.model) (up_to d.model.moves))
      (all_of (λ r. T (rule_in d.model r)) (rule_in d.model) (λ _ t. t) (up_to d.model.rules) (All-up_to (λ r. T (rule_in d.model r)) d.model.rules h.rules.all_in))
      (all_of (λ v. T (move_in d.model v)) (move_in d.model) (λ _ t. t) (up_to d.model.moves) (All-up_to (λ v. T (move_in d.model v)) d.model.moves h.moves.all_in)))

  good_sized : Sized d.model
  good_sized = record { rules = h.rules.room; moves = h.moves.room; shows = h.events.room; finals = h.finals.room }

-- what an accepted reading gives
pub record Gives (s : Said) (m : Model) : Type 0 where
  pub says : Says s m
  pub is_valid : T (valid m)
  pub sized : Sized m

abbrev pub Right : Said → Answer Model → Type 0
Right s (answered m) = Gives s m
Right s (refused number values) = Unit {0}

-- after the last line
finished_right : {s : Said} {d : Draft} → Held s d → Right s (finished d)
unfolding empty
finished_right (inl (p, q)) = rw q tt
finished_right {s} {d} (inr h) = go (eqb d.started 0) refl
  where
    go : (b : Bool) → eqb d.started 0 ≡ b → Right s (pick b (refused 3 (0 ∷ [])) (answered d.model))
    go true p = tt
    go false p =
        let started = eqb-false d.started 0 p in
        record { says = good_says h started; is_valid = good_valid h started; sized = good_sized h started }

read_right : (n : ℕ) {s : Said} (d : Draft) (l : List ℕ) (ls : List (List ℕ)) → Held s d → Right (gathered s l ls) (read_from n d l ls)
unfolding read_from
read_right n {s} d l [] h = go (ltb 0 (length l))
  where
    go : (b : Bool) → Right s (pick b (refused 2 (n ∷ [])) (finished d))
    go true = tt
    go false = finished_right h
read_right n {s} d l (k ∷ ls) h =
    go (λ g. read_right (n + 1) (take_line d (line_of (split 9 l))).draft k ls (inr g)) (eqb (take_line d (line_of (split 9 l))).refusal 0) refl
  where
    go : (Good (and_line s (line_of (split 9 l))) (take_line d (line_of (split 9 l))).draft
        → Right (gathered (and_line s (line_of (split 9 l))) k ls) (read_from (n + 1) (take_line d (line_of (split 9 l))).draft k ls))
        → (b : Bool) → eqb (take_line d (line_of (split 9 l))).refusal 0 ≡ b
        → Right (gathered s l (k ∷ ls))
        (pick b (read_from (n + 1) (take_line d (line_of (split 9 l))).draft k ls) (refused (take_line d (line_of (split 9 l))).refusal (n ∷ [])))
    go rest true p = rest (line_kept (line_of (split 9 l)) h (eqb-true _ 0 p))
    go rest false p = tt

pub accepted_right : (s : List ℕ) → Right (said s) (read_model s)
unfolding read_model said
accepted_right s = go (ltb 16384 (length s))
  where
    go : (b : Bool) → Right (said s) (pick b (refused 1 (0 ∷ [])) (read_from 1 fresh (first 10 s) (later 10 s)))
    go true = tt
    go false = read_right 1 fresh (first 10 s) (later 10 s) (inl (refl, refl))

accepted_gives : (s : List ℕ) {m : Model} → read_model s ≡ answered m → Gives (said s) m
accepted_gives s e = subst (Right (said s)) e (accepted_right s)

-- an accepted reading gives a valid record
pub accepted_valid : (s : List ℕ) {m : Model} → read_model s ≡ answered m → T (valid m)
accepted_valid s e = (accepted_gives s e).is_valid

-- and one that says exactly what the lines say
pub accepted_says : (s : List ℕ) {m : Model} → read_model s ≡ answered m → Says (said s) m
accepted_says s e = (accepted_gives s e).says

empty_is : model_in (packed empty) ≡ empty
unfolding empty
empty_is = packed_is empty sized_empty (omega arith) (omega arith)

-- the bytes that a reading leaves are the record that it gives
pub read_is : (s : List ℕ) → model_in (packed (model_of (read_model s))) ≡ model_of (read_model s)
read_is s = go (read_model s) (accepted_right s)
  where
    go : (a : Answer Model) → Right (said s) a → model_in (packed (model_of a)) ≡ model_of a
    go (answered m) g = let z = valid_sizes m g.is_valid in packed_is m g.sized (let l = z.rules in omega arith) (let l = z.moves in omega arith)
    go (refused number values) g = empty_is

-- the code's answer, out of what it means
abbrev back : Answer Model → Result (Unit {0}) TextError
back (answered m) = Ok tt
back (refused number values) = Err (pick (eqb number 1) TooLong (Line (fault_by number) (get_or values 0 0)))

back_is : (r : Result (Unit {0}) TextError) (m : Model) → back (meaning r m) ≡ r
back_is (Ok x) m = refl
back_is (Err TooLong) m = refl
back_is (Err (Line Malformed line)) m = refl
back_is (Err (Line Misplaced line)) m = refl
back_is (Err (Line OutOfRange line)) m = refl
back_is (Err (Line TooMany line)) m = refl

-- what the contract allows is one outcome
pub one_outcome : {a : Answer Model} {r r' : Result (Unit {0}) TextError} {cells cells' : List ℕ} → Read a r cells → Read a r' cells' → (r ≡ r') × (cells ≡ cells')
one_outcome {a} {r} {r'} x y =
    (sym (back_is r (model_of a)) ∙ ap back (x.answer ∙ sym y.answer) ∙ back_is r' (model_of a), x.bytes ∙ sym y.bytes)
