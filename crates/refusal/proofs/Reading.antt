-- The line of a refused reading is a small number; and what is printed of a text, by what was read. Assumes nothing.
use mathlib.Core.Bool.{Bool, true, false}
use mathlib.Core.List.{List, [], ◌∷◌}
use mathlib.Core.Path.{◌≡◌, refl, ap, ap₂, sym, ◌∙◌, subst, subst⁻¹}
use Prim.Native.Nat.{ℕ, ◌+◌, ◌<◌, ◌≤◌}
use native.Mathlib.Omega.{arith}
use lib.Dec.{T, eqb, ltb}
use lib.ListN.{length}
use lib.Seq.{sets}
use borrow.Author.Tests.{ltb-false}
use Rattle.text.specs.Split.{pick, first, later, split}
use Rattle.modelline.specs.Line.{line_of}
use Rattle.product.specs.Answer.{Answer, answered, refused}
use Rattle.model.specs.declared.Model.{Model}
use Rattle.model.specs.Valid.{valid}
use Rattle.lent.specs.Lending.{model_in}
use Rattle.text.specs.Put.{Put}
use Rattle.text.proofs.Puts.{as_put, none_put}
use Rattle.draft.specs.Draft.{Draft}
use Rattle.draft.specs.Lines.{take_line}
use Rattle.reader.proofs.Accepted.{accepted_valid, read_is}
use Rattle.std.specs.Prelude.{Result, Ok, Err}
use Rattle.std.specs.Result.{is_ok}
use Rattle.line.specs.declared.fault.TextError.{TextError}
use Rattle.line.specs.Fault.{text_number, text_line}
use Rattle.reader.specs.Reading.{model_of, Read}
use Rattle.reader.specs.Text.{fresh, read_from, read_model}
use Rattle.refusal.specs.Refusal.{line_in, is_answered, unless_refused, refused_bytes, refusal_bytes, end_of, Seeing}

pub lines_few : (s : List ℕ) → length (later 10 s) ≤ length s
unfolding later
lines_few [] = omega arith
lines_few (b ∷ s) = go (lines_few s) (eqb b 10)
  where
    go : length (later 10 s) ≤ length s → (t : Bool) → length (pick t (first 10 s ∷ later 10 s) (later 10 s)) ≤ length (b ∷ s)
    go h true = omega arith
    go h false = omega arith

line_within : (n : ℕ) (d : Draft) (l : List ℕ) (ls : List (List ℕ)) → line_in (read_from n d l ls) ≤ n + length ls
unfolding read_from
line_within n d l [] = go (ltb 0 (length l)) (eqb d.started 0)
  where
    go : (a b : Bool) → line_in (pick a (refused 2 (n ∷ [])) (pick b (refused 3 (0 ∷ [])) (answered d.model))) ≤ n + 0
    go true b = omega arith
    go false true = omega arith
    go false false = omega arith
line_within n d l (k ∷ ls) =
    go (line_within (n + 1) (take_line d (line_of (split 9 l))).draft k ls) (eqb (take_line d (line_of (split 9 l))).refusal 0)
  where
    go : line_in (read_from (n + 1) (take_line d (line_of (split 9 l))).draft k ls) ≤ n + 1 + length ls → (b : Bool)
        → line_in (pick b (read_from (n + 1) (take_line d (line_of (split 9 l))).draft k ls) (refused (take_line d (line_of (split 9 l))).refusal (n ∷ []))) ≤ n + length (k ∷ ls)
    go h true = omega arith
    go h false = omega arith

line_small : (s : List ℕ) → line_in (read_model s) < 65536
unfolding read_model
line_small s = go (ltb 16384 (length s)) refl
  where
    go : (b : Bool) → ltb 16384 (length s) ≡ b → line_in (pick b (refused 1 (0 ∷ [])) (read_from 1 fresh (first 10 s) (later 10 s))) < 65536
    go true e = omega arith
    go false e = omega (arith, ltb-false 16384 (length s) e, line_within 1 fresh (first 10 s) (later 10 s), lines_few s)

different : false ≡ true → ⊥
different e = let z : ◌≡◌ {A = ℕ} 0 1 = cc in omega arith

-- what was read is what is meant: a text that is accepted
module _ (s : List ℕ) {cells : List ℕ} where
  pub seeing : Read (read_model s) (Ok tt) cells → (o : List ℕ) → Seeing s o o (Ok tt) cells
  seeing x o = record { accepts = ap is_answered x.answer; reads = x.bytes; puts = as_put (ap refusal_bytes x.answer) (none_put o 0 (omega arith)) }

  -- and one that is refused
  module _ {e : TextError} (x : Read (read_model s) (Err e) cells) where
    pub line_fits : text_line e < 65536
    line_fits = omega (arith, line_small s, ap line_in x.answer)

    pub refusing : {o p : List ℕ} {number line end : ℕ} → number ≡ text_number e → line ≡ text_line e → Put o p 0 end (refused_bytes number line) → Seeing s o p (Err end) cells
    refusing n l y = record { accepts = ap is_answered x.answer; reads = x.bytes; puts = as_put (ap₂ refused_bytes n l ∙ ap refusal_bytes x.answer) y }

-- the model of a text that is accepted
accepted_is : (a : Answer Model) → is_answered a ≡ true → a ≡ answered (model_of a)
accepted_is (answered m) e = refl
accepted_is (refused number values) e = absurd (different e)

-- a refusal prints the same whatever an accepted text prints
refused_same : (a : Answer Model) (output : Model → List ℕ) → is_answered a ≡ false → refusal_bytes a ≡ unless_refused a output
refused_same (answered m) output e = absurd (different (sym e))
refused_same (refused number values) output e = refl

module _ {text o p cells : List ℕ} {r : Result (Unit {0}) ℕ} (x : Seeing text o p r cells) where
  -- what was read is what the bytes say
  model_read : model_in cells ≡ model_of (read_model text)
  model_read = ap model_in x.reads ∙ read_is text

  module _ (t : is_ok r ≡ true) where
    is_accepted : read_model text ≡ answered (model_of (read_model text))
    is_accepted = accepted_is (read_model text) (sym x.accepts ∙ t)

    pub model_valid : T (valid (model_in cells))
    model_valid = subst⁻¹ (λ m. T (valid m)) model_read (accepted_valid text is_accepted)

    -- what is put then
    pub accepted_put : {q : List ℕ} {b : ℕ} (output : Model → List ℕ) → Put p q 0 b (output (model_in cells)) → Put o q 0 b (unless_refused (read_model text) output)
    accepted_put {q} {b} output y =
        let same : p ≡ o = x.puts.cells ∙ ap (λ a. sets o 0 (refusal_bytes a)) is_accepted in
        as_put (ap output model_read ∙ sym (ap (λ a. unless_refused a output) is_accepted)) (subst (λ p. Put p q 0 b (output (model_in cells))) same y)

  pub refused_put : is_ok r ≡ false → (output : Model → List ℕ) → Put o p 0 (end_of r) (unless_refused (read_model text) output)
  refused_put t output = as_put (refused_same (read_model text) output (sym x.accepts ∙ t)) x.puts
