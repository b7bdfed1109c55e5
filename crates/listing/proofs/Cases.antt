-- What the public call answers and leaves, case by case. Assumes nothing.
use mathlib.Core.Bool.{Bool, true, false, cond}
use mathlib.Core.Path.{◌≡◌, refl, sym, ap, ◌∙◌}
use mathlib.Core.List.{List, [], ◌∷◌}
use Prim.Native.Nat.{ℕ, ◌≤◌}
use native.Mathlib.Omega.{arith}
use lib.Dec.{eqb}
use lib.ListN.{length, replicate}
use borrow.Author.Tests.{eq-eqb, ne_eqb}
use Rattle.text.specs.Split.{pick}
use Rattle.product.specs.Answer.{Answer, answered, refused}
use Rattle.product.proofs.Answer.{apart}
use Rattle.model.specs.declared.Model.{Model}
use Rattle.model.proofs.Bounds.{few_heads, few_triples}
use Rattle.std.specs.Prelude.{Ok, Err}
use Rattle.std.specs.Result.{IsErrAnd}
use Rattle.line.specs.declared.fault.Fault.TheVariants.{Malformed, Misplaced, OutOfRange, TooMany}
use Rattle.line.specs.declared.fault.TextError.{TextError}
use Rattle.line.specs.declared.fault.TextError.TheVariants.{TooLong, Line}
use Rattle.fitting.specs.declared.Unfit.{Unfit}
use Rattle.fitting.specs.declared.Unfit.TheVariants.{Invalid, Short}
use Rattle.fitting.specs.declared.Fit.{Fit}
use Rattle.table.specs.declared.Size.{Size}
use Rattle.fitting.specs.Fits.{size_of, heads_of, triples_of, fit_of, Fits}
use Rattle.fitting.proofs.Tested.{is_unfit, is_well, heads_are, triples_are, size_is, tested_well}
use Rattle.product.specs.Table.{absent}
use Rattle.rows.specs.declared.Tally.{Tally}
use Rattle.rows.specs.State.{Ended, before, ended}
use Rattle.rows.specs.Lines.{start_state, read_text}
use Rattle.rows.proofs.Refusals.{some_number, text_of}
use Rattle.listing.specs.Reading.{ListingRead, meaning, lines_of, answer_of, filled, heads_left, triples_left, Reads}
use Rattle.listing.specs.declared.ListingError.TheVariants.{Refused, Text}

-- the answer that has a meaning
abbrev wrong_line : ℕ → ℕ → TextError
wrong_line n line = cond (eqb n 1) TooLong (cond (eqb n 2) (Line Malformed line) (cond (eqb n 3) (Line Misplaced line) (cond (eqb n 4) (Line OutOfRange line) (Line TooMany line))))

abbrev meant : Answer ℕ → ListingRead
meant (answered rounds) = Ok rounds
meant (refused n []) = Err (Refused Invalid)
meant (refused n (line ∷ _)) = cond (eqb n 6) (Err (Refused Invalid)) (cond (eqb n 7) (Err (Refused Short)) (Err (Text (wrong_line n line))))

meant_meaning : (r : ListingRead) → meant (meaning r) ≡ r
meant_meaning (Ok rounds) = refl
meant_meaning (Err (Refused Invalid)) = refl
meant_meaning (Err (Refused Short)) = refl
meant_meaning (Err (Text TooLong)) = refl
meant_meaning (Err (Text (Line Malformed line))) = refl
meant_meaning (Err (Text (Line Misplaced line))) = refl
meant_meaning (Err (Text (Line OutOfRange line))) = refl
meant_meaning (Err (Text (Line TooMany line))) = refl

pub meaning_one : (r r' : ListingRead) → meaning r ≡ meaning r' → r ≡ r'
meaning_one = apart meant meant_meaning

-- the number of an answer
abbrev number : Answer ℕ → ℕ
number (answered rounds) = 0
number (refused n values) = n

-- only `TooMany` has 5
full : {r : ListingRead} {n line : ℕ} → number (meaning r) ≡ n → r ≡ Err (Text (Line TooMany line)) → n ≡ 5
full e z = sym e ∙ ap (λ r. number (meaning r)) z

-- why a record or an array is refused, as `?` passes it on
module _ (m : Model) (text hs ts : List ℕ) where
  unfit : (u : Unfit) → Err u ≡ fit_of m (length hs) (length ts) → Reads m text hs ts hs ts (Err (Refused u))
  unfit Invalid e = record {
    answer = sym (is_unfit m (length hs) (length ts) e _ _ _);
    never_full = λ line z. let n = full refl z in absurd (omega arith);
    heads_left_lem = sym (is_unfit m (length hs) (length ts) e _ _ _);
    triples_left_lem = sym (is_unfit m (length hs) (length ts) e _ _ _);
  }
  unfit Short e = record {
    answer = sym (is_unfit m (length hs) (length ts) e _ _ _);
    never_full = λ line z. let n = full refl z in absurd (omega arith);
    heads_left_lem = sym (is_unfit m (length hs) (length ts) e _ _ _);
    triples_left_lem = sym (is_unfit m (length hs) (length ts) e _ _ _);
  }

  pub unfit_passed : (u : Unfit) → Err u ≡ fit_of m (length hs) (length ts) → (r : ListingRead) → IsErrAnd r (λ e. e ≡ Refused u) → Reads m text hs ts hs ts r
  unfit_passed u e (Err x) n = rw n (unfit u e)
  unfit_passed u e (Ok x) n = absurd n

-- a text is refused by 4 at most
answer_small : (e : Ended) → e.refusal ≤ 4 → number (answer_of e) ≤ 4
unfolding answer_of
answer_small e h = go (eqb e.refusal 0)
  where
    go : (b : Bool) → number (pick b (answered e.state.rounds) (refused e.refusal (e.line ∷ []))) ≤ 4
    go true = omega arith
    go false = h

-- where no fact has a rank, the lines of a text are those of a listing
pub lines_read : (m : Model) (text : List ℕ) {z : Size} {e : Ended} → z ≡ size_of m
    → e ≡ read_text z (before (replicate 256 absent) (replicate 2048 absent)) text → e ≡ lines_of m text
unfolding start_state
lines_read m text is p = p ∙ ap (λ z. read_text z (before (replicate 256 absent) (replicate 2048 absent)) text) is

-- else the text is read
module _ (m : Model) (text hs ts : List ℕ) (f : Fits m (length hs) (length ts)) {e : Ended} (is : e ≡ lines_of m text) where
  read : {hs' ts' : List ℕ} {r : ListingRead} → meaning r ≡ answer_of e → hs' ≡ heads_left m e hs → ts' ≡ triples_left m e ts → Reads m text hs ts hs' ts' r
  read a b c = record {
    answer = a ∙ ap answer_of is ∙ sym (tested_well m (length hs) (length ts) f _ _ _);
    never_full = λ line z. let n = full (ap number (a ∙ ap answer_of is)) z in let h = answer_small (lines_of m text) (text_of (size_of m) start_state text).small in absurd (omega arith);
    heads_left_lem = b ∙ ap (λ x. heads_left m x hs) is ∙ sym (tested_well m (length hs) (length ts) f _ _ _);
    triples_left_lem = c ∙ ap (λ x. triples_left m x ts) is ∙ sym (tested_well m (length hs) (length ts) f _ _ _);
  }

  pub refused_reads : (e.refusal ≡ 0 → ⊥) → {r : ListingRead} → meaning r ≡ refused e.refusal (e.line ∷ []) → Reads m text hs ts hs ts r
  unfolding answer_of heads_left triples_left
  refused_reads z p = read (p ∙ rw (ne_eqb _ _ z)) (rw (ne_eqb _ _ z)) (rw (ne_eqb _ _ z))

  pub accepted_reads : e.refusal ≡ 0 → {hs' ts' : List ℕ} → hs' ≡ filled (heads_of m) e.state.headcells hs → ts' ≡ filled (triples_of m) e.state.triplecells ts
      → Reads m text hs ts hs' ts' (Ok e.state.rounds)
  unfolding answer_of heads_left triples_left
  accepted_reads z p q = read (rw (eq-eqb _ _ z)) (p ∙ rw (eq-eqb _ _ z)) (q ∙ rw (eq-eqb _ _ z))

-- by the numbers of cells that were measured
module _ (m : Model) (text hs ts : List ℕ) {f : Fit} (k : Ok f ≡ fit_of m (length hs) (length ts)) where
  fits : Fits m (length hs) (length ts)
  fits = is_well m (length hs) (length ts) k

  pub heads_within : f.heads ≤ length hs
  heads_within = let w = fits in omega (arith, heads_are m (length hs) (length ts) k, w.heads_there)

  pub triples_within : f.triples ≤ length ts
  triples_within = let w = fits in omega (arith, triples_are m (length hs) (length ts) k, w.triples_there)

  -- so many cells were collected
  pub heads_few : f.heads ≤ 256
  heads_few = omega (arith, heads_are m (length hs) (length ts) k, few_heads m fits.valid_model)

  pub triples_few : f.triples ≤ 2048
  triples_few = omega (arith, triples_are m (length hs) (length ts) k, few_triples m fits.valid_model)

  lines_after : {e : Ended} → e ≡ read_text f.size (before (replicate 256 absent) (replicate 2048 absent)) text → e ≡ lines_of m text
  lines_after = lines_read m text (size_is m (length hs) (length ts) k)

  -- what is wrong with the text, as `?` passes it on; else its table
  module _ {t : Tally} {cells cells' : List ℕ} where
    pub text_passed : (e : TextError) → ended (Err e) t cells cells' ≡ read_text f.size (before (replicate 256 absent) (replicate 2048 absent)) text
        → (r : ListingRead) → IsErrAnd r (λ x. x ≡ Text e) → Reads m text hs ts hs ts r
    text_passed e is (Err x) n = rw n (refused_reads m text hs ts fits (lines_after is) (some_number e) refl)
    text_passed e is (Ok x) n = absurd n

    pub accepted_after : {u : Unit {0}} → ended (Ok u) t cells cells' ≡ read_text f.size (before (replicate 256 absent) (replicate 2048 absent)) text
        → {hs' ts' : List ℕ} → hs' ≡ filled f.heads cells hs → ts' ≡ filled f.triples cells' ts → Reads m text hs ts hs' ts' (Ok t.rounds)
    accepted_after is a b =
        accepted_reads m text hs ts fits (lines_after is) refl (a ∙ ap (λ n. filled n cells hs) (heads_are m (length hs) (length ts) k))
        (b ∙ ap (λ n. filled n cells' ts) (triples_are m (length hs) (length ts) k))
