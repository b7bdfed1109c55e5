-- What is put in each case of the answers. Assumes nothing.
use mathlib.Core.Bool.{true, false}
use mathlib.Core.List.{List, [], ◌∷◌}
use mathlib.Core.Path.{◌≡◌, ap, ap₂, sym, ◌∙◌}
use Prim.Native.Nat.{ℕ, ◌<◌}
use native.Mathlib.Omega.{arith}
use lib.ListN.{length, replicate}
use Rattle.model.specs.declared.Model.{Model}
use Rattle.lent.specs.Lending.{model_in}
use Rattle.reader.specs.Text.{read_model}
use Rattle.std.specs.Prelude.{Result, Err}
use Rattle.std.specs.Result.{is_ok}
use Rattle.refusal.specs.Refusal.{refused_bytes, unless_refused, end_of, Seeing}
use Rattle.refusal.proofs.Reading.{accepted_put, refused_put}
use Rattle.splitter.specs.Part.{listing_of, model_part}
use Rattle.fitting.specs.Fits.{Fits}
use Rattle.fitting.specs.declared.Unfit.{Unfit}
use Rattle.fitting.specs.declared.Unfit.TheVariants.{Invalid, Short}
use Rattle.line.specs.declared.fault.TextError.{TextError}
use Rattle.line.specs.Fault.{text_number, text_line}
use Rattle.listing.specs.declared.ListingError.TheVariants.{Refused, Text}
use Rattle.listing.specs.Reading.{ListingRead, meaning, Reads}
use Rattle.fitting.proofs.Tested.{tested_well}
use Rattle.recheck.specs.Recheck as check
use Rattle.recheck.specs.Recheck.{Recheck, recheck}
use Rattle.recheck.specs.declared.CheckError.TheVariants as wrong
use Rattle.text.specs.Put.{Put}
use Rattle.text.proofs.Puts.{as_put}
use Rattle.rereport.specs.Heard.{line_in, Heard}
use Rattle.rereport.specs.Output.{check_bytes, listing_read, listing_bytes, listing_output, recheck_output}
use Rattle.rereport.proofs.Small.{listing_line, listing_number, rule_in, move_in, recheck_few, not_refused}

-- the check, by the case of its answer
module _ (m : Model) (hs ts : List ℕ) (f : Fits m (length hs) (length ts)) {x c : Recheck} (e : check.meaning x ≡ recheck m hs ts) (t : x ≡ c) where
  means : check.meaning c ≡ recheck m hs ts
  means = sym (ap check.meaning t) ∙ e

  pub checked_put : {o p : List ℕ} {a b : ℕ} → Put o p a b (check_bytes (check.meaning c)) → Put o p a b (check_bytes (recheck m hs ts))
  checked_put w = as_put (ap check_bytes means) w

  pub rule_fits : rule_in (check.meaning c) < 65536
  rule_fits = omega (arith, (recheck_few m hs ts f).0, ap rule_in means)

  pub move_fits : move_in (check.meaning c) < 65536
  move_fits = omega (arith, (recheck_few m hs ts f).1, ap move_in means)

-- its model and arrays are not refused
pub never : (m : Model) (hs ts : List ℕ) → Fits m (length hs) (length ts) → {x : Recheck} → check.meaning x ≡ recheck m hs ts → (u : Unfit) → x ≡ Err (wrong.Refused u) → ⊥
never m hs ts f e Invalid t = not_refused m hs ts f 6 (0 ∷ []) (omega arith) (means m hs ts f e t)
never m hs ts f e Short t = not_refused m hs ts f 7 (0 ∷ []) (omega arith) (means m hs ts f e t)

-- a listing, by the case of its answer
pub case_put : (m : Model) (hs ts : List ℕ) {o p : List ℕ} {a b : ℕ} {x w : ListingRead} → x ≡ w
    → Put o p a b (listing_bytes (meaning w) (recheck m hs ts)) → Put o p a b (listing_bytes (meaning x) (recheck m hs ts))
case_put m hs ts e y = as_put (ap (λ x. listing_bytes (meaning x) (recheck m hs ts)) (sym e)) y

pub text_put : (m : Model) (hs ts : List ℕ) {o p : List ℕ} {b number line : ℕ} {x : ListingRead} {e : TextError} → x ≡ Err (Text e) → number ≡ text_number e → line ≡ text_line e
    → Put o p 0 b (refused_bytes number line) → Put o p 0 b (listing_bytes (meaning x) (recheck m hs ts))
text_put m hs ts is n l y = case_put m hs ts is (as_put (ap₂ refused_bytes n l) y)

pub case_line : {m : Model} {x w : ListingRead} {h t : ℕ} → Heard m x h t → x ≡ w → line_in (meaning w) < 65536
case_line r e = omega (arith, r.small, ap (λ x. line_in (meaning x)) e)

-- the reading of a listing, of a valid model and into arrays that have room
module _ (m : Model) (text : List ℕ) {hs ts hs' ts' : List ℕ} {x : ListingRead} (f : Fits m (length hs) (length ts)) (r : Reads m text hs ts hs' ts' x) where
  read_is : meaning x ≡ listing_read m text
  read_is = r.answer ∙ tested_well m (length hs) (length ts) f _ _ _

  unfit_number : (u : Unfit) → meaning (Err (Refused u)) ≡ listing_read m text → ⊥
  unfit_number Invalid e = listing_number m text 6 (0 ∷ []) (omega arith) e
  unfit_number Short e = listing_number m text 7 (0 ∷ []) (omega arith) e

  pub heard : {h t : ℕ} → Fits m h t → Heard m x h t
  heard g = record {
    fits = g;
    not_refused = λ u e. unfit_number u (sym (ap meaning e) ∙ read_is);
    small = omega (arith, listing_line m text, ap line_in read_is);
  }

  pub heard_put : {o p : List ℕ} {a b : ℕ} → Put o p a b (listing_bytes (meaning x) (recheck m hs' ts')) → Put o p a b (listing_output m text hs ts)
  unfolding listing_output
  heard_put y =
      as_put
      (ap (λ x. listing_bytes x (recheck m hs' ts')) read_is
      ∙ ap₂ (λ h t. listing_bytes (listing_read m text) (recheck m h t)) (r.heads_left_lem ∙ tested_well m (length hs) (length ts) f _ _ _) (r.triples_left_lem ∙ tested_well m (length hs) (length ts) f _ _ _))
      y

-- the model is read from one part of the text, and the listing is the other
module _ (text : List ℕ) {part o p cells : List ℕ} {s : Result (Unit {0}) ℕ} (k : part ≡ model_part text) (x : Seeing part o p s cells) where
  abbrev output : List ℕ → Model → List ℕ
  output rest m = listing_output m rest (replicate 256 0) (replicate 2048 0)

  pub seen_put : {rest q : List ℕ} {b : ℕ} → rest ≡ listing_of text → is_ok s ≡ true → Put p q 0 b (output rest (model_in cells)) → Put o q 0 b (recheck_output text)
  seen_put {rest} {q} {b} e t y = as_put (ap₂ (λ part rest. unless_refused (read_model part) (output rest)) k e) (accepted_put x t (output rest) y)

  pub unseen_put : is_ok s ≡ false → Put o p 0 (end_of s) (recheck_output text)
  unseen_put t = as_put (ap (λ part. unless_refused (read_model part) (output (listing_of text))) k) (refused_put x t (output (listing_of text)))
