-- What reading a listing answers, and what it leaves in the two lent arrays. Assumes nothing.
use Rattle.std.specs.Prelude.{List, [], ◌∷◌, ◌≡◌, ℕ, zero, suc, Result, Ok, Err, eqb, length, get_or, set}
use Rattle.text.specs.Split.{pick}
use Rattle.product.specs.Answer.{Answer, answered, refused}
use Rattle.model.specs.declared.Model.{Model}
use Rattle.line.specs.declared.fault.Fault.TheVariants.{TooMany}
use Rattle.line.specs.declared.fault.TextError.TheVariants.{Line}
use Rattle.line.specs.Fault.{text_number, text_line}
use Rattle.fitting.specs.Fits.{size_of, heads_of, triples_of, tested, guarded, refused_by}
use Rattle.rows.specs.State.{Ended}
use Rattle.rows.specs.Lines.{start_state, read_text}
use Rattle.listing.specs.declared.ListingError.{ListingError}
use Rattle.listing.specs.declared.ListingError.TheVariants.{Refused, Text}

-- the code's answer
abbrev pub ListingRead : Type 0
ListingRead = Result ℕ ListingError

-- the document's number and values of each answer; without a refusal, the rounds
abbrev pub meaning : ListingRead → Answer ℕ
meaning (Ok rounds) = answered rounds
meaning (Err (Refused unfit)) = refused_by unfit
meaning (Err (Text e)) = refused (text_number e) (text_line e ∷ [])

-- the lines of a listing
abbrev pub lines_of : Model → List ℕ → Ended
lines_of m text = read_text (size_of m) start_state text

-- the rounds that were read, or the number of the refusal with its line
unfoldable pub answer_of : Ended → Answer ℕ
answer_of r = pick (eqb r.refusal 0) (answered r.state.rounds) (refused r.refusal (r.line ∷ []))

-- the first n cells as collected, the others as before
unfoldable pub filled : ℕ → (collected before : List ℕ) → List ℕ
filled zero xs ys = ys
filled (suc n) xs ys = set (filled n xs ys) n (get_or xs n 0)

-- of a refused reading nothing is written
unfoldable pub heads_left : Model → Ended → List ℕ → List ℕ
heads_left m r hs = pick (eqb r.refusal 0) (filled (heads_of m) r.state.headcells hs) hs

unfoldable pub triples_left : Model → Ended → List ℕ → List ℕ
triples_left m r ts = pick (eqb r.refusal 0) (filled (triples_of m) r.state.triplecells ts) ts

-- the answer, and the two arrays afterwards: 6 and 7, then the text, which is never refused by 5
pub record Reads (m : Model) (text heads triples headsAfter triplesAfter : List ℕ) (r : ListingRead) : Type 0 where
  pub answer : meaning r ≡ guarded m (length heads) (length triples) (answer_of (lines_of m text))
  pub never_full : (line : ℕ) → r ≡ Err (Text (Line TooMany line)) → ⊥
  pub heads_left_lem : headsAfter ≡ tested m (length heads) (length triples) heads heads (heads_left m (lines_of m text) heads)
  pub triples_left_lem : triplesAfter ≡ tested m (length heads) (length triples) triples triples (triples_left m (lines_of m text) triples)
