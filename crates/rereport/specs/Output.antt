-- What `pdrecheck` prints for a text: a refusal of the model or of the listing behind it, or the answer of the table check. Assumes nothing.
use Rattle.std.specs.Prelude.{List, [], ◌∷◌, ℕ, replicate}
use Rattle.product.specs.Answer.{Answer, answered, refused, Acceptance}
use Rattle.model.specs.declared.Model.{Model}
use Rattle.reader.specs.Text.{read_model}
use Rattle.splitter.specs.Part.{listing_of, model_part}
use Rattle.listing.specs.Reading.{lines_of, answer_of, heads_left, triples_left}
use Rattle.recheck.specs.Recheck.{recheck}
use Rattle.print.specs.Bytes.{line_bytes}
use Rattle.refusal.specs.Refusal.{refused_word, unless_refused}

-- "accepted" and a line feed
abbrev pub accepted_line : List ℕ
accepted_line = 97 ∷ 99 ∷ 99 ∷ 101 ∷ 112 ∷ 116 ∷ 101 ∷ 100 ∷ 10 ∷ []

-- `refused`, number, and what is returned with it; or what an answer prints
abbrev pub answer_bytes : {A : Type 0} → (A → List ℕ) → Answer A → List ℕ
answer_bytes prints (answered a) = prints a
answer_bytes prints (refused number values) = line_bytes refused_word (number ∷ values)

-- the answer of the check: of a valid model with arrays of its sizes it is no refusal but 11 (proofs/Small)
abbrev pub check_bytes : Answer Acceptance → List ℕ
check_bytes c = answer_bytes (λ _. accepted_line) c

-- what the listing is read as
abbrev pub listing_read : Model → List ℕ → Answer ℕ
listing_read m text = answer_of (lines_of m text)

-- an accepted listing is checked
abbrev pub listing_bytes : Answer ℕ → Answer Acceptance → List ℕ
listing_bytes heard c = answer_bytes (λ rounds. check_bytes c) heard

-- with the table that the reading leaves in two arrays
unfoldable pub listing_output : Model → (text heads triples : List ℕ) → List ℕ
listing_output m text hs ts = listing_bytes (listing_read m text) (recheck m (heads_left m (lines_of m text) hs) (triples_left m (lines_of m text) ts))

-- all that is printed: the refusal of the model, or what the listing behind it prints, read into arrays of zeros
abbrev pub recheck_output : List ℕ → List ℕ
recheck_output text = unless_refused (read_model (model_part text)) (λ m. listing_output m (listing_of text) (replicate 256 0) (replicate 2048 0))
