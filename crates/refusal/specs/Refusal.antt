-- What is printed of a text that is refused, and what reading one leaves. Assumes nothing.
use Rattle.std.specs.Prelude.{Bool, true, false, List, [], ◌∷◌, ◌≡◌, ℕ, get_or, Result, Ok, Err}
use Rattle.std.specs.Result.{is_ok}
use Rattle.product.specs.Answer.{Answer, answered, refused}
use Rattle.model.specs.declared.Model.{Model}
use Rattle.lent.specs.Lending.{packed}
use Rattle.reader.specs.Reading.{model_of}
use Rattle.reader.specs.Text.{read_model}
use Rattle.print.specs.Bytes.{line_bytes}
use Rattle.text.specs.Put.{Put}

-- "refused"
abbrev pub refused_word : List ℕ
refused_word = 114 ∷ 101 ∷ 102 ∷ 117 ∷ 115 ∷ 101 ∷ 100 ∷ []

-- `refused`, number, line
abbrev pub refused_bytes : (number line : ℕ) → List ℕ
refused_bytes number line = line_bytes refused_word (number ∷ line ∷ [])

-- what is given for an accepted model; and else the refusal, by its number and its values
abbrev pub unless_refused : Answer Model → (Model → List ℕ) → List ℕ
unless_refused (answered m) output = output m
unless_refused (refused number values) output = line_bytes refused_word (number ∷ values)

-- the same where nothing is printed for an accepted one
abbrev pub refusal_bytes : Answer Model → List ℕ
refusal_bytes a = unless_refused a (λ m. [])

abbrev pub is_answered : Answer Model → Bool
is_answered (answered m) = true
is_answered (refused number values) = false

-- the first value of a refusal, which for a text is its line
abbrev pub line_in : Answer Model → ℕ
line_in (answered m) = 0
line_in (refused number values) = get_or values 0 0

-- the place behind what was put: nothing is put where a text is accepted
abbrev pub end_of : Result (Unit {0}) ℕ → ℕ
end_of (Ok x) = 0
end_of (Err end) = end

-- the reading of a text: whether it is accepted, the bytes of its model, and its refusal put from the first byte on; nothing is put where it is accepted
pub record Seeing (text out after : List ℕ) (r : Result (Unit {0}) ℕ) (cells : List ℕ) : Type 0 where
  pub accepts : is_ok r ≡ is_answered (read_model text)
  pub reads : cells ≡ packed (model_of (read_model text))
  pub puts : Put out after 0 (end_of r) (refusal_bytes (read_model text))
