-- How a reading ends, with the document's number and values for each case, and the bytes that it leaves. Assumes nothing.
use Rattle.std.specs.Prelude.{false, List, [], ◌∷◌, ◌≡◌, ℕ, replicate, Result, Ok, Err, OnOk}
use Rattle.product.specs.Answer.{Answer, answered, refused}
use Rattle.model.specs.declared.Model.{Model}
use Rattle.lent.specs.Lending.{packed}
use Rattle.line.specs.declared.fault.TextError.{TextError}
use Rattle.line.specs.Fault.{text_number, text_line}

-- what each case of the code's answer means, where m is the model that is read
abbrev pub meaning : Result (Unit {0}) TextError → (m : Model) → Answer Model
meaning (Ok x) m = answered m
meaning (Err e) m = refused (text_number e) (text_line e ∷ [])

-- the empty record: all zeros, nothing final, nothing shown
unfoldable pub empty : Model
empty = record {
  symbols = 0;
  states = 0;
  events = 0;
  startstate = 0;
  startsymbol = 0;
  finals = replicate 8 false;
  shows = replicate 512 false;
  rules = 0;
  rulerows = replicate 1024 0;
  moves = 0;
  moverows = replicate 384 0;
}

-- the record that is left: of a text that is refused the empty one
abbrev pub model_of : Answer Model → Model
model_of (answered m) = m
model_of (refused number values) = empty

-- the lines of a text, whose reading is a: the code's answer r, and the bytes of a model that is accepted
pub record LinesRead (a : Answer Model) (r : Result (Unit {0}) TextError) (cells : List ℕ) : Type 0 where
  pub answer : meaning r (model_of a) ≡ a
  pub bytes : OnOk r (cells ≡ packed (model_of a))

-- The contract, for a text whose reading is a: the code's answer r, and the lent bytes afterwards.
pub record Read (a : Answer Model) (r : Result (Unit {0}) TextError) (cells : List ℕ) : Type 0 where
  pub answer : meaning r (model_of a) ≡ a
  pub bytes : cells ≡ packed (model_of a)
