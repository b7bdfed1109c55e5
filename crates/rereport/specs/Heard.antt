-- What a private function asks: that a listing of the model was read so. Assumes nothing.
use Rattle.std.specs.Prelude.{◌≡◌, ℕ, ◌<◌, Err, get_or}
use Rattle.product.specs.Answer.{Answer, answered, refused}
use Rattle.model.specs.declared.Model.{Model}
use Rattle.fitting.specs.declared.Unfit.{Unfit}
use Rattle.listing.specs.declared.ListingError.TheVariants.{Refused}
use Rattle.listing.specs.Reading.{ListingRead, meaning}
use Rattle.fitting.specs.Fits.{Fits}

-- the line of a refusal
abbrev pub line_in : Answer ℕ → ℕ
line_in (answered rounds) = 0
line_in (refused number values) = get_or values 0 0

-- the model is valid, the arrays are long enough for its table, the record and the arrays were not refused, and the line is a small number
pub record Heard (m : Model) (heard : ListingRead) (heads triples : ℕ) : Type 0 where
  pub fits : Fits m heads triples
  pub not_refused : (u : Unfit) → heard ≡ Err (Refused u) → ⊥
  pub small : line_in (meaning heard) < 65536
