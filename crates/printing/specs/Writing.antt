-- What the writing of a listing answers, and what it leaves in the lent bytes. Assumes nothing.
use Rattle.std.specs.Prelude.{List, ◌≡◌, ℕ, ◌*◌, ◌<◌, ◌≤◌, Result, Ok, Err, ltb, length}
use Rattle.std.proofs.lemmas.List.Edits.{sets}
use Rattle.text.specs.Split.{pick}
use Rattle.product.specs.Answer.{Answer, answered}
use Rattle.table.specs.declared.Size.{Size}
use Rattle.model.specs.declared.Model.{Model}
use Rattle.fitting.specs.Fits.{tested, guarded, refused_by}
use Rattle.printing.specs.declared.Written.{Written}
use Rattle.printing.specs.declared.Written.TheVariants.{Bytes, Cut}
use Rattle.fitting.specs.declared.Unfit.{Unfit}
use Rattle.printing.specs.Listing.{listing_bytes}

-- all the bytes of a listing have room, so many; or not all
pub data Listed : Type 0 where
  bytes : ℕ → Listed
  cut : Listed

-- the code's answer
abbrev pub WriteAnswer : Type 0
WriteAnswer = Result Written Unfit

-- the document's number and values of each answer; without a refusal, how many bytes the listing has
abbrev pub meaning : WriteAnswer → Answer Listed
meaning (Ok (Bytes n)) = answered (bytes n)
meaning (Ok Cut) = answered cut
meaning (Err unfit) = refused_by unfit

abbrev pub bytes_of : Model → (rounds : ℕ) → (heads triples : List ℕ) → List ℕ
bytes_of m rounds hs ts = listing_bytes m.symbols m.states rounds hs ts

-- a listing of so many bytes fits the room, or is cut
abbrev pub fitted : (n room : ℕ) → Listed
fitted n room = pick (ltb room n) cut (bytes n)

-- how many bytes the listing has; as many of them stand in `out` as it has room for, from its first byte on, and no other byte changes
pub record Writes (m : Model) (rounds : ℕ) (heads triples out after : List ℕ) (r : WriteAnswer) : Type 0 where
  pub answer : meaning r ≡ guarded m (length heads) (length triples) (answered (fitted (length (bytes_of m rounds heads triples)) (length out)))
  pub leaves : after ≡ tested m (length heads) (length triples) out out (sets out 0 (bytes_of m rounds heads triples))

-- there are symbols and states, and the cell's number is small
pub record Cell (size : Size) (i : ℕ) : Type 0 where
  pub some_symbol : 1 ≤ size.symbols
  pub some_state : 1 ≤ size.states
  pub few : i < 2048

-- the same of each cell of an array of so many
pub record Rows (size : Size) (cells : ℕ) : Type 0 where
  pub some_symbol : 1 ≤ size.symbols
  pub some_state : 1 ≤ size.states
  pub few : cells ≤ 2048

-- there are few heads and few triples
pub record Counts (heads triples : ℕ) : Type 0 where
  pub heads_few : heads ≤ 2048
  pub triples_few : triples ≤ 2048

-- they are the table of so many symbols and states
pub record Whole (size : Size) (heads triples : ℕ) : Type 0 where
  pub some_symbol : 1 ≤ size.symbols
  pub some_state : 1 ≤ size.states
  pub counts : Counts heads triples
  pub heads_are : heads ≡ size.states * size.symbols
  pub triples_are : triples ≡ size.states * size.symbols * size.states
