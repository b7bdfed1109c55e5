-- What a call with a model and a table tests first: the record (refusal 6), then the length of the two arrays (7). Assumes nothing.
use Rattle.std.specs.Prelude.{[], ◌∷◌, ℕ, ◌≤◌, T, ltb, Result, Ok, Err}
use Rattle.text.specs.Split.{pick}
use Rattle.product.specs.Answer.{Answer, refused}
use Rattle.table.specs.declared.Size.{Size}
use Rattle.table.specs.Cells.{head_count, triple_count}
use Rattle.model.specs.declared.Model.{Model}
use Rattle.model.specs.Valid.{valid}
use Rattle.fitting.specs.declared.Fit.{Fit}
use Rattle.fitting.specs.declared.Unfit.{Unfit}
use Rattle.fitting.specs.declared.Unfit.TheVariants.{Invalid, Short}

-- the size of a model's table: its symbols, and the states of its product
abbrev pub size_of : Model → Size
size_of m = record { symbols = m.symbols; states = m.states }

-- how many heads and triples a model has
abbrev pub heads_of : Model → ℕ
heads_of m = head_count m.symbols m.states

abbrev pub triples_of : Model → ℕ
triples_of m = triple_count m.symbols m.states

-- one of three, for arrays of so many cells: the record is not valid, an array is too short, or neither
abbrev pub tested : {A : Type 0} → Model → (heads triples : ℕ) → (invalid short well : A) → A
tested m heads triples invalid short well =
    pick (valid m) (pick (ltb heads (heads_of m)) short (pick (ltb triples (triples_of m)) short well)) invalid

-- by the document's numbers: 6, then 7, and else the answer
abbrev pub guarded : {A : Type 0} → Model → (heads triples : ℕ) → Answer A → Answer A
guarded m heads triples well = tested m heads triples (refused 6 (0 ∷ [])) (refused 7 (0 ∷ [])) well

-- the document's number of each refusal
abbrev pub refused_by : {A : Type 0} → Unfit → Answer A
refused_by Invalid = refused 6 (0 ∷ [])
refused_by Short = refused 7 (0 ∷ [])

-- the size and the numbers of cells; or why there is none
abbrev pub fit : Model → Fit
fit m = record { size = size_of m; heads = heads_of m; triples = triples_of m }

abbrev pub fit_of : Model → (heads triples : ℕ) → Result Fit Unfit
fit_of m heads triples = tested m heads triples (Err Invalid) (Err Short) (Ok (fit m))

-- the model is valid, and arrays of so many cells are long enough for its table
pub record Fits (m : Model) (heads triples : ℕ) : Type 0 where
  pub valid_model : T (valid m)
  pub heads_there : heads_of m ≤ heads
  pub triples_there : triples_of m ≤ triples
