-- What is read of a whole model text. Assumes nothing.
use Rattle.std.specs.Prelude.{List, [], ◌∷◌, ℕ, ◌+◌, ◌/◌, ◌%◌, eqb, ltb, length}
use Rattle.product.specs.Answer.{Answer, answered, refused}
use Rattle.model.specs.declared.Model.{Model}
use Rattle.text.specs.Split.{pick, first, later, split}
use Rattle.modelline.specs.Line.{line_of}
use Rattle.draft.specs.declared.Outline.{Outline}
use Rattle.draft.specs.Draft.{Draft}
use Rattle.draft.specs.Lines.{take_line}
use Rattle.reader.specs.Reading.{empty}

-- before the first line: not started, and no symbols, which says that there was no `size`
abbrev pub no_outline : Outline
no_outline = record {
  counts = record { symbols = 0; states = 0; events = 0; started = 0; rules = 0; moves = 0 };
  startstate = 0;
  startsymbol = 0;
}

-- the last bytes of a model, by what is known when its text ends
abbrev pub last_of : Outline → List ℕ
last_of o =
    o.counts.symbols
    ∷ o.counts.states
    ∷ o.counts.events
    ∷ o.startstate
    ∷ o.startsymbol
    ∷ (o.counts.rules % 256)
    ∷ (o.counts.rules / 256 % 256)
    ∷ (o.counts.moves % 256)
    ∷ []

abbrev pub fresh : Draft
fresh = record { started = 0; model = empty }

-- after the last line: an absent `start` is refused without a line
abbrev pub finished : Draft → Answer Model
finished d = pick (eqb d.started 0) (refused 3 (0 ∷ [])) (answered d.model)

-- Line n and those after it, as the pieces between line feeds. The last piece has no line feed: it is no line, and must be empty.
unfoldable pub read_from : ℕ → Draft → List ℕ → List (List ℕ) → Answer Model
read_from n d l [] = pick (ltb 0 (length l)) (refused 2 (n ∷ [])) (finished d)
read_from n d l (k ∷ ls) =
    pick (eqb (take_line d (line_of (split 9 l))).refusal 0)
    (read_from (n + 1) (take_line d (line_of (split 9 l))).draft k ls)
    (refused (take_line d (line_of (split 9 l))).refusal (n ∷ []))

unfoldable pub read_model : List ℕ → Answer Model
read_model s = pick (ltb 16384 (length s)) (refused 1 (0 ∷ [])) (read_from 1 fresh (first 10 s) (later 10 s))
