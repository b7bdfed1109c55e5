-- What a line writes into the lent bytes of a model, and what it answers. Assumes nothing.
use Rattle.std.specs.Prelude.{List, ◌≡◌, ℕ, ◌+◌, ◌*◌, ltb, set, Result, Ok, Err}
use Rattle.text.specs.Split.{pick}
use Rattle.numbers.specs.Number.{nth}
use Rattle.numbers.specs.declared.Numbers.{Numbers}
use Rattle.line.specs.declared.words.Line.{Line}
use Rattle.modelline.specs.declared.Word.{Word}
use Rattle.modelline.specs.declared.Word.TheVariants.{Size, Start, Final, Event, Exit, Direct, Call, Move, Unknown}
use Rattle.line.specs.declared.fault.Fault.{Fault}
use Rattle.line.specs.Fault.{number_of}
use Rattle.limits.specs.declared.Counts.{Counts}
use Rattle.limits.specs.Limits.{refusal, tests}
use Rattle.draft.specs.declared.Outline.{Outline}
use Rattle.draft.specs.declared.Kind.{Kind}
use Rattle.draft.specs.declared.Kind.TheVariants as kind
use Rattle.lent.specs.Lending.{laid, Sized}
use Rattle.draft.specs.Draft.{Draft, bare}
use Rattle.draft.specs.Lines.{three_at, four_at, outline_of, after}

-- truth i of the `count` that stand from a place on; one past them is let be
abbrev pub truth_at : (from count i : ℕ) → List ℕ → List ℕ
truth_at from count i cells = pick (ltb i count) (set cells (from + i) 1) cells

-- the number of a rule's kind, as its row has it
abbrev pub kind_of : Kind → ℕ
kind_of kind.Exit = 0
kind_of kind.Direct = 1
kind_of kind.Call = 2

-- the bytes after a line that is not refused: a state that is final, an event that a symbol shows, the row of the next rule or of the next move
abbrev pub written : Counts → Word → Numbers → List ℕ → List ℕ
written k Size n cells = cells
written k Start n cells = cells
written k Final n cells = truth_at 1920 8 (nth n 0) cells
written k Event n cells = truth_at 1408 512 (nth n 0 * 16 + nth n 1) cells
written k Exit n cells = four_at cells (k.rules * 4) 0 (nth n 0) (nth n 1) (nth n 2)
written k Direct n cells = four_at cells (k.rules * 4) 1 (nth n 0) (nth n 1) (nth n 2)
written k Call n cells = four_at cells (k.rules * 4) 2 (nth n 0) (nth n 1) (nth n 2)
written k Move n cells = three_at cells (1024 + k.moves * 3) (nth n 0) (nth n 1) (nth n 2)
written k Unknown n cells = cells

-- What a line does: one that is not refused leaves an outline and the bytes; one that is refused has the fault's number, and leaves the bytes as they were.
abbrev pub Notes : Outline → Line Word → (cells : List ℕ) → Result Outline Fault → (cells' : List ℕ) → Type 0
Notes o l cells (Ok next) cells' =
    (refusal (tests o.counts l.word l.numbers) ≡ 0) × (next ≡ outline_of (after (bare o) l.word l.numbers)) × (cells' ≡ written o.counts l.word l.numbers cells)
Notes o l cells (Err fault) cells' = (refusal (tests o.counts l.word l.numbers) ≡ number_of fault) × (cells' ≡ cells)

-- an outline and the bytes stand for a draft; the last bytes are not its own yet
pub record Stands (last : List ℕ) (o : Outline) (cells : List ℕ) (d : Draft) : Type 0 where
  pub outline : o ≡ outline_of d
  pub bytes : cells ≡ laid d.model last
  pub sized : Sized d.model
