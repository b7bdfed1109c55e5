-- Short model texts and how their readings end; and what model A's text says. Assumes nothing.
use Rattle.std.specs.Prelude.{List, [], ◌∷◌, ◌++◌, ℕ, ◌+◌, take}
use Rattle.product.specs.Lists.{over}
use Rattle.product.specs.Product as product
use Rattle.modelline.specs.Line.{size, start, final, event, exit, direct, call, move}
use Rattle.product.specs.Answer.{Answer, answered, refused}
use Rattle.model.specs.declared.Model.{Model}
use Rattle.reader.specs.Says.{Said}

-- a line with its line feed, by its word and its numbers, each of one digit
abbrev pub row : List ℕ → List ℕ → List ℕ
row word ns = word ++ over ns (λ n. 9 ∷ (48 + n) ∷ []) ++ 10 ∷ []

abbrev pub text_a : List ℕ
text_a =
    row size (4 ∷ 2 ∷ 2 ∷ [])
    ++ row start (0 ∷ 0 ∷ [])
    ++ row final (1 ∷ [])
    ++ row event (2 ∷ 1 ∷ [])
    ++ row call (0 ∷ 2 ∷ 1 ∷ [])
    ++ row direct (2 ∷ 3 ∷ [])
    ++ row exit (3 ∷ [])
    ++ row move (0 ∷ 0 ∷ 0 ∷ [])
    ++ row move (0 ∷ 1 ∷ 1 ∷ [])

abbrev pub said_a : Said
said_a = record {
  sizes = (4, 2, 2) ∷ [];
  starts = (0, 0) ∷ [];
  finals = 1 ∷ [];
  events = (2, 1) ∷ [];
  rules = product.call 0 2 1 ∷ product.direct 2 3 ∷ product.exit 3 ∷ [];
  moves = record { source = 0; event = 0; target = 0 } ∷ record { source = 0; event = 1; target = 1 } ∷ [];
}

-- how a reading ends: the number of its refusal and the line, or nothing where it is accepted
abbrev pub ending : Answer Model → List ℕ
ending (answered m) = []
ending (refused number values) = number ∷ values

-- a text, and how its reading ends
pub record Case : Type 0 where
  pub text : List ℕ
  pub ends : List ℕ

infix 5 ◌gives◌
abbrev pub ◌gives◌ : List ℕ → List ℕ → Case
text gives ends = record { text = text; ends = ends }

abbrev pub accepted : List ℕ
accepted = []

abbrev pub refusal : (number line : ℕ) → List ℕ
refusal number line = number ∷ line ∷ []

abbrev pub least : List ℕ
least = row size (1 ∷ 1 ∷ 1 ∷ [])

unfoldable pub cases : List Case
cases =
    (text_a gives accepted)
    ∷ (take 20 text_a gives refusal 2 2)
    ∷ ([] gives refusal 3 0)
    ∷ (10 ∷ [] gives refusal 2 1)
    ∷ (row start (0 ∷ 0 ∷ []) gives refusal 3 1)
    ∷ (row size (0 ∷ 1 ∷ 1 ∷ []) gives refusal 4 1)
    ∷ (row size (1 ∷ 1 ∷ []) gives refusal 2 1)
    ∷ (least gives refusal 3 0)
    ∷ (least ++ least gives refusal 3 2)
    ∷ (least ++ row start (0 ∷ 1 ∷ []) gives refusal 4 2)
    ∷ (least ++ row start (0 ∷ 0 ∷ []) gives accepted)
    ∷ (least ++ row start (0 ∷ 0 ∷ []) ++ row start (7 ∷ 7 ∷ []) gives refusal 3 3)
    ∷ (least ++ row start (0 ∷ 0 ∷ []) ++ row exit (0 ∷ 0 ∷ []) gives refusal 2 3)
    ∷ []
