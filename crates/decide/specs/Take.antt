-- Matrices that take in entries, and the ranks that the new ones get. What serves the decision's own functions. Assumes nothing.
use Rattle.std.specs.Prelude.{false, not, ◌&&◌, ◌||◌, List, ◌≡◌, ℕ, ◌^◌, ◌≤◌, ◌<◌, T, length, get_or, set}
use Rattle.std.specs.Int.Bits.{bit_or, bit_xor}
use Rattle.table.specs.declared.Size.{Size}
use Rattle.bits.specs.Bit.{bit}
use Rattle.bits.specs.Matrix.{mat, mats, multiplied}
use Rattle.steps.specs.Steps.{symbol_of}
use Rattle.decide.specs.Sets.{among}
use Rattle.decide.specs.Gather.{added_by, Gains}
use Rattle.decide.specs.Stamp.{Sort, of_heads, of_triples, view_of, cells_of, Became, Entries, alone, named, ranked}

-- The matrices e took in the entries m, and the table gave the new ones the rank k; w is the set of the symbols that have a new one.
pub record Took (s : Sort) (z : Size) (k : ℕ) (m : Entries) (e xs : List ℕ) (w : ℕ) (e' xs' : List ℕ) : Type 0 where
  pub as_long : length e' ≡ length e
  pub entries : (g q x : ℕ) → mats e' g q x ≡ mats e g q x || m g q x
  pub table : Became s z xs (ranked k (named s (λ g q x. m g q x && not (mats e g q x))) (view_of s z xs)) xs'
  pub quiet : (g : ℕ) → bit w g ≡ false → (q x : ℕ) → T (m g q x) → T (mats e g q x)
  pub fresh : (g : ℕ) → T (bit w g) → (q : ℕ) × (x : ℕ) × T (m g q x) × T (not (mats e g q x))

-- The matrix of g takes in m, which is a word; `new` has the bits that it did not have.
pub record Gained (e : List ℕ) (g m new : ℕ) (e' : List ℕ) : Type 0 where
  pub small : m < 2 ^ 64
  pub new_is : new ≡ bit_xor (bit_or (get_or e g 0) m) (get_or e g 0)
  pub held : e' ≡ set e g (bit_or (get_or e g 0) m)

-- there is room for them
pub record Room (s : Sort) (z : Size) (e xs : List ℕ) : Type 0 where
  pub few : z.symbols ≤ 32
  pub matrices : length e ≡ 32
  pub long : cells_of s z ≤ length xs

-- the entry has a cell in the table
abbrev pub Within : Sort → Size → (g q x : ℕ) → Type 0
Within of_heads z g q x = (g < z.symbols) × (q ≡ 0) × (x < z.states)
Within of_triples z g q x = (g < z.symbols) × (q < z.states) × (x < z.states)

pub record Fits (s : Sort) (z : Size) (g m : ℕ) : Type 0 where
  pub small : g < 32
  pub inside : (q x : ℕ) → T (mat m q x) → Within s z g q x

-- class c: what it gives, once through its steps, and where that goes; and the classes of a set
unfoldable pub given_by : (tg by : List ℕ) → (c : ℕ) → ℕ
given_by tg by c = multiplied (get_or tg c 0) (get_or by c 0)

unfoldable pub from_class : (tg by : List ℕ) → (c : ℕ) → Entries
from_class tg by c = alone (symbol_of c) (given_by tg by c)

unfoldable pub from_classes : (tg by t : List ℕ) → Entries
from_classes tg by t g q x = among t (λ c. from_class tg by c g q x)

abbrev pub AllFit : Size → (tg by : List ℕ) → Type 0
AllFit z tg by = (c : ℕ) → Fits of_triples z (symbol_of c) (given_by tg by c)

-- a round of the triples can be run, with the rules of the set wt: what they add has a cell
pub record TriplesReady (z : Size) (wt rs tg by e ts : List ℕ) : Type 0 where
  pub few : length wt ≡ 4
  pub long : length by ≡ 256
  pub room : Room of_triples z e ts
  pub fit : {t by' : List ℕ} → Gains (added_by rs e wt) by t by' → AllFit z tg by'

-- the round: what the rules add is gathered, and then taken in; w is the set of the symbols that changed
pub record TriplesDone (z : Size) (k : ℕ) (wt rs tg by e ts : List ℕ) (w : ℕ) (by' e' ts' : List ℕ) : Type 0 where
  pub touched : List ℕ
  pub gains : Gains (added_by rs e wt) by touched by'
  pub took : Took of_triples z k (from_classes tg by' touched) e ts w e' ts'
