-- The heads that the rules of a set give, as rows of bits by symbol. What serves the decision's own functions. Assumes nothing.
use Rattle.std.specs.Prelude.{Bool, false, ◌&&◌, ◌||◌, List, ◌≡◌, ℕ, ◌<◌, T, eqb, length, get_or}
use Rattle.table.specs.declared.Size.{Size}
use Rattle.bits.specs.Bit.{bit}
use Rattle.bits.specs.Matrix.{mats, some, image}
use Rattle.steps.specs.Steps.{symbol_of}
use Rattle.steps.specs.declared.Kind.{Kind}
use Rattle.steps.specs.declared.Kind.TheVariants.{Exit, Direct, Call}
use Rattle.steps.specs.Rows.{kind_of, kind_at, class_at, over_at, under_at}
use Rattle.decide.specs.Sets.{among}
use Rattle.decide.specs.Stamp.{of_heads}
use Rattle.decide.specs.Gather.{Empty}
use Rattle.decide.specs.Take.{Took, Room, Fits}

-- the states in which the steps of class c end, from the heads of its symbol
unfoldable pub landing : (tg hd : List ℕ) → (c : ℕ) → ℕ
landing tg hd c = image (get_or hd (symbol_of c) 0) (get_or tg c 0)

-- the heads that a rule gives whose steps end in l: of what it puts on top, and of what lies under it once that is erased
abbrev pub shown_by : Kind → (over under : ℕ) → (e : List ℕ) → (l : ℕ → Bool) → (g x : ℕ) → Bool
shown_by Exit over under e l g x = false
shown_by Direct over under e l g x = eqb over g && l x
shown_by Call over under e l g x = (eqb over g && l x) || (eqb under g && some 8 (λ k. l k && mats e over k x))

unfoldable pub shown : (rs tg e hd : List ℕ) → (i g x : ℕ) → Bool
shown rs tg e hd i = shown_by (kind_of (kind_at rs i)) (over_at rs i) (under_at rs i) e (bit (landing tg hd (class_at rs i)))

-- of the rules in a set
unfoldable pub shown_all : (rs tg e hd w : List ℕ) → (g x : ℕ) → Bool
shown_all rs tg e hd w g x = among w (λ i. shown rs tg e hd i g x)

-- the rows nh took in the bits m; t is the set of the symbols that were written to
pub record Shows (m : ℕ → ℕ → Bool) (nh : List ℕ) (t : ℕ) (nh' : List ℕ) : Type 0 where
  pub as_long : length nh' ≡ length nh
  pub rows : (g x : ℕ) → bit (get_or nh' g 0) x ≡ bit (get_or nh g 0) x || m g x
  pub low : (g : ℕ) → T (bit t g) → g < 32
  pub others : (g : ℕ) → bit t g ≡ false → get_or nh' g 0 ≡ get_or nh g 0

-- only the symbols of the set t have a row that is not empty
pub record RowsCover (t : ℕ) (nh : List ℕ) : Type 0 where
  pub long : length nh ≡ 32
  pub low : (g : ℕ) → T (bit t g) → g < 32
  pub empty : (g : ℕ) → bit t g ≡ false → get_or nh g 0 ≡ 0

-- the rows after all rules of a set, from empty ones
pub record ShowsAll (m : ℕ → ℕ → Bool) (t : ℕ) (nh' : List ℕ) : Type 0 where
  pub rows : (g x : ℕ) → bit (get_or nh' g 0) x ≡ m g x
  pub covers : RowsCover t nh'

abbrev pub RowsFit : Size → List ℕ → Type 0
RowsFit z nh = (g : ℕ) → g < 32 → Fits of_heads z g (get_or nh g 0)

-- the rows are taken in, and empty again
pub record SettlesRows (z : Size) (k : ℕ) (nh hd hs : List ℕ) (w : ℕ) (nh' hd' hs' : List ℕ) : Type 0 where
  pub took : Took of_heads z k (mats nh) hd hs w hd' hs'
  pub empty : Empty 32 nh'

-- a round of the heads can be run, with the rules of the set wh: what they give has a cell
pub record HeadsReady (z : Size) (wh rs tg e hd hs : List ℕ) : Type 0 where
  pub few : length wh ≡ 4
  pub room : Room of_heads z hd hs
  pub fit : {t : ℕ} {nh : List ℕ} → ShowsAll (shown_all rs tg e hd wh) t nh → RowsFit z nh

-- the round: what the rules give is shown, and then taken in; w is the set of the symbols that changed
pub record HeadsDone (z : Size) (k : ℕ) (wh rs tg e hd hs : List ℕ) (w : ℕ) (nh' hd' hs' : List ℕ) : Type 0 where
  pub touched : ℕ
  pub rows : List ℕ
  pub shows : ShowsAll (shown_all rs tg e hd wh) touched rows
  pub settles : SettlesRows z k rows hd hs w nh' hd' hs'
