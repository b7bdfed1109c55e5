-- Sets of numbers below 256 in four words, and 96 such sets in one list. What serves the decision's own functions. Assumes nothing.
use Rattle.std.specs.Prelude.{Option, MatchOption, Bool, false, not, ◌&&◌, ◌||◌, List, ◌≡◌, ℕ, ◌+◌, ◌*◌, ◌/◌, ◌%◌, ◌<◌, T, eqb, length, get_or}
use Rattle.bits.specs.Bit.{bit}
use Rattle.bits.specs.Matrix.{some}

-- r stands in the set number s; and in a set alone
unfoldable pub member : List ℕ → (s r : ℕ) → Bool
member l s r = bit (get_or l (s * 4 + r / 64) 0) (r % 64)

unfoldable pub chosen : List ℕ → ℕ → Bool
chosen w r = bit (get_or w (r / 64) 0) (r % 64)

-- some number of the set passes
unfoldable pub among : List ℕ → (ℕ → Bool) → Bool
among w f = some 256 (λ r. chosen w r && f r)

-- the set with c
pub record With (w : List ℕ) (c : ℕ) (w' : List ℕ) : Type 0 where
  pub long : length w' ≡ 4
  pub is : (x : ℕ) → chosen w' x ≡ chosen w x || eqb c x

abbrev pub weight : List ℕ → ℕ
weight w = get_or w 0 0 + get_or w 1 0 + get_or w 2 0 + get_or w 3 0

-- r is a member, and w' the set without it
pub record Taken (w : List ℕ) (r : ℕ) (w' : List ℕ) : Type 0 where
  pub small : r < 256
  pub long : length w' ≡ 4
  pub there : T (chosen w r)
  pub less : weight w' < weight w
  pub rest : (x : ℕ) → chosen w' x ≡ chosen w x && not (eqb x r)

-- a member was taken out of word k of the set, or that has none
abbrev pub PickedIn : (w : List ℕ) (k : ℕ) → Option ℕ → (w' : List ℕ) → Type 0
PickedIn w k r w' = MatchOption r ((w' ≡ w) × (get_or w k 0 ≡ 0)) (λ r. Taken w r w')

-- out of the set, or it has none
abbrev pub Picked : (w : List ℕ) → Option ℕ → (w' : List ℕ) → Type 0
Picked w r w' = MatchOption r ((x : ℕ) → chosen w x ≡ false) (λ r. Taken w r w')

-- the set with those of set number s
pub record Joined (w l : List ℕ) (s : ℕ) (w' : List ℕ) : Type 0 where
  pub long : length w' ≡ 4
  pub is : (x : ℕ) → x < 256 → chosen w' x ≡ chosen w x || member l s x

-- r was put into set number s
pub record Put (l : List ℕ) (s r : ℕ) (l' : List ℕ) : Type 0 where
  pub long : length l' ≡ 384
  pub is : (s' x : ℕ) → x < 256 → member l' s' x ≡ member l s' x || (eqb s s' && eqb r x)
