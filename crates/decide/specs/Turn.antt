-- The choice of the rules for the next round: those that need a triple or a head of a symbol that changed. What serves the decision's own functions. Assumes nothing.
use Rattle.std.specs.Prelude.{Bool, true, false, eqb, not, ◌&&◌, ◌||◌, List, ◌≡◌, ℕ, suc, ◌+◌, ◌<◌, T, length}
use Rattle.std.specs.Int.Bits.{bit_or}
use Rattle.product.specs.Product.{Rule, exit, direct, call, Product}
use Rattle.product.specs.Facts.{head}
use Rattle.product.specs.Rounds.{held}
use Rattle.product.specs.Verdict.{adds}
use Rattle.table.specs.declared.Size.{Size}
use Rattle.bits.specs.Bit.{bit}
use Rattle.bits.specs.Matrix.{some}
use Rattle.decide.specs.declared.Next.{Next}
use Rattle.decide.specs.Sets.{member, chosen}
use Rattle.decide.specs.Gather.{zeros}
use Rattle.decide.specs.Stamp.{of_heads, of_triples}
use Rattle.decide.specs.Standing.{Begins, Kept}

-- r stands in one of the sets from number `from` on, those of the symbols that changed
unfoldable pub collected : (us : List ℕ) → (from changed r : ℕ) → Bool
collected us from changed r = some 64 (λ g. bit changed g && member us (from + g) r)

-- the set w with those
pub record Collected (us : List ℕ) (from changed : ℕ) (w w' : List ℕ) : Type 0 where
  pub long : length w' ≡ 4
  pub is : (r : ℕ) → r < 256 → chosen w' r ≡ chosen w r || collected us from changed r

-- the sets of the rules: from 0 on by the triples that their triples need, from 32 on and from 64 on by the triples and by the heads that their heads need
abbrev pub UsesOf : (us : List ℕ) → (r : ℕ) → Rule → Type 0
UsesOf us r (exit g) = Unit {0}
UsesOf us r (direct g g1) = T (member us g1 r) × T (member us (64 + g) r)
UsesOf us r (call g g1 g2) = T (member us g1 r) × T (member us g2 r) × T (member us (32 + g1) r) × T (member us (64 + g) r)

pub record Uses (p : Product) (us : List ℕ) : Type 0 where
  pub there : (r : ℕ) → r < p.rules → UsesOf us r (p.rule r)
  pub only : (s r : ℕ) → r < 256 → T (member us s r) → r < p.rules

-- the rules that need what changed, by the symbols ce of new triples and ch of new heads; `more` is whether there are any
pub record Chosen (us : List ℕ) (ce ch : ℕ) (t : Next) : Type 0 where
  pub more_is : t.more ≡ not (eqb (bit_or ce ch) 0)
  pub changed_is : t.changed ≡ ch
  pub triples : Collected us 0 ce (zeros 4) t.wt.words
  pub by_triples : List ℕ
  pub returned : Collected us 32 ce (zeros 4) by_triples
  pub heads : Collected us 64 ch by_triples t.wh.words

-- What stands after round n + 1, with enough rules for the next. `more` is whether the round added a fact; `changed` has the symbols with a new head.
pub record After (p : Product) (z : Size) (n : ℕ) (rs tg hs ts : List ℕ) (t : Next) (by' e' hd' hs' ts' : List ℕ) : Type 0 where
  pub begins : Begins p z (suc n) t.wt.words t.wh.words rs tg by' e' hd' hs' ts'
  pub triples_kept : Kept of_triples z ts ts'
  pub heads_kept : Kept of_heads z hs hs'
  pub idle : t.more ≡ false → T (not (adds p (suc n)))
  pub busy : t.more ≡ true → T (adds p (suc n))
  pub low : (g : ℕ) → T (bit t.changed g) → g < 32
  pub quiet : (q g : ℕ) → bit t.changed g ≡ false → T (held p (suc n) (head q g)) → T (held p n (head q g))
