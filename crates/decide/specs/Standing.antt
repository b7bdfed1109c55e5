-- What stands in the matrices and in the arrays after a round, and what a round asks and leaves. What serves the decision's own functions. Assumes nothing.
use Rattle.std.specs.Prelude.{false, not, List, ◌≡◌, ℕ, suc, ◌<◌, T, length, drop}
use Rattle.product.specs.Product.{Product, InRange}
use Rattle.product.specs.Facts.{head, triple}
use Rattle.product.specs.Rounds.{held}
use Rattle.product.specs.Table.{ranks}
use Rattle.table.specs.declared.Size.{Size}
use Rattle.bits.specs.Bit.{bit}
use Rattle.bits.specs.Matrix.{mats}
use Rattle.relations.specs.Quiet.{Enough}
use Rattle.steps.specs.Steps.{symbol_of}
use Rattle.steps.specs.Rows.{class_at}
use Rattle.decide.specs.Stamp.{Sort, of_heads, of_triples, view_of, cells_of}
use Rattle.decide.specs.Take.{Room}
use Rattle.decide.specs.Sets.{chosen}
use Rattle.relations.specs.Relations.{rest}
use Rattle.decide.specs.Frame.{Frame}

-- after round n: the facts held in the matrices e and the rows hd, and their ranks in the two arrays
pub record Standing (p : Product) (z : Size) (n : ℕ) (e hd hs ts : List ℕ) : Type 0 where
  pub triples_held : (g q x : ℕ) → mats e g q x ≡ held p n (triple q g x)
  pub heads_held : (g x : ℕ) → mats hd g 0 x ≡ held p n (head x g)
  pub triples_ranked : (q g x : ℕ) → view_of of_triples z ts (triple q g x) ≡ ranks p n (triple q g x)
  pub heads_ranked : (q g : ℕ) → view_of of_heads z hs (head q g) ≡ ranks p n (head q g)
  pub triples_room : Room of_triples z e ts
  pub heads_room : Room of_heads z hd hs

-- the product in its arrays
pub record Held (p : Product) (z : Size) (rs tg : List ℕ) : Type 0 where
  pub in_range : InRange p
  pub frame : Frame p z.states rs tg
  pub symbols_are : z.symbols ≡ p.symbols

-- What is run after the steps of the rules of a class, as far as it was gathered: some rule of the class has it, and it has gone through the steps of the class.
pub record Stored (p : Product) (n : ℕ) (rs tg by : List ℕ) : Type 0 where
  pub long : length by ≡ 256
  pub sound : (c k x : ℕ) → T (mats by c k x) → (r : ℕ) × (r < p.rules) × (class_at rs r ≡ c) × T (rest p.states (held p n) (p.rule r) k x)
  pub settled : (c q k x : ℕ) → T (mats tg c q k) → T (mats by c k x) → T (held p n (triple q (symbol_of c) x))

-- the sets wt and wh name rules of the product, and enough of them for the round after n
pub record Sets (p : Product) (n : ℕ) (wt wh : List ℕ) : Type 0 where
  pub triples_long : length wt ≡ 4
  pub heads_long : length wh ≡ 4
  pub triples_only : (r : ℕ) → T (chosen wt r) → r < p.rules
  pub heads_only : (r : ℕ) → T (chosen wh r) → r < p.rules
  pub enough : Enough p (chosen wt) (chosen wh) (held p n)

pub record Begins (p : Product) (z : Size) (n : ℕ) (wt wh rs tg by e hd hs ts : List ℕ) : Type 0 where
  pub arrays : Held p z rs tg
  pub sets : Sets p n wt wh
  pub stored : Stored p n rs tg by
  pub standing : Standing p z n e hd hs ts

-- as long as before, and the same past the table
pub record Kept (s : Sort) (z : Size) (xs xs' : List ℕ) : Type 0 where
  pub as_long : length xs' ≡ length xs
  pub past : drop (cells_of s z) xs' ≡ drop (cells_of s z) xs

-- the round after n; ce and ch are the sets of the symbols whose triples and heads changed
pub record Ends (p : Product) (z : Size) (n : ℕ) (rs tg hs ts : List ℕ) (ce ch : ℕ) (by' e' hd' hs' ts' : List ℕ) : Type 0 where
  pub standing : Standing p z (suc n) e' hd' hs' ts'
  pub stored : Stored p (suc n) rs tg by'
  pub triples_kept : Kept of_triples z ts ts'
  pub heads_kept : Kept of_heads z hs hs'
  pub triples_quiet : (q g x : ℕ) → bit ce g ≡ false → T (held p (suc n) (triple q g x)) → T (held p n (triple q g x))
  pub heads_quiet : (q g : ℕ) → bit ch g ≡ false → T (held p (suc n) (head q g)) → T (held p n (head q g))
  pub triples_fresh : (g : ℕ) → T (bit ce g) → (q : ℕ) × (x : ℕ) × T (held p (suc n) (triple q g x)) × T (not (held p n (triple q g x)))
  pub heads_fresh : (g : ℕ) → T (bit ch g) → (q : ℕ) × T (held p (suc n) (head q g)) × T (not (held p n (head q g)))
