-- The parts of a listing as they grow, and how long they are. Assumes nothing.
use mathlib.Core.Path.{◌≡◌, refl, ap, sym, ◌∙◌}
use mathlib.Core.List.{List, [], ◌∷◌, ◌++◌, append-nil}
use Prim.Native.Nat.{ℕ, zero, suc, ◌+◌, ◌*◌, ◌<◌, ◌≤◌}
use native.Mathlib.Omega.{arith}
use native.Mathlib.Numerals.{add-one}
use lib.Dec.{eqb}
use lib.ListN.{length, get_or, length-append}
use borrow.Author.Tests.{eq-eqb, ne_eqb}
use Rattle.text.specs.Split.{pick}
use Rattle.numbers.specs.Digits.{decimal}
use Rattle.numbers.proofs.Back.{decimal_length}
use Rattle.product.specs.Lists.{over}
use Rattle.product.specs.Table.{absent}
use Rattle.product.proofs.Lists.{over_suc}
use Rattle.printing.specs.Listing.{line_bytes, present_in, cell_bytes, if_present, cells_bytes}
use Rattle.printing.specs.declared.Kind.{Kind}
use Rattle.text.specs.Put.{place_in, Put}
use Rattle.text.proofs.Puts.{none_put, then_put, as_put}

-- one cell more
module _ (cells : List ℕ) (i : ℕ) where
  present_suc : present_in cells (i + 1) ≡ present_in cells i ++ pick (eqb (get_or cells i 0) absent) [] (i ∷ [])
  unfolding present_in
  present_suc = rw add-one (over_suc i (λ i. pick (eqb (get_or cells i 0) absent) [] (i ∷ [])))

  pub present_more : (get_or cells i 0 ≡ absent → ⊥) → present_in cells (i + 1) ≡ present_in cells i ++ i ∷ []
  present_more e = present_suc ∙ rw (ne_eqb _ _ e)

  pub present_same : get_or cells i 0 ≡ absent → present_in cells (i + 1) ≡ present_in cells i
  present_same e = present_suc ∙ rw (eq-eqb _ _ e) (append-nil (present_in cells i))

  pub count_more : (get_or cells i 0 ≡ absent → ⊥) → length (present_in cells (i + 1)) ≡ length (present_in cells i) + 1
  count_more e = ap length (present_more e) ∙ length-append (present_in cells i) (i ∷ [])

pub count_none : (cells : List ℕ) → 0 ≡ length (present_in cells 0)
unfolding present_in
count_none cells = refl

-- the lines of one cell more
pub cells_more : (kind : Kind) (G Q : ℕ) (cells : List ℕ) (i : ℕ)
    → cells_bytes kind G Q cells i ++ if_present kind G Q i (get_or cells i 0) ≡ cells_bytes kind G Q cells (i + 1)
unfolding cells_bytes
cells_more kind G Q cells i = rw add-one (sym (over_suc i (λ i. if_present kind G Q i (get_or cells i 0))))

pub cells_put : (kind : Kind) (G Q : ℕ) (cells : List ℕ) (i : ℕ) {o p q : List ℕ} {a b c : ℕ} → Put o p a b (cells_bytes kind G Q cells i) → Put p q b c (if_present kind G Q i (get_or cells i 0))
    → Put o q a c (cells_bytes kind G Q cells (i + 1))
cells_put kind G Q cells i x y = as_put (cells_more kind G Q cells i) (then_put x y)

pub cells_none : (kind : Kind) (G Q : ℕ) (cells : List ℕ) → [] ≡ cells_bytes kind G Q cells 0
unfolding cells_bytes
cells_none kind G Q cells = refl

-- a cell that is present, by its kind, and one that is not
pub fact_put : {o p : List ℕ} {a b : ℕ} {kind k : Kind} (G Q i rank : ℕ) → kind ≡ k → (rank ≡ absent → ⊥)
    → Put o p a b (cell_bytes k G Q i rank) → Put o p a b (if_present kind G Q i rank)
fact_put G Q i rank e h x = rw (e, ne_eqb rank absent h) x

pub absent_put : (o : List ℕ) (at : ℕ) {next : ℕ} (kind : Kind) (G Q i rank : ℕ) → rank ≡ absent → next ≡ place_in (length o) at → Put o o at next (if_present kind G Q i rank)
absent_put o at kind G Q i rank h e = rw (eq-eqb rank absent h) (none_put o at e)

-- the bytes of a number behind a tab
abbrev pub field : ℕ → List ℕ
field n = 9 ∷ decimal n

pub field_short : (n : ℕ) → n < 65536 → length (field n) ≤ 6
field_short n h = omega (arith, (decimal_length n (omega arith)).1)

pub fields_short : (s : List ℕ) → ((i : ℕ) → get_or s i 0 < 65536) → length (over s field) ≤ 6 * length s
fields_short [] h = omega arith
fields_short (n ∷ s) h = omega (arith, length-append (field n) (over s field), field_short n (h 0), fields_short s (λ i. h (suc i)))

pub line_short : (w s : List ℕ) → ((i : ℕ) → get_or s i 0 < 65536) → length (line_bytes w s) ≤ length w + 6 * length s + 1
unfolding line_bytes
line_short w s h = omega (arith, length-append (w ++ over s field) (10 ∷ []), length-append w (over s field), fields_short s h)

-- lines of at most w bytes each
pub cells_within : (kind : Kind) (G Q : ℕ) (cells : List ℕ) (w n : ℕ) → ((i : ℕ) → i < n → length (if_present kind G Q i (get_or cells i 0)) ≤ w) → length (cells_bytes kind G Q cells n) ≤ w * n
unfolding cells_bytes
cells_within kind G Q cells w zero h = omega arith
cells_within kind G Q cells w (suc n) h =
    rw (over_suc n (λ i. if_present kind G Q i (get_or cells i 0)))
    (omega (arith, length-append (cells_bytes kind G Q cells n) (if_present kind G Q n (get_or cells n 0)), h n (omega arith), cells_within kind G Q cells w n (λ i l. h i (omega arith))))
