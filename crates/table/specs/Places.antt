-- A fact as the code has it, its place, and what is read and put there. Assumes nothing.
use Rattle.std.specs.Prelude.{Option, Some, None, Bool, true, false, ◌&&◌, List, ℕ, ltb, get_or, set}
use Rattle.product.specs.Facts as product
use Rattle.product.specs.Facts.{head, triple}
use Rattle.product.specs.Table.{absent}
use Rattle.table.specs.declared.Fact.{Fact}
use Rattle.table.specs.declared.Fact.TheVariants.{Head, Triple}
use Rattle.table.specs.Cells.{head_cell, triple_cell, put_head, put_triple}

-- the code's fact as the theory has it, and the other way
abbrev pub fact_of : Fact → product.Fact
fact_of (Head q g) = head q g
fact_of (Triple q g e) = triple q g e

abbrev pub as_fact : product.Fact → Fact
as_fact (head q g) = Head q g
as_fact (triple q g e) = Triple q g e

-- the cell i, of a fact that is in range
abbrev pub place : (inside : Bool) → (i : ℕ) → Option ℕ
place true i = Some i
place false i = None

-- the numbers of a fact are in range; and the place of a fact in the array of its kind
abbrev pub inside : (G Q : ℕ) → product.Fact → Bool
inside G Q (head q g) = ltb q Q && ltb g G
inside G Q (triple q g e) = ltb q Q && ltb g G && ltb e Q

abbrev pub cell_of : (G Q : ℕ) → product.Fact → ℕ
cell_of G Q (head q g) = head_cell G q g
cell_of G Q (triple q g e) = triple_cell G Q q g e

abbrev pub place_of : (G Q : ℕ) → product.Fact → Option ℕ
place_of G Q f = place (inside G Q f) (cell_of G Q f)

abbrev pub read_at : List ℕ → Option ℕ → ℕ
read_at xs None = absent
read_at xs (Some i) = get_or xs i 0

abbrev pub put_at : List ℕ → Option ℕ → ℕ → List ℕ
put_at xs None n = xs
put_at xs (Some i) n = set xs i n

-- an array with one rank put into the cell of a fact
abbrev pub put_in : (G Q : ℕ) → List ℕ → product.Fact → (n : ℕ) → List ℕ
put_in G Q xs (head q g) n = put_head G Q xs q g n
put_in G Q xs (triple q g e) n = put_triple G Q xs q g e n
