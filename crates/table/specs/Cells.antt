-- The two arrays of a table: where the cell of a fact lies, what stands there, and a whole table laid out. Assumes nothing.
use Rattle.std.specs.Prelude.{cond, ◌&&◌, List, ℕ, zero, suc, ◌+◌, ◌*◌, ltb, get_or, set}
use Rattle.product.specs.Lists.{up_to, over, each}
use Rattle.product.specs.Facts.{Fact, head, triple, same}
use Rattle.product.specs.Table.{Table, absent}

-- how many heads and triples there are, for G symbols and Q states
abbrev pub head_count : (G Q : ℕ) → ℕ
head_count G Q = Q * G

abbrev pub triple_count : (G Q : ℕ) → ℕ
triple_count G Q = Q * G * Q

-- head (q, g) lies at q·G+g, and triple (q, g, e) at (q·G+g)·Q+e
abbrev pub head_cell : (G q g : ℕ) → ℕ
head_cell G q g = q * G + g

abbrev pub triple_cell : (G Q q g e : ℕ) → ℕ
triple_cell G Q q g e = (q * G + g) * Q + e

-- what stands there; a fact whose numbers are out of range is absent
abbrev pub head_in : (G Q : ℕ) → List ℕ → (q g : ℕ) → ℕ
head_in G Q hs q g = cond (ltb q Q && ltb g G) (get_or hs (head_cell G q g) 0) absent

abbrev pub triple_in : (G Q : ℕ) → List ℕ → (q g e : ℕ) → ℕ
triple_in G Q ts q g e = cond (ltb q Q && ltb g G && ltb e Q) (get_or ts (triple_cell G Q q g e) 0) absent

-- the two arrays as one table
abbrev pub view : (G Q : ℕ) → (heads triples : List ℕ) → Table
view G Q hs ts (head q g) = head_in G Q hs q g
view G Q hs ts (triple q g e) = triple_in G Q ts q g e

-- a table with another number for one fact
abbrev pub store : Table → Fact → ℕ → Table
store t f n = λ d. cond (same f d) n (t d)

-- an array with one rank put into its cell
abbrev pub put_head : (G Q : ℕ) → List ℕ → (q g n : ℕ) → List ℕ
put_head G Q hs q g n = cond (ltb q Q && ltb g G) (set hs (head_cell G q g) n) hs

abbrev pub put_triple : (G Q : ℕ) → List ℕ → (q g e n : ℕ) → List ℕ
put_triple G Q ts q g e n = cond (ltb q Q && ltb g G && ltb e Q) (set ts (triple_cell G Q q g e) n) ts

-- an array whose first n cells are marked absent, as far as it has them
unfoldable pub cleared : ℕ → List ℕ → List ℕ
cleared zero xs = xs
cleared (suc n) xs = set (cleared n xs) n absent

-- a table laid out, cell by cell: heads by state and symbol, triples by state, symbol and end state
abbrev pub heads_of : (G Q : ℕ) → Table → List ℕ
heads_of G Q t = over (up_to Q) (λ q. each (up_to G) (λ g. t (head q g)))

abbrev pub triples_of : (G Q : ℕ) → Table → List ℕ
triples_of G Q t = over (up_to Q) (λ q. over (up_to G) (λ g. each (up_to Q) (λ e. t (triple q g e))))
