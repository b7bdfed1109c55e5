-- The bytes of a listing: a header, then a line for each head and each triple that is present, in cell order. Assumes nothing.
unfoldable pub use Rattle.print.specs.Bytes.{line_bytes}
use Rattle.std.specs.Prelude.{List, [], ◌∷◌, ◌++◌, ℕ, ◌*◌, ◌/◌, ◌%◌, eqb, length, get_or}
use Rattle.text.specs.Split.{pick}
use Rattle.product.specs.Lists.{up_to, over}
use Rattle.product.specs.Table.{absent}
use Rattle.listingline.specs.Line.{safe, head, erase}
use Rattle.printing.specs.declared.Kind.{Kind}
use Rattle.printing.specs.declared.Kind.TheVariants.{Head, Triple}

abbrev pub word : Kind → List ℕ
word Head = head
word Triple = erase

-- the numbers of the fact whose cell is i: head (q, g) lies at q·G+g, and triple (q, g, e) at (q·G+g)·Q+e
abbrev pub fact_at : Kind → (G Q i : ℕ) → List ℕ
fact_at Head G Q i = i / G ∷ i % G ∷ []
fact_at Triple G Q i = i / Q / G ∷ i / Q % G ∷ i % Q ∷ []

-- those of the first n cells that are present
unfoldable pub present_in : (cells : List ℕ) → (n : ℕ) → List ℕ
present_in cells n = over (up_to n) (λ i. pick (eqb (get_or cells i 0) absent) [] (i ∷ []))

-- the line of cell i: its word, its fact and its rank
abbrev pub cell_bytes : Kind → (G Q : ℕ) → (i rank : ℕ) → List ℕ
cell_bytes kind G Q i rank = line_bytes (word kind) (fact_at kind G Q i ++ rank ∷ [])

-- nothing for a cell that is not present
abbrev pub if_present : Kind → (G Q : ℕ) → (i rank : ℕ) → List ℕ
if_present kind G Q i rank = pick (eqb rank absent) [] (cell_bytes kind G Q i rank)

-- the lines of the first n cells
unfoldable pub cells_bytes : Kind → (G Q : ℕ) → (cells : List ℕ) → ℕ → List ℕ
cells_bytes kind G Q cells n = over (up_to n) (λ i. if_present kind G Q i (get_or cells i 0))

-- rounds, count of heads, count of triples, among the first h heads and the first t triples
unfoldable pub header_bytes : (rounds : ℕ) → (heads : List ℕ) → (h : ℕ) → (triples : List ℕ) → (t : ℕ) → List ℕ
header_bytes rounds hs h ts t = line_bytes safe (rounds ∷ length (present_in hs h) ∷ length (present_in ts t) ∷ [])

-- the whole listing, for G symbols and Q states
unfoldable pub listing_bytes : (G Q rounds : ℕ) → (heads triples : List ℕ) → List ℕ
listing_bytes G Q rounds hs ts = header_bytes rounds hs (Q * G) ts (Q * G * Q) ++ cells_bytes Head G Q hs (Q * G) ++ cells_bytes Triple G Q ts (Q * G * Q)
