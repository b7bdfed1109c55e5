-- The lines of the cells of a table, read back: they lead to a state that holds the cells, each counted once. Assumes nothing.
use mathlib.Core.Path.{◌≡◌, refl, ap, sym, ◌∙◌, subst}
use mathlib.Core.Bool.{Bool, true, false}
use mathlib.Core.List.{List, [], ◌∷◌}
use Prim.Native.Nat.{ℕ, zero, suc, ◌+◌, ◌*◌, ◌/◌, ◌%◌, ◌<◌, ◌≤◌}
use native.Mathlib.Numerals.{add-one}
use native.Mathlib.Nat.{div-add-mod', div-lt_iff_lt-mul, mod-lt, div-le_self, mod-le}
use native.Mathlib.Omega.{arith}
use lib.Dec.{eqb}
use lib.ListN.{length, get_or, set}
use lib.Seq.{get_or-set_other, set-get_or}
use borrow.Author.Tests.{eqb-true, eqb-false}
use Rattle.text.specs.Split.{pick, without, same_bytes}
use Rattle.product.specs.Table.{absent}
use Rattle.table.specs.declared.Size.{Size}
use Rattle.table.specs.Cells.{head_in, triple_in, put_head, put_triple}
use Rattle.table.proofs.Cells.{head_inside, triple_inside}
use Rattle.listingline.specs.Line.{line_by, head, erase}
use Rattle.rows.specs.State.{State}
use Rattle.rows.specs.Lines.{goes, step_of, head_step, triple_step}
use Rattle.ranking.specs.Rank.{largest}
use Rattle.listing.specs.Reading.{filled}
use Rattle.ranking.proofs.Faults.{fault_none}
use Rattle.rows.proofs.Steps.{head_taken, triple_taken}
use Rattle.listing.proofs.Filled.{fill_none, fill_more}
use Rattle.printing.specs.declared.Kind.{Kind}
use Rattle.printing.specs.declared.Kind.TheVariants.{Head, Triple}
use Rattle.printing.specs.Listing.{cell_bytes, if_present, cells_bytes, present_in}
use Rattle.printing.proofs.Bytes.{present_same, count_more, count_none, cells_none, cells_more}
use Rattle.readback.proofs.Back.{numbers, Leads, leads_none, leads_then, leads_line}

-- the cells and the count of a kind in a state, and the state with others
abbrev pub cells_in : Kind → State → List ℕ
cells_in Head s = s.headcells
cells_in Triple s = s.triplecells

abbrev pub counted : Kind → State → ℕ
counted Head s = s.heads
counted Triple s = s.triples

abbrev pub holding : Kind → State → ℕ → List ℕ → State
holding Head s n l = record {
  begun = s.begun;
  rounds = s.rounds;
  headcount = s.headcount;
  triplecount = s.triplecount;
  heads = n;
  triples = s.triples;
  headcells = l;
  triplecells = s.triplecells;
}
holding Triple s n l = record {
  begun = s.begun;
  rounds = s.rounds;
  headcount = s.headcount;
  triplecount = s.triplecount;
  heads = s.heads;
  triples = n;
  headcells = s.headcells;
  triplecells = l;
}

-- after the lines of the first k cells
abbrev pub after : Kind → State → List ℕ → ℕ → State
after kind s cells k = holding kind s (counted kind s + length (present_in cells k)) (filled k cells (cells_in kind s))

abbrev pub many : Kind → (G Q : ℕ) → ℕ
many Head G Q = Q * G
many Triple G Q = Q * G * Q

-- a cell's row and place
row_place : (i c : ℕ) → i / c * c + i % c ≡ i
row_place i c = div-add-mod' i c

row_below : (i c n : ℕ) → 1 ≤ c → i < n * c → i / c < n
row_below i c n h l = (div-lt_iff_lt-mul h).1 l

module _ (z : Size) (some_symbol : 1 ≤ z.symbols) (some_state : 1 ≤ z.states) (s : State) (begun : s.begun ≡ true) (i rank : ℕ) (small : rank ≤ largest) where
  abbrev G : ℕ
  G = z.symbols

  abbrev Q : ℕ
  Q = z.states

  head_line : i < Q * G → get_or s.headcells i 0 ≡ absent → head_step z s (numbers (i / G ∷ i % G ∷ rank ∷ [])) ≡ goes (holding Head s (s.heads + 1) (set s.headcells i rank))
  head_line l a =
      let q : i / G < Q = row_below i G Q some_symbol l in
      let g : i % G < G = mod-lt i some_symbol in
      let b = head_inside q g in
      let held : head_in G Q s.headcells (i / G) (i % G) ≡ absent = rw (head_inside q g, row_place i G) a in
      sym (head_taken z s (numbers (i / G ∷ i % G ∷ rank ∷ [])) (fault_none s.begun _ _ rank begun held b small) refl
      (let e : set s.headcells i rank ≡ put_head G Q s.headcells (i / G) (i % G) rank = rw (head_inside q g, row_place i G) in e))

  triple_line : i < Q * G * Q → get_or s.triplecells i 0 ≡ absent
      → triple_step z s (numbers (i / Q / G ∷ i / Q % G ∷ i % Q ∷ rank ∷ [])) ≡ goes (holding Triple s (s.triples + 1) (set s.triplecells i rank))
  triple_line l a =
      let q : i / Q / G < Q = row_below (i / Q) G Q some_symbol (row_below i Q (Q * G) some_state l) in
      let g : i / Q % G < G = mod-lt (i / Q) some_symbol in
      let e : i % Q < Q = mod-lt i some_state in
      let b = triple_inside q g e in
      let held : triple_in G Q s.triplecells (i / Q / G) (i / Q % G) (i % Q) ≡ absent = rw (triple_inside q g e, row_place (i / Q) G, row_place i Q) a in
      sym (triple_taken z s (numbers (i / Q / G ∷ i / Q % G ∷ i % Q ∷ rank ∷ [])) (fault_none s.begun _ _ rank begun held b small) refl
      (let x : set s.triplecells i rank ≡ put_triple G Q s.triplecells (i / Q / G) (i / Q % G) (i % Q) rank = rw (triple_inside q g e, row_place (i / Q) G, row_place i Q) in x))

  -- the line of one cell that is not held yet
  pub leads_cell : (kind : Kind) → i < many kind G Q → i < 2048 → get_or (cells_in kind s) i 0 ≡ absent
      → Leads z s (cell_bytes kind G Q i rank) (holding kind s (counted kind s + 1) (set (cells_in kind s) i rank))
  unfolding line_by same_bytes without step_of
  leads_cell Head l m a =
      leads_line z s (holding Head s (s.heads + 1) (set s.headcells i rank)) head (i / G) (i % G ∷ rank ∷ []) (λ m. refl) tt tt (omega arith)
      (omega (arith, div-le_self i G), (omega (arith, mod-le i G), (omega arith, tt))) (head_line l a)
  leads_cell Triple l m a =
      leads_line z s (holding Triple s (s.triples + 1) (set s.triplecells i rank)) erase (i / Q / G) (i / Q % G ∷ i % Q ∷ rank ∷ []) (λ m. refl) tt tt (omega arith)
      (omega (arith, div-le_self i Q, div-le_self (i / Q) G), (omega (arith, div-le_self i Q, mod-le (i / Q) G), (omega (arith, mod-le i Q), (omega arith, tt)))) (triple_line l a)

-- cells that are not yet filled, and one whose number stands there already
filled_above : (xs ys : List ℕ) (k i : ℕ) → k ≤ i → get_or (filled k xs ys) i 0 ≡ get_or ys i 0
unfolding filled
filled_above xs ys zero i h = refl
filled_above xs ys (suc k) i h = get_or-set_other (filled k xs ys) k i (get_or xs k 0) 0 (λ e. omega arith) ∙ filled_above xs ys k i (omega arith)

filled_idle : (xs ys : List ℕ) (k : ℕ) → get_or ys k 0 ≡ get_or xs k 0 → filled k xs ys ≡ filled (k + 1) xs ys
filled_idle xs ys k e =
    sym (set-get_or (filled k xs ys) k 0)
    ∙ fill_more xs ys (filled k xs ys) k (filled_above xs ys k k (omega arith) ∙ e) refl

-- a state that holds other cells and counts is one more step of the same
holding_again : (kind : Kind) (s : State) (n k : ℕ) (l m : List ℕ) → holding kind (holding kind s n l) k m ≡ holding kind s k m
holding_again Head s n k l m = refl
holding_again Triple s n k l m = refl

cells_held : (kind : Kind) (s : State) (n : ℕ) (l : List ℕ) → cells_in kind (holding kind s n l) ≡ l
cells_held Head s n l = refl
cells_held Triple s n l = refl

count_held : (kind : Kind) (s : State) (n : ℕ) (l : List ℕ) → counted kind (holding kind s n l) ≡ n
count_held Head s n l = refl
count_held Triple s n l = refl

begun_held : (kind : Kind) (s : State) (n : ℕ) (l : List ℕ) → s.begun ≡ true → (holding kind s n l).begun ≡ true
begun_held Head s n l e = e
begun_held Triple s n l e = e

holding_self : (kind : Kind) (s : State) → holding kind s (counted kind s) (cells_in kind s) ≡ s
holding_self Head s = refl
holding_self Triple s = refl

module _ (z : Size) (some_symbol : 1 ≤ z.symbols) (some_state : 1 ≤ z.states) (kind : Kind) (s : State) (begun : s.begun ≡ true) (cells : List ℕ)
    (few : many kind z.symbols z.states ≤ 2048) (blank : (i : ℕ) → i < many kind z.symbols z.states → get_or (cells_in kind s) i 0 ≡ absent)
    (small : (i : ℕ) → get_or cells i 0 ≤ absent) where
  one_cell : (k : ℕ) → k < many kind z.symbols z.states
      → Leads z (after kind s cells k) (if_present kind z.symbols z.states k (get_or cells k 0)) (after kind s cells (k + 1))
  one_cell k l = go (eqb (get_or cells k 0) absent) refl
    where
      gone : get_or cells k 0 ≡ absent → after kind s cells k ≡ after kind s cells (k + 1)
      gone e =
          ap (λ x. holding kind s (counted kind s + length x) (filled k cells (cells_in kind s))) (sym (present_same cells k e))
          ∙ ap (λ x. holding kind s (counted kind s + length (present_in cells (k + 1))) x) (filled_idle cells (cells_in kind s) k (blank k l ∙ sym e))

      came : (get_or cells k 0 ≡ absent → ⊥)
          → holding kind (after kind s cells k) (counted kind (after kind s cells k) + 1) (set (cells_in kind (after kind s cells k)) k (get_or cells k 0)) ≡ after kind s cells (k + 1)
      came e =
          holding_again kind s _ _ _ _
          ∙ ap (λ x. holding kind s (x + 1) (set (cells_in kind (after kind s cells k)) k (get_or cells k 0))) (count_held kind s _ _)
          ∙ ap (λ x. holding kind s (counted kind s + length (present_in cells k) + 1) (set x k (get_or cells k 0))) (cells_held kind s _ _)
          ∙ ap (λ x. holding kind s x (set (filled k cells (cells_in kind s)) k (get_or cells k 0))) (omega (arith, count_more cells k e))
          ∙ ap (holding kind s (counted kind s + length (present_in cells (k + 1)))) (fill_more cells (cells_in kind s) (filled k cells (cells_in kind s)) k refl refl)

      go : (t : Bool) → eqb (get_or cells k 0) absent ≡ t
          → Leads z (after kind s cells k) (pick t [] (cell_bytes kind z.symbols z.states k (get_or cells k 0))) (after kind s cells (k + 1))
      go true e = rw (← gone (eqb-true _ _ e)) (leads_none z (after kind s cells k))
      go false e =
          let h : get_or cells k 0 ≡ absent → ⊥ = eqb-false _ _ e in
          subst (λ t. Leads z (after kind s cells k) (cell_bytes kind z.symbols z.states k (get_or cells k 0)) t) (came h)
          (leads_cell z some_symbol some_state (after kind s cells k) (begun_held kind s _ _ begun) k (get_or cells k 0) (let b = small k in omega arith) kind l (omega arith)
          (ap (λ x. get_or x k 0) (cells_held kind s _ _) ∙ filled_above cells (cells_in kind s) k k (omega arith) ∙ blank k l))

  leads_first : Leads z s (cells_bytes kind z.symbols z.states cells 0) (after kind s cells 0)
  leads_first =
      subst (λ l. Leads z s l (after kind s cells 0)) (cells_none kind z.symbols z.states cells)
      (subst (λ t. Leads z s [] t)
      (sym (holding_self kind s)
      ∙ ap (λ n. holding kind s n (cells_in kind s)) (omega (arith, count_none cells))
      ∙ ap (holding kind s (counted kind s + length (present_in cells 0))) (fill_none cells (cells_in kind s)))
      (leads_none z s))

  -- the lines of the first n cells
  pub leads_cells : (n : ℕ) → n ≤ many kind z.symbols z.states → Leads z s (cells_bytes kind z.symbols z.states cells n) (after kind s cells n)
  leads_cells zero h = leads_first
  leads_cells (suc n) h =
      let e : n + 1 ≡ suc n = add-one n in
      subst (λ k. Leads z s (cells_bytes kind z.symbols z.states cells k) (after kind s cells k)) e
      (subst (λ l. Leads z s l (after kind s cells (n + 1))) (cells_more kind z.symbols z.states cells n)
      (leads_then (leads_cells n (omega arith)) (one_cell n (omega arith))))
