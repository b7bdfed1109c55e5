-- What is written reads back: for every valid model, all rounds up to 65,534 and any numbers in the cells, the listing is not too long, it is accepted,
-- and it gives the rounds and every cell of the table again. Assumes nothing.
use mathlib.Core.Path.{◌≡◌, refl, ap, sym, ◌∙◌}
use mathlib.Core.Bool.{Bool, true, false}
use mathlib.Core.List.{List, [], ◌∷◌, ◌++◌, append-nil}
use mathlib.Core.Logic.{⊎_elim}
use Prim.Native.Nat.{ℕ, zero, suc, ◌+◌, ◌*◌, ◌/◌, ◌%◌, ◌<◌, ◌≤◌}
use native.Mathlib.Decide.{ℕ_discrete}
use native.Mathlib.Nat.{div-lt_iff_lt-mul, mod-lt, not-suc-le-zero}
use native.Mathlib.Omega.{arith}
use lib.Dec.{eqb}
use lib.ListN.{length, get_or, set, length-append, length-set, length-replicate, get_or-replicate}
use lib.Seq.{get_or-set_same, get_or-set_other}
use borrow.Author.Tests.{eq-eqb}
use Rattle.text.specs.Split.{pick, first, later, without, same_bytes}
use Rattle.numbers.specs.Digits.{decimal_in}
use Rattle.numbers.proofs.Back.{below_ten}
use Rattle.numbers.proofs.Decimals.{decimal_one, decimal_more}
use Rattle.product.specs.Lists.{over}
use Rattle.product.specs.Table.{absent}
use Rattle.table.specs.declared.Size.{Size}
use Rattle.listingline.specs.Line.{line_by, safe, head, erase}
use Rattle.model.specs.declared.Model.{Model}
use Rattle.model.specs.Valid.{valid}
use Rattle.model.proofs.Valid.{Sizes, valid_sizes}
use Rattle.rows.specs.State.{State}
use Rattle.std.specs.Prelude.{Ok}
use Rattle.fitting.specs.Fits.{size_of, heads_of, triples_of, Fits}
use Rattle.ranking.specs.Rank.{largest}
use Rattle.rows.specs.Lines.{start_state, with_header, ends, step_of, agreement, finished, read_lines, longest}
use Rattle.listing.specs.Reading.{lines_of, filled, Reads}
use Rattle.fitting.proofs.Tested.{cells_fit}
use Rattle.rows.proofs.Steps.{safe_taken}
use Rattle.rows.proofs.Lines.{from_end, short_text}
use Rattle.listing.proofs.Cases.{accepted_reads}
use Rattle.printing.specs.declared.Kind.{Kind}
use Rattle.printing.specs.declared.Kind.TheVariants.{Head, Triple}
use Rattle.printing.specs.Listing.{line_bytes, present_in, cell_bytes, if_present, cells_bytes, header_bytes, listing_bytes}
use Rattle.printing.specs.Writing.{bytes_of}
use Rattle.printing.proofs.Bytes.{field, field_short, cells_within}
use Rattle.printing.proofs.Whole.{present_few, header_short}
use Rattle.readback.proofs.Back.{numbers, Leads, leads_then, leads_line}
use Rattle.readback.proofs.Again.{after, many, leads_cells}

-- one digit, and two at the most
one_digit : (n : ℕ) → n < 10 → length (field n) ≤ 2
one_digit n h = omega (arith, ap length (decimal_one 4 n h))

two_digits : (n : ℕ) → n < 100 → length (field n) ≤ 3
two_digits n h =
    ⊎_elim
    (λ l. omega (arith, one_digit n l))
    (λ l. omega (arith, ap length (decimal_more 4 n l), length-append (decimal_in 4 (n / 10)) ((48 + n % 10) ∷ []), ap length (decimal_one 3 (n / 10) (omega arith))))
    (below_ten n)

three_fields : (w : List ℕ) (a b c : ℕ) → length (line_bytes w (a ∷ b ∷ c ∷ [])) ≡ length w + (length (field a) + (length (field b) + (length (field c) + 0))) + 1
unfolding line_bytes
three_fields w a b c =
    length-append (w ++ over (a ∷ b ∷ c ∷ []) field) (10 ∷ [])
    ∙ ap (λ n. n + 1)
    (length-append w (over (a ∷ b ∷ c ∷ []) field)
    ∙ ap (λ n. length w + n)
    (length-append (field a) (over (b ∷ c ∷ []) field)
    ∙ ap (λ n. length (field a) + n) (length-append (field b) (over (c ∷ []) field) ∙ ap (λ n. length (field b) + n) (length-append (field c) []))))

four_fields : (w : List ℕ) (a b c d : ℕ) → length (line_bytes w (a ∷ b ∷ c ∷ d ∷ [])) ≡ length w + (length (field a) + (length (field b) + (length (field c) + (length (field d) + 0)))) + 1
unfolding line_bytes
four_fields w a b c d =
    length-append (w ++ over (a ∷ b ∷ c ∷ d ∷ []) field) (10 ∷ [])
    ∙ ap (λ n. n + 1)
    (length-append w (over (a ∷ b ∷ c ∷ d ∷ []) field)
    ∙ ap (λ n. length w + n)
    (length-append (field a) (over (b ∷ c ∷ d ∷ []) field)
    ∙ ap (λ n. length (field a) + n)
    (length-append (field b) (over (c ∷ d ∷ []) field)
    ∙ ap (λ n. length (field b) + n) (length-append (field c) (over (d ∷ []) field) ∙ ap (λ n. length (field c) + n) (length-append (field d) [])))))

-- the longest line of a kind
abbrev width : Kind → ℕ
width Head = 16
width Triple = 19

cell_width : (kind : Kind) (G Q i rank : ℕ) → 1 ≤ G → G ≤ 32 → 1 ≤ Q → Q ≤ 8 → i < many kind G Q → rank < 65536 → length (cell_bytes kind G Q i rank) ≤ width kind
cell_width Head G Q i rank g g' q q' l r =
    let a : i / G < Q = (div-lt_iff_lt-mul g).1 l in
    let b : i % G < G = mod-lt i g in
    omega (arith, three_fields head (i / G) (i % G) rank, one_digit (i / G) (omega arith), two_digits (i % G) (omega arith), field_short rank r)
cell_width Triple G Q i rank g g' q q' l r =
    let h : i / Q < Q * G = (div-lt_iff_lt-mul q).1 l in
    let a : i / Q / G < Q = (div-lt_iff_lt-mul g).1 h in
    let b : i / Q % G < G = mod-lt (i / Q) g in
    let e : i % Q < Q = mod-lt i q in
    omega (arith, four_fields erase (i / Q / G) (i / Q % G) (i % Q) rank, one_digit (i / Q / G) (omega arith), two_digits (i / Q % G) (omega arith), one_digit (i % Q) (omega arith), field_short rank r)

fact_width : (kind : Kind) (G Q i rank : ℕ) → length (cell_bytes kind G Q i rank) ≤ width kind → length (if_present kind G Q i rank) ≤ width kind
fact_width kind G Q i rank h = go (eqb rank absent)
  where
    go : (t : Bool) → length (pick t [] (cell_bytes kind G Q i rank)) ≤ width kind
    go true = omega arith
    go false = h

-- copying cells that were copied
length_filled : (n : ℕ) (xs ys : List ℕ) → length (filled n xs ys) ≡ length ys
unfolding filled
length_filled zero xs ys = refl
length_filled (suc n) xs ys = length-set (filled n xs ys) n (get_or xs n 0) ∙ length_filled n xs ys

filled_below : (n : ℕ) (xs ys : List ℕ) → n ≤ length ys → (i : ℕ) → i < n → get_or (filled n xs ys) i 0 ≡ get_or xs i 0
unfolding filled
filled_below zero xs ys h i l = absurd (not-suc-le-zero l)
filled_below (suc n) xs ys h i l = go (filled_below n xs ys (omega arith) i) (ℕ_discrete i n)
  where
    go : (i < n → get_or (filled n xs ys) i 0 ≡ get_or xs i 0) → Dec (i ≡ n) → get_or (set (filled n xs ys) n (get_or xs n 0)) i 0 ≡ get_or xs i 0
    go more (yes e) = rw e (get_or-set_same (filled n xs ys) n (get_or xs n 0) 0 (omega (arith, length_filled n xs ys)))
    go more (no e) = get_or-set_other (filled n xs ys) n i (get_or xs n 0) 0 e ∙ more (omega arith)

filled_like : (n : ℕ) (xs us ys : List ℕ) → ((i : ℕ) → i < n → get_or xs i 0 ≡ get_or us i 0) → filled n xs ys ≡ filled n us ys
unfolding filled
filled_like zero xs us ys h = refl
filled_like (suc n) xs us ys h = ap (λ l. set l n (get_or xs n 0)) (filled_like n xs us ys (λ i l. h i (omega arith))) ∙ ap (set (filled n us ys) n) (h n (omega arith))

-- before the first line no cell is held
start_heads : (i : ℕ) → i < 256 → get_or start_state.headcells i 0 ≡ absent
unfolding start_state
start_heads i h = get_or-replicate 256 i absent 0 h

start_triples : (i : ℕ) → i < 2048 → get_or start_state.triplecells i 0 ≡ absent
unfolding start_state
start_triples i h = get_or-replicate 2048 i absent 0 h

start_long : (length start_state.headcells ≡ 256) × (length start_state.triplecells ≡ 2048)
unfolding start_state
start_long = (length-replicate 256 absent, length-replicate 2048 absent)

start_none : (start_state.begun ≡ false) × (start_state.heads ≡ 0) × (start_state.triples ≡ 0)
unfolding start_state
start_none = (refl, refl, refl)

agreed : (b : Bool) (h k t u : ℕ) → b ≡ true → h ≡ k → t ≡ u → agreement b h k t u ≡ 0
unfolding agreement
agreed b h k t u x y z = rw (x, eq-eqb _ _ y, eq-eqb _ _ z)

at_end : (z : Size) (n : ℕ) (s : State) → read_lines z n s [] ≡ finished s
unfolding first later
at_end z n s = from_end z s n [] (omega arith)

module _ (m : Model) (v : valid m ≡ true) (rounds : ℕ) (r : rounds ≤ largest) (hs ts : List ℕ) (hs-small : (i : ℕ) → get_or hs i 0 ≤ absent) (ts-small : (i : ℕ) → get_or ts i 0 ≤ absent) where
  abbrev G : ℕ
  G = m.symbols

  abbrev Q : ℕ
  Q = m.states

  sizes : Sizes m
  sizes = valid_sizes m (rw v tt)

  abbrev H : ℕ
  H = length (present_in hs (heads_of m))

  abbrev K : ℕ
  K = length (present_in ts (triples_of m))

  -- the listing is within its size
  pub fits : length (bytes_of m rounds hs ts) ≤ longest
  unfolding listing_bytes
  fits =
      let z = sizes in
      let c = cells_fit m v in
      let x = cells_within Head G Q hs 16 (heads_of m) (λ i l. fact_width Head G Q i (get_or hs i 0) (cell_width Head G Q i (get_or hs i 0) z.some_symbol z.symbols z.some_state z.states l (let h = hs-small i in omega arith))) in
      let y = cells_within Triple G Q ts 19 (triples_of m) (λ i l. fact_width Triple G Q i (get_or ts i 0) (cell_width Triple G Q i (get_or ts i 0) z.some_symbol z.symbols z.some_state z.states l (let h = ts-small i in omega arith))) in
      omega (
        arith,
        x,
        y,
        header_short rounds hs (heads_of m) ts (triples_of m) (omega arith) (let a = c.heads in omega arith) c.triples,
        length-append (header_bytes rounds hs (heads_of m) ts (triples_of m) ++ cells_bytes Head G Q hs (heads_of m)) (cells_bytes Triple G Q ts (triples_of m)),
        length-append (header_bytes rounds hs (heads_of m) ts (triples_of m)) (cells_bytes Head G Q hs (heads_of m)),
      )

  abbrev begun_state : State
  begun_state = with_header start_state rounds H K

  abbrev heads_state : State
  heads_state = after Head begun_state hs (heads_of m)

  abbrev whole_state : State
  whole_state = after Triple heads_state ts (triples_of m)

  leads_header : Leads (size_of m) start_state (header_bytes rounds hs (heads_of m) ts (triples_of m)) begun_state
  unfolding header_bytes line_by same_bytes without step_of
  leads_header =
      let c = cells_fit m v in
      leads_line (size_of m) start_state begun_state safe rounds (H ∷ K ∷ []) (λ m. refl) tt tt (omega arith)
      (omega arith, (omega (arith, c.heads, present_few hs (heads_of m)), (omega (arith, c.triples, present_few ts (triples_of m)), tt)))
      (sym (safe_taken start_state (numbers (rounds ∷ H ∷ K ∷ [])) refl start_none.0 r))

  leads_all : Leads (size_of m) start_state (bytes_of m rounds hs ts) whole_state
  unfolding listing_bytes
  leads_all =
      let z = sizes in
      let c = cells_fit m v in
      leads_then
      (leads_then leads_header
      (leads_cells (size_of m) z.some_symbol z.some_state Head begun_state refl hs (let a = c.heads in omega arith) (λ i l. start_heads i (let a = c.heads in omega arith)) hs-small (heads_of m) (omega arith)))
      (leads_cells (size_of m) z.some_symbol z.some_state Triple heads_state refl ts c.triples (λ i l. start_triples i (let a = c.triples in omega arith)) ts-small (triples_of m) (omega arith))

  -- the lines of the listing are read to the end, and the counts agree
  pub read_all : lines_of m (bytes_of m rounds hs ts) ≡ ends 0 0 whole_state
  read_all =
      let (k, e) = leads_all.leads 1 [] in
      sym (short_text (size_of m) start_state (bytes_of m rounds hs ts) fits)
      ∙ ap (read_lines (size_of m) 1 start_state) (sym (append-nil (bytes_of m rounds hs ts)))
      ∙ e
      ∙ at_end (size_of m) k whole_state
      ∙ ap (λ n. ends n 0 whole_state) (agreed true (start_state.heads + H) H (start_state.triples + K) K refl (let a = start_none in omega arith) (let a = start_none in omega arith))

  -- read into any arrays that are long enough, it is accepted with its rounds, and every cell of the table is as it was written
  pub reads_back : (heads triples : List ℕ) → Fits m (length heads) (length triples)
      → Reads m (bytes_of m rounds hs ts) heads triples (filled (heads_of m) hs heads) (filled (triples_of m) ts triples) (Ok rounds)
  reads_back heads triples f =
      let c = cells_fit m v in
      accepted_reads m (bytes_of m rounds hs ts) heads triples f (sym read_all) refl
      (filled_like (heads_of m) hs whole_state.headcells heads (λ i l. sym (filled_below (heads_of m) hs start_state.headcells (let a = c.heads in omega (arith, start_long.0)) i l)))
      (filled_like (triples_of m) ts whole_state.triplecells triples (λ i l. sym (filled_below (triples_of m) ts start_state.triplecells (let a = c.triples in omega (arith, start_long.1)) i l)))
