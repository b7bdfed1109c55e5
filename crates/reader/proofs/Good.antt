-- What holds of the draft after every line that is taken: the record as far as it is read is in range, and says what the lines said. Each part has a record
-- of its own, with the law that a line of its kind keeps it. Assumes nothing.
use mathlib.Core.Bool.{Bool, true, false, ◌&&◌, ◌||◌, cond}
use mathlib.Core.List.{List, [], ◌∷◌, ◌++◌}
use mathlib.Core.Path.{◌≡◌, ap, sym, ◌∙◌, subst⁻¹}
use Prim.Native.Nat.{ℕ, ◌+◌, ◌*◌, ◌<◌, ◌≤◌}
use native.Mathlib.Numerals.{add-one}
use native.Mathlib.Omega.{arith}
use lib.Dec.{T, eqb, leb, ltb}
use lib.ListN.{length, get_or, set, length-set}
use borrow.Author.Count.{below_more}
use borrow.Author.Tests.{lt-ltb, le-leb}
use Rattle.product.specs.Lists.{up_to, each, any}
use Rattle.product.specs.Product.{Rule, exit, direct, call}
use Rattle.product.proofs.Lists.{over_suc}
use Rattle.model.specs.declared.Move.{Move}
use Rattle.model.specs.Model.{in_row, rule_by, rule_at, move_at}
use Rattle.model.specs.Valid.{symbols_in, rule_row_in, move_row_in}
use Rattle.draft.specs.Draft.{Draft}
use Rattle.draft.specs.Lines.{three_at, four_at}
use Rattle.reader.specs.Says.{Said}
use Rattle.reader.proofs.Rows.{three_below, four_below, three_0, three_1, three_2, four_old, four_3, length_three, length_four, truth_put, any_more, same_place, each_same}

pub record Sizes (said : List (ℕ × ℕ × ℕ)) (symbols states events : ℕ) : Type 0 where
  pub some_symbol : 1 ≤ symbols
  pub most_symbols : symbols ≤ 32
  pub some_state : 1 ≤ states
  pub most_states : states ≤ 8
  pub some_event : 1 ≤ events
  pub most_events : events ≤ 16
  pub same : said ≡ (symbols, states, events) ∷ []

-- no start yet, or one that is in range
pub record Started (said : List (ℕ × ℕ)) (symbols states started q g : ℕ) : Type 0 where
  pub none : started ≡ 0 → said ≡ []
  pub one : (started ≡ 0 → ⊥) → said ≡ (q, g) ∷ []
  pub state_in : (started ≡ 0 → ⊥) → q < states
  pub symbol_in : (started ≡ 0 → ⊥) → g < symbols

pub record Finals (said : List ℕ) (finals : List Bool) : Type 0 where
  pub room : length finals ≡ 8
  pub same : (q : ℕ) → get_or finals q false ≡ any (eqb q) said

pub final_line : {said : List ℕ} {finals : List Bool} → Finals said finals → (q : ℕ) → q < 8 → Finals (said ++ q ∷ []) (set finals q true)
final_line {said} {finals} h q l =
    record {
      room = length-set finals q true ∙ h.room;
      same = λ p. truth_put finals q p (let r = h.room in omega arith) ∙ ap (λ b. b || eqb p q) (h.same p) ∙ sym (any_more (eqb p) said q);
    }

abbrev pub shows : (g e : ℕ) → (ℕ × ℕ) → Bool
shows g e x = eqb g x.0 && eqb e x.1

pub record Events (said : List (ℕ × ℕ)) (cells : List Bool) : Type 0 where
  pub room : length cells ≡ 512
  pub same : (g e : ℕ) → e < 16 → get_or cells (g * 16 + e) false ≡ any (shows g e) said

pub event_line : {said : List (ℕ × ℕ)} {cells : List Bool} → Events said cells → (g e : ℕ) → g < 32 → e < 16 → Events (said ++ (g, e) ∷ []) (set cells (g * 16 + e) true)
event_line {said} {cells} h g e l k =
    record {
      room = length-set cells (g * 16 + e) true ∙ h.room;
      same = λ g' e' k'.
          truth_put cells (g * 16 + e) (g' * 16 + e') (let r = h.room in omega arith)
          ∙ ap (λ b. b || eqb (g' * 16 + e') (g * 16 + e)) (h.same g' e' k')
          ∙ ap (λ b. any (shows g' e') said || b) (same_place g' e' g e k' k)
          ∙ sym (any_more (shows g' e') said (g, e));
    }

-- elements by number, and one more
each_more : {B : Type 0} (n : ℕ) (f f' : ℕ → B) (x : B) {xs : List B} → ((r : ℕ) → r < n → f' r ≡ f r) → f' n ≡ x → each (up_to n) f ≡ xs
    → each (up_to (n + 1)) f' ≡ xs ++ x ∷ []
each_more n f f' x {xs} h p e =
    rw add-one
    (over_suc n (λ r. f' r ∷ []) ∙ ap (λ l. l ++ f' n ∷ []) (each_same n f f' h ∙ e) ∙ ap (λ y. xs ++ y ∷ []) p)

pub record Rules (said : List Rule) (symbols rules : ℕ) (rows : List ℕ) : Type 0 where
  pub few : rules ≤ 256
  pub room : length rows ≡ 1024
  pub all_in : (r : ℕ) → r < rules → T (rule_row_in symbols rows r)
  pub same : each (up_to rules) (rule_at rows) ≡ said

-- a row by its numbers
module _ (symbols : ℕ) (rows rows' : List ℕ) (r : ℕ) (h : (i : ℕ) → i < 4 → in_row 4 rows' r i ≡ in_row 4 rows r i) where
  same_rule : rule_at rows' r ≡ rule_at rows r
  same_rule =
      ap (λ k. rule_by k (in_row 4 rows' r 1) (in_row 4 rows' r 2) (in_row 4 rows' r 3)) (h 0 (omega arith))
      ∙ ap (λ g. rule_by (in_row 4 rows r 0) g (in_row 4 rows' r 2) (in_row 4 rows' r 3)) (h 1 (omega arith))
      ∙ ap (λ g. rule_by (in_row 4 rows r 0) (in_row 4 rows r 1) g (in_row 4 rows' r 3)) (h 2 (omega arith))
      ∙ ap (λ g. rule_by (in_row 4 rows r 0) (in_row 4 rows r 1) (in_row 4 rows r 2) g) (h 3 (omega arith))

  same_rule_in : T (rule_row_in symbols rows r) → T (rule_row_in symbols rows' r)
  same_rule_in t = subst⁻¹ T (ap (λ k. leb k 2 && symbols_in symbols (rule_at rows' r)) (h 0 (omega arith)) ∙ ap (λ ρ. leb (in_row 4 rows r 0) 2 && symbols_in symbols ρ) same_rule) t

symbols_in_lem : (symbols kind g g1 g2 : ℕ) → g < symbols → g1 < symbols → g2 < symbols → T (symbols_in symbols (rule_by kind g g1 g2))
symbols_in_lem symbols kind g g1 g2 l l1 l2 = go (eqb kind 0) (eqb kind 1)
  where
    go : (b c : Bool) → T (symbols_in symbols (cond b (exit g) (cond c (direct g g1) (call g g1 g2))))
    go true c = rw (lt-ltb g symbols l) tt
    go false true = rw (lt-ltb g symbols l, lt-ltb g1 symbols l1) tt
    go false false = rw (lt-ltb g symbols l, lt-ltb g1 symbols l1, lt-ltb g2 symbols l2) tt

module _ {said : List Rule} {symbols n : ℕ} {rows : List ℕ} (h : Rules said symbols n rows) (kind g g1 g2 : ℕ) (few : n < 256) where
  abbrev put : List ℕ
  put = four_at rows (n * 4) kind g g1 g2

  fits : n * 4 + 4 ≤ length rows
  fits = let r = h.room in omega arith

  old_row : (r : ℕ) → r < n → (i : ℕ) → i < 4 → in_row 4 put r i ≡ in_row 4 rows r i
  old_row r l i k = four_below rows (n * 4) kind g g1 g2 (r * 4 + i) (omega arith)

  new_kind : in_row 4 put n 0 ≡ kind
  new_kind = four_old rows (n * 4) kind g g1 g2 fits 0 (omega arith) ∙ three_0 rows (n * 4) kind g g1 (let f = fits in omega arith)

  new_rule : rule_at put n ≡ rule_by kind g g1 g2
  new_rule =
      let f : n * 4 + 3 ≤ length rows = (let f = fits in omega arith) in
      ap (λ k. rule_by k (in_row 4 put n 1) (in_row 4 put n 2) (in_row 4 put n 3)) new_kind
      ∙ ap (λ x. rule_by kind x (in_row 4 put n 2) (in_row 4 put n 3)) (four_old rows (n * 4) kind g g1 g2 fits 1 (omega arith) ∙ three_1 rows (n * 4) kind g g1 f)
      ∙ ap (λ x. rule_by kind g x (in_row 4 put n 3)) (four_old rows (n * 4) kind g g1 g2 fits 2 (omega arith) ∙ three_2 rows (n * 4) kind g g1 f)
      ∙ ap (λ x. rule_by kind g g1 x) (four_3 rows (n * 4) kind g g1 g2 fits)

  pub rule_line_lem : kind ≤ 2 → g < symbols → g1 < symbols → g2 < symbols → Rules (said ++ rule_by kind g g1 g2 ∷ []) symbols (n + 1) put
  rule_line_lem k l l1 l2 =
      record {
        few = omega arith;
        room = length_four rows (n * 4) kind g g1 g2 ∙ h.room;
        all_in = below_more (λ r. T (rule_row_in symbols put r)) n
            (λ r l. same_rule_in symbols rows put r (old_row r l) (h.all_in r l))
            (subst⁻¹ T (ap (λ k. leb k 2 && symbols_in symbols (rule_at put n)) new_kind ∙ ap (λ ρ. leb kind 2 && symbols_in symbols ρ) new_rule)
            (rw (le-leb kind 2 k) (symbols_in_lem symbols kind g g1 g2 l l1 l2)));
        same = each_more n (rule_at rows) (rule_at put) (rule_by kind g g1 g2) (λ r l. same_rule symbols rows put r (old_row r l)) new_rule h.same;
      }

pub record Moves (said : List Move) (states events moves : ℕ) (rows : List ℕ) : Type 0 where
  pub few : moves ≤ 128
  pub room : length rows ≡ 384
  pub all_in : (v : ℕ) → v < moves → T (move_row_in states events rows v)
  pub same : each (up_to moves) (move_at rows) ≡ said

-- a move in range
abbrev in_range : (states events : ℕ) → Move → Bool
in_range states events μ = ltb μ.source states && ltb μ.event events && ltb μ.target states

module _ {said : List Move} {states events n : ℕ} {rows : List ℕ} (h : Moves said states events n rows) (μ : Move) (few : n < 128) where
  abbrev put_move : List ℕ
  put_move = three_at rows (n * 3) μ.source μ.event μ.target

  old_move : (v : ℕ) → v < n → move_at put_move v ≡ move_at rows v
  old_move v l =
      ap (λ x. record { source = x; event = in_row 3 put_move v 1; target = in_row 3 put_move v 2 }) (old 0 (omega arith))
      ∙ ap (λ x. record { source = in_row 3 rows v 0; event = x; target = in_row 3 put_move v 2 }) (old 1 (omega arith))
      ∙ ap (λ x. record { source = in_row 3 rows v 0; event = in_row 3 rows v 1; target = x }) (old 2 (omega arith))
    where
      old : (i : ℕ) → i < 3 → in_row 3 put_move v i ≡ in_row 3 rows v i
      old i k = three_below rows (n * 3) μ.source μ.event μ.target (v * 3 + i) (omega arith)

  new_move : move_at put_move n ≡ μ
  new_move =
      let f : n * 3 + 3 ≤ length rows = (let r = h.room in omega arith) in
      ap (λ x. record { source = x; event = in_row 3 put_move n 1; target = in_row 3 put_move n 2 }) (three_0 rows (n * 3) μ.source μ.event μ.target f)
      ∙ ap (λ x. record { source = μ.source; event = x; target = in_row 3 put_move n 2 }) (three_1 rows (n * 3) μ.source μ.event μ.target f)
      ∙ ap (λ x. record { source = μ.source; event = μ.event; target = x }) (three_2 rows (n * 3) μ.source μ.event μ.target f)

  pub move_line : μ.source < states → μ.event < events → μ.target < states → Moves (said ++ μ ∷ []) states events (n + 1) put_move
  move_line l k l' =
      record {
        few = omega arith;
        room = length_three rows (n * 3) μ.source μ.event μ.target ∙ h.room;
        all_in = below_more (λ v. T (move_row_in states events put_move v)) n
            (λ v l. subst⁻¹ (λ ν. T (in_range states events ν)) (old_move v l) (h.all_in v l))
            (subst⁻¹ (λ ν. T (in_range states events ν)) new_move (rw (lt-ltb μ.source states l, lt-ltb μ.event events k, lt-ltb μ.target states l') tt));
        same = each_more n (move_at rows) (move_at put_move) μ old_move new_move h.same;
      }

-- the whole draft
pub record Good (s : Said) (d : Draft) : Type 0 where
  pub sizes : Sizes s.sizes d.model.symbols d.model.states d.model.events
  pub start : Started s.starts d.model.symbols d.model.states d.started d.model.startstate d.model.startsymbol
  pub finals : Finals s.finals d.model.finals
  pub events : Events s.events d.model.shows
  pub rules : Rules s.rules d.model.symbols d.model.rules d.model.rulerows
  pub moves : Moves s.moves d.model.states d.model.events d.model.moves d.model.moverows
