-- What a valid model record has: its counts within their sizes, and a product in range. Assumes nothing.
use mathlib.Core.Bool.{Bool, true, ◌&&◌}
use mathlib.Core.List.{List, ◌∷◌}
use mathlib.Core.Path.{◌≡◌, subst}
use Prim.Native.Nat.{ℕ, ◌<◌, ◌≤◌}
use lib.Dec.{T, leb, ltb, leb→le, ltb→lt}
use Rattle.product.specs.Lists.{up_to, all, ◌∈◌}
use Rattle.product.specs.Product.{symbol, pushed, InRange}
use Rattle.product.proofs.Lists.{and_left, and_right, T_true, in_up_to, All-of, All-at}
use Rattle.model.specs.declared.Model.{Model}
use Rattle.model.specs.Model.{in_row, rule, move, product_of}
use Rattle.model.specs.Valid.{within, sizes_in, start_in, symbols_in, rule_in, move_in, valid}
use Rattle.model.proofs.Steps.{next_is}

-- a test that every number below n passes
pub all_below : (p : ℕ → Bool) (n : ℕ) → T (all p (up_to n)) → (i : ℕ) → i < n → T (p i)
all_below p n t i l = All-at (λ i. T (p i)) (up_to n) (All-of (λ i. T (p i)) p (λ _ x. x) (up_to n) t) i (in_up_to n i l)

is_within : (low high n : ℕ) → T (within low high n) → (low ≤ n) × (n ≤ high)
is_within low high n t = (leb→le low n (and_left (leb low n) (leb n high) t), leb→le n high (and_right (leb low n) (leb n high) t))

-- the rows of rules and moves in use are there
pub few_rows : (g q e r v : ℕ) → sizes_in g q e r v ≡ true → (r ≤ 256) × (v ≤ 128)
few_rows g q e r v h =
    let t : T (sizes_in g q e r v) = rw h tt in
    let A : Bool = within 1 32 g && within 1 8 q && within 1 16 e in (
      leb→le r 256 (and_right A (leb r 256) (and_left (A && leb r 256) (leb v 128) t)),
      leb→le v 128 (and_right (A && leb r 256) (leb v 128) t),
    )

pub record Sizes (m : Model) : Type 0 where
  pub some_symbol : 1 ≤ m.symbols
  pub symbols : m.symbols ≤ 32
  pub some_state : 1 ≤ m.states
  pub states : m.states ≤ 8
  pub some_event : 1 ≤ m.events
  pub events : m.events ≤ 16
  pub rules : m.rules ≤ 256
  pub moves : m.moves ≤ 128

module _ (m : Model) (t : T (valid m)) where
  abbrev rules_in : Bool
  rules_in = all (rule_in m) (up_to m.rules)

  abbrev moves_in : Bool
  moves_in = all (move_in m) (up_to m.moves)

  abbrev sized : Bool
  sized = sizes_in m.symbols m.states m.events m.rules m.moves

  sized_started : T (sized && start_in m && rules_in)
  unfolding valid
  sized_started = and_left (sized && start_in m && rules_in) moves_in t

  started : T (start_in m)
  started = and_right sized (start_in m) (and_left (sized && start_in m) rules_in sized_started)

  pub valid_rule : (r : ℕ) → r < m.rules → T (rule_in m r)
  valid_rule = all_below (rule_in m) m.rules (and_right (sized && start_in m) rules_in sized_started)

  pub valid_move : (v : ℕ) → v < m.moves → T (move_in m v)
  unfolding valid
  valid_move = all_below (move_in m) m.moves (and_right (sized && start_in m && rules_in) moves_in t)

  pub valid_sizes : Sizes m
  valid_sizes =
      let G : Bool = within 1 32 m.symbols in
      let Q : Bool = within 1 8 m.states in
      let E : Bool = within 1 16 m.events in
      let R : Bool = leb m.rules 256 in
      let s : T sized = and_left sized (start_in m) (and_left (sized && start_in m) rules_in sized_started) in
      let e : T (G && Q && E) = and_left (G && Q && E) R (and_left (G && Q && E && R) (leb m.moves 128) s) in
      let q : T (G && Q) = and_left (G && Q) E e in
      let (g1, g2) = is_within 1 32 m.symbols (and_left G Q q) in
      let (q1, q2) = is_within 1 8 m.states (and_right G Q q) in
      let (e1, e2) = is_within 1 16 m.events (and_right (G && Q) E e) in
      let (r, v) = few_rows m.symbols m.states m.events m.rules m.moves (T_true sized s) in
      record {
        some_symbol = g1;
        symbols = g2;
        some_state = q1;
        states = q2;
        some_event = e1;
        events = e2;
        rules = r;
        moves = v;
      }

  pub product_in_lem : InRange (product_of m)
  product_in_lem = record {
    state_in = in_up_to m.states m.startstate (ltb→lt m.startstate m.states (and_left (ltb m.startstate m.states) (ltb m.startsymbol m.symbols) started));
    symbol_in = ltb→lt m.startsymbol m.symbols (and_right (ltb m.startstate m.states) (ltb m.startsymbol m.symbols) started);
    rules_in = λ r l.
        let k : Bool = leb (in_row 4 m.rulerows r 0) 2 in
        let gs : List ℕ = symbol (rule m r) ∷ pushed (rule m r) in
        All-of (λ g. g < m.symbols) (λ g. ltb g m.symbols) (λ g x. ltb→lt g m.symbols x) gs (and_right k (symbols_in m.symbols (rule m r)) (valid_rule r l));
    steps_in = λ s q q' e.
        let (h, i) = next_is m s q q' e in
        let v : ℕ = s.by_move in
        let a : Bool = ltb (move m v).source m.states in
        let b : Bool = ltb (move m v).event m.events in
        let c : Bool = ltb (move m v).target m.states in
        let u : T (a && b && c) = valid_move v h.move_there in (
          h.rule_there,
          h.move_there,
          subst (λ q. q ∈ up_to m.states) h.here (in_up_to m.states (move m v).source (ltb→lt (move m v).source m.states (and_left a b (and_left (a && b) c u)))),
          subst (λ q. q ∈ up_to m.states) i (in_up_to m.states (move m v).target (ltb→lt (move m v).target m.states (and_right (a && b) c u))),
        );
  }
