-- What a line writes into the bytes of a model is what it does to the record: the bytes stand for the draft after every line that is taken. Assumes nothing.
use mathlib.Core.Bool.{Bool, true}
use mathlib.Core.List.{List, [], ◌∷◌, ◌++◌}
use mathlib.Core.Path.{◌≡◌, refl, sym, ap, ◌∙◌}
use Prim.Native.Nat.{ℕ, zero, suc, ◌+◌, ◌*◌, ◌<◌, ◌≤◌}
use native.Mathlib.Decide.{dec_lt}
use native.Mathlib.Omega.{arith}
use lib.ListN.{length, set, length-set}
use lib.Seq.{set-append_left, set_out}
use borrow.Author.Tests.{lt-ltb, le-ltb}
use Rattle.numbers.specs.Number.{nth}
use Rattle.numbers.specs.declared.Numbers.{Numbers}
use Rattle.line.specs.declared.words.Line.{Line}
use Rattle.modelline.specs.declared.Word.{Word}
use Rattle.modelline.specs.declared.Word.TheVariants.{Size, Start, Final, Event, Exit, Direct, Call, Move, Unknown}
use Rattle.limits.specs.Limits.{refusal, tests, RuleFits, Fits}
use Rattle.model.specs.declared.Model.{Model}
use Rattle.lent.specs.Lending.{byte_of, bytes_of, laid, Sized}
use Rattle.lent.proofs.Packed.{length_bytes}
use Rattle.draft.specs.declared.Outline.{Outline}
use Rattle.std.specs.Prelude.{Ok, Err}
use Rattle.line.specs.declared.fault.Fault.{Fault}
use Rattle.line.specs.Fault.{number_of}
use Rattle.draft.specs.Draft.{Draft, bare}
use Rattle.draft.specs.Lines.{three_at, four_at, counts_of, outline_of, after, take_line}
use Rattle.draft.specs.Written.{truth_at, written, Notes, Stands}
use Rattle.draft.proofs.Stores.{gone_on}

-- a cell behind the first list of two
set_past : (xs ys : List ℕ) (i v : ℕ) → set (xs ++ ys) (length xs + i) v ≡ xs ++ set ys i v
set_past [] ys i v = let e : 0 + i ≡ i = omega arith in rw e
set_past (x ∷ xs) ys i v = let e : suc (length xs) + i ≡ suc (length xs + i) = omega arith in rw e (ap (λ r. x ∷ r) (set_past xs ys i v))

set_behind : (xs ys : List ℕ) (n i p v : ℕ) → length xs ≡ n → p ≡ n + i → set (xs ++ ys) p v ≡ xs ++ set ys i v
set_behind xs ys n i p v l e = rw (e, ← l) (set_past xs ys i v)

-- a truth as its byte
bytes_set : (bs : List Bool) (i : ℕ) → set (bytes_of bs) i 1 ≡ bytes_of (set bs i true)
unfolding bytes_of
bytes_set [] i = refl
bytes_set (b ∷ bs) zero = refl
bytes_set (b ∷ bs) (suc i) = ap (λ xs. byte_of b ∷ xs) (bytes_set bs i)

-- the parts as `laid` has them, and one cell of each part put
module _ (rs ms : List ℕ) (ss fs : List Bool) (last : List ℕ) where
  abbrev parts : List ℕ
  parts = rs ++ (ms ++ (bytes_of ss ++ (bytes_of fs ++ last)))

module _ (ss fs : List Bool) (last : List ℕ) where
  rule_cell : (rs ms : List ℕ) (i v : ℕ) → i < length rs → set (parts rs ms ss fs last) i v ≡ parts (set rs i v) ms ss fs last
  rule_cell rs ms i v l = set-append_left rs (ms ++ (bytes_of ss ++ (bytes_of fs ++ last))) i v l

  four_cells : (rs ms : List ℕ) (i a b c d : ℕ) → i + 4 ≤ length rs → four_at (parts rs ms ss fs last) i a b c d ≡ parts (four_at rs i a b c d) ms ss fs last
  four_cells rs ms i a b c d l =
      let rs₁ = set rs i a in
      let rs₂ = set rs₁ (i + 1) b in
      let rs₃ = set rs₂ (i + 2) c in
      let l₁ = length-set rs i a in
      let l₂ = length-set rs₁ (i + 1) b in
      let l₃ = length-set rs₂ (i + 2) c in
      ap (λ xs. set (set (set xs (i + 1) b) (i + 2) c) (i + 3) d) (rule_cell rs ms i a (omega arith))
      ∙ ap (λ xs. set (set xs (i + 2) c) (i + 3) d) (rule_cell rs₁ ms (i + 1) b (omega arith))
      ∙ ap (λ xs. set xs (i + 3) d) (rule_cell rs₂ ms (i + 2) c (omega arith))
      ∙ rule_cell rs₃ ms (i + 3) d (omega arith)

  module _ (rs : List ℕ) (wide : length rs ≡ 1024) where
    move_cell : (ms : List ℕ) (i p v : ℕ) → p ≡ 1024 + i → i < length ms → set (parts rs ms ss fs last) p v ≡ parts rs (set ms i v) ss fs last
    move_cell ms i p v e l =
        set_behind rs (ms ++ (bytes_of ss ++ (bytes_of fs ++ last))) 1024 i p v wide e
        ∙ ap (λ xs. rs ++ xs) (set-append_left ms (bytes_of ss ++ (bytes_of fs ++ last)) i v l)

    three_cells : (ms : List ℕ) (i a b c : ℕ) → i + 3 ≤ length ms → three_at (parts rs ms ss fs last) (1024 + i) a b c ≡ parts rs (three_at ms i a b c) ss fs last
    three_cells ms i a b c l =
        let ms₁ = set ms i a in
        let ms₂ = set ms₁ (i + 1) b in
        let l₁ = length-set ms i a in
        let l₂ = length-set ms₁ (i + 1) b in
        ap (λ xs. set (set xs (1024 + i + 1) b) (1024 + i + 2) c) (move_cell ms i (1024 + i) a refl (omega arith))
        ∙ ap (λ xs. set xs (1024 + i + 2) c) (move_cell ms₁ (i + 1) (1024 + i + 1) b (omega arith) (omega arith))
        ∙ move_cell ms₂ (i + 2) (1024 + i + 2) c (omega arith) (omega arith)

module _ (rs ms : List ℕ) (last : List ℕ) (wide : length rs ≡ 1024) (wide' : length ms ≡ 384) where
  behind_moves : (xs : List ℕ) (i p : ℕ) → p ≡ 1408 + i → set (rs ++ (ms ++ xs)) p 1 ≡ rs ++ (ms ++ set xs i 1)
  behind_moves xs i p e =
      set_behind rs (ms ++ xs) 1024 (384 + i) p 1 wide (omega arith) ∙ ap (λ ys. rs ++ ys) (set_behind ms xs 384 i (384 + i) 1 wide' refl)

  shown_cell : (ss fs : List Bool) (i : ℕ) → length ss ≡ 512 → truth_at 1408 512 i (parts rs ms ss fs last) ≡ parts rs ms (set ss i true) fs last
  shown_cell ss fs i l = go (dec_lt i 512)
    where
      go : Dec (i < 512) → truth_at 1408 512 i (parts rs ms ss fs last) ≡ parts rs ms (set ss i true) fs last
      go (yes k) =
          rw (lt-ltb i 512 k)
          (behind_moves (bytes_of ss ++ (bytes_of fs ++ last)) i (1408 + i) refl
          ∙ ap (λ xs. rs ++ (ms ++ xs)) (set-append_left (bytes_of ss) (bytes_of fs ++ last) i 1 (let e = length_bytes ss in omega arith) ∙ ap (λ xs. xs ++ (bytes_of fs ++ last)) (bytes_set ss i)))
      go (no k) = rw (le-ltb i 512 (omega arith), set_out ss i true (omega arith))

  final_cell : (ss fs : List Bool) (i : ℕ) → length ss ≡ 512 → length fs ≡ 8 → truth_at 1920 8 i (parts rs ms ss fs last) ≡ parts rs ms ss (set fs i true) last
  final_cell ss fs i l l' = go (dec_lt i 8)
    where
      go : Dec (i < 8) → truth_at 1920 8 i (parts rs ms ss fs last) ≡ parts rs ms ss (set fs i true) last
      go (yes k) =
          rw (lt-ltb i 8 k)
          (behind_moves (bytes_of ss ++ (bytes_of fs ++ last)) (512 + i) (1920 + i) (omega arith)
          ∙ ap (λ xs. rs ++ (ms ++ xs)) (set_behind (bytes_of ss) (bytes_of fs ++ last) 512 i (512 + i) 1 (length_bytes ss ∙ l) refl
          ∙ ap (λ xs. bytes_of ss ++ xs) (set-append_left (bytes_of fs) last i 1 (let e = length_bytes fs in omega arith) ∙ ap (λ xs. xs ++ last) (bytes_set fs i))))
      go (no k) = rw (le-ltb i 8 (omega arith), set_out fs i true (omega arith))

-- a line that is taken does to the bytes what it does to the record
module _ (d : Draft) (z : Sized d.model) (last : List ℕ) where
  abbrev m : Model
  m = d.model

  rule_written : (kind : ℕ) (n : Numbers) → RuleFits (counts_of d) n
      → four_at (parts m.rulerows m.moverows m.shows m.finals last) (m.rules * 4) kind (nth n 0) (nth n 1) (nth n 2)
      ≡ parts (four_at m.rulerows (m.rules * 4) kind (nth n 0) (nth n 1) (nth n 2)) m.moverows m.shows m.finals last
  rule_written kind n (few, _, _, _) = let l = z.rules in four_cells m.shows m.finals last m.rulerows m.moverows (m.rules * 4) kind (nth n 0) (nth n 1) (nth n 2) (omega arith)

  pub written_laid : (w : Word) (n : Numbers) → Fits (counts_of d) w n → written (counts_of d) w n (laid d.model last) ≡ laid (after d w n).model last
  unfolding laid
  written_laid Size n f = refl
  written_laid Start n f = refl
  written_laid Final n f = final_cell m.rulerows m.moverows last z.rules z.moves m.shows m.finals (nth n 0) z.shows z.finals
  written_laid Event n f = shown_cell m.rulerows m.moverows last z.rules z.moves m.shows m.finals (nth n 0 * 16 + nth n 1) z.shows
  written_laid Exit n f = rule_written 0 n f
  written_laid Direct n f = rule_written 1 n f
  written_laid Call n f = rule_written 2 n f
  written_laid Move n (few, _, _, _) =
      let l = z.moves in
      three_cells m.shows m.finals last m.rulerows z.rules m.moverows (m.moves * 3) (nth n 0) (nth n 1) (nth n 2) (omega arith)
  written_laid Unknown n f = refl

  four_wide : (i a b c e : ℕ) → length (four_at m.rulerows i a b c e) ≡ 1024
  four_wide i a b c e = simp length-set z.rules

  -- and leaves its arrays as long as they were
  pub sized_after : (w : Word) (n : Numbers) → Sized (after d w n).model
  sized_after Size n = record { rules = z.rules; moves = z.moves; shows = z.shows; finals = z.finals }
  sized_after Start n = record { rules = z.rules; moves = z.moves; shows = z.shows; finals = z.finals }
  sized_after Final n = record { rules = z.rules; moves = z.moves; shows = z.shows; finals = length-set m.finals (nth n 0) true ∙ z.finals }
  sized_after Event n =
      record { rules = z.rules; moves = z.moves; shows = length-set m.shows (nth n 0 * 16 + nth n 1) true ∙ z.shows; finals = z.finals }
  sized_after Exit n = record { rules = four_wide (m.rules * 4) 0 (nth n 0) (nth n 1) (nth n 2); moves = z.moves; shows = z.shows; finals = z.finals }
  sized_after Direct n = record { rules = four_wide (m.rules * 4) 1 (nth n 0) (nth n 1) (nth n 2); moves = z.moves; shows = z.shows; finals = z.finals }
  sized_after Call n = record { rules = four_wide (m.rules * 4) 2 (nth n 0) (nth n 1) (nth n 2); moves = z.moves; shows = z.shows; finals = z.finals }
  sized_after Move n = record { rules = z.rules; moves = simp length-set z.moves; shows = z.shows; finals = z.finals }
  sized_after Unknown n = z

-- the outline after a line is known from the outline before it
outline_same : (d : Draft) (w : Word) (n : Numbers) → outline_of (after (bare (outline_of d)) w n) ≡ outline_of (after d w n)
outline_same d Size n = refl
outline_same d Start n = refl
outline_same d Final n = refl
outline_same d Event n = refl
outline_same d Exit n = refl
outline_same d Direct n = refl
outline_same d Call n = refl
outline_same d Move n = refl
outline_same d Unknown n = refl

module _ {last cells : List ℕ} {o : Outline} {d : Draft} (s : Stands last o cells d) where
  refusal_is : (l : Line Word) → refusal (tests o.counts l.word l.numbers) ≡ (take_line d l).refusal
  unfolding take_line
  refusal_is l = ap (λ (o : Outline). refusal (tests o.counts l.word l.numbers)) s.outline

  module _ (l : Line Word) {cells' : List ℕ} where
    -- a line that is refused
    pub same_refusal : (fault : Fault) → Notes o l cells (Err fault) cells' → number_of fault ≡ (take_line d l).refusal
    same_refusal fault (n, _) = sym n ∙ refusal_is l

    -- and one that is taken
    pub no_refusal : {next : Outline} → Notes o l cells (Ok next) cells' → 0 ≡ (take_line d l).refusal
    no_refusal (n, _, _) = sym n ∙ refusal_is l

    pub stands_next : {next : Outline} → Notes o l cells (Ok next) cells' → Stands last next cells' (take_line d l).draft
    stands_next x =
        let (f, t) = gone_on d l (sym (no_refusal x)) in
        rw t
        (record {
          outline = x.1 ∙ ap (λ o. outline_of (after (bare o) l.word l.numbers)) s.outline ∙ outline_same d l.word l.numbers;
          bytes = x.2 ∙ rw (s.bytes, s.outline) (written_laid d s.sized last l.word l.numbers f);
          sized = sized_after d s.sized last l.word l.numbers;
        })
