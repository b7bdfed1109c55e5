-- Each contract of the other calls allows one outcome: two things equal to a third are equal. Assumes nothing.
use mathlib.Core.Bool.{cond}
use mathlib.Core.List.{List}
use mathlib.Core.Path.{◌≡◌, refl, sym, ap, ap₂, ◌∙◌}
use Prim.Native.Nat.{ℕ}
use native.Mathlib.Omega.{arith}
use lib.Dec.{eqb}
use Rattle.std.specs.Prelude.{None, Some, Result, Ok, Err}
use Rattle.std.specs.Result.{is_ok}
use Rattle.text.specs.Put.{Put}
use Rattle.line.proofs.Faults.{number_within, fault_by, same_fault, same_check}
use Rattle.ranking.specs.Rank.{Ranked}
use Rattle.line.specs.declared.fault.Fault.TheVariants.{Malformed, Misplaced, OutOfRange, TooMany}
use Rattle.line.specs.declared.fault.TextError.{TextError}
use Rattle.line.specs.declared.fault.TextError.TheVariants.{TooLong, Line}
use Rattle.line.specs.declared.words.Line as words
use Rattle.modelline.specs.declared.Word.{Word}
use Rattle.draft.specs.declared.Outline.{Outline}
use Rattle.draft.specs.Written.{Notes}
use Rattle.bits.specs.declared.Ones.{Ones}
use Rattle.bits.specs.Ones.{TakesLowest}
use Rattle.steps.specs.declared.Kind.{Kind}
use Rattle.steps.specs.Rows.{RowAt}
use Rattle.rows.specs.declared.Tally.{Tally}
use Rattle.rows.specs.State.{Ended, ended}
use Rattle.refusal.specs.Refusal as refusal
use Rattle.refusal.specs.Refusal.{Seeing}
use Rattle.claims.specs.OneAnswer.{One, Both, OneAnswer}

equal : {A : Type 0} (x : A) → One (λ r. r ≡ x)
equal x r r' e e' = e ∙ sym e'

-- an outcome that can be taken out again of the whole that is equal to a third
parted : {A B : Type 0} {whole : A → B} (part : B → A) → ((o : A) → part (whole o) ≡ o) → (x : B) → One (λ o. whole o ≡ x)
parted part back x o o' e e' = sym (back o) ∙ ap part (e ∙ sym e') ∙ back o'

-- how the reading of a listing ended
abbrev Reading : Type 0
Reading = Result (Unit {0}) TextError × Tally × List ℕ × List ℕ

abbrev reading_of : Ended → Reading
reading_of e =
    let s = e.state in
    let t : Tally = record { begun = s.begun; rounds = s.rounds; headcount = s.headcount; triplecount = s.triplecount; heads = s.heads; triples = s.triples } in
    (cond (eqb e.refusal 0) (Ok tt) (cond (eqb e.refusal 1) (Err TooLong) (Err (Line (fault_by e.refusal) e.line))), t, s.headcells, s.triplecells)

reading_back : (x : Reading) → reading_of (ended x.0 x.1 x.2 x.3) ≡ x
reading_back (Ok u, t, hs, ts) = refl
reading_back (Err TooLong, t, hs, ts) = refl
reading_back (Err (Line Malformed line), t, hs, ts) = refl
reading_back (Err (Line Misplaced line), t, hs, ts) = refl
reading_back (Err (Line OutOfRange line), t, hs, ts) = refl
reading_back (Err (Line TooMany line), t, hs, ts) = refl

-- a line noted
noted : (o : Outline) (l : words.Line Word) (cells : List ℕ) → Both (λ r after. Notes o l cells r after)
noted o l cells (Ok next) (Ok next') after after' (_, n, c) (_, n', c') = (ap (λ o. Ok o) (n ∙ sym n'), c ∙ sym c')
noted o l cells (Ok next) (Err g) after after' (a, _, _) (b, _) = let h = (number_within g).0 in absurd (omega arith)
noted o l cells (Err f) (Ok next) after after' (a, _) (b, _, _) = let h = (number_within f).0 in absurd (omega arith)
noted o l cells (Err f) (Err g) after after' (a, c) (b, c') = (ap (λ f. Err f) (same_fault (sym a ∙ b)), c ∙ sym c')

-- bytes put into lent memory
put : (out : List ℕ) (at : ℕ) (s : List ℕ) → Both (λ r after. Put out after at r s)
put out at s r r' after after' a b = (a.place ∙ sym b.place, a.cells ∙ sym b.cells)

-- a fact's cell
ranked : (before : List ℕ) (fault : ℕ) (put : List ℕ) → Both (λ r after. Ranked before after fault put r)
ranked before fault put r r' after after' a b = (same_check r r' (a.answers ∙ sym b.answers), a.leaves ∙ sym b.leaves)

-- a text read, and its refusal put
same_result : (r r' : Result (Unit {0}) ℕ) → is_ok r ≡ is_ok r' → refusal.end_of r ≡ refusal.end_of r' → r ≡ r'
same_result (Ok x) (Ok y) e n = refl
same_result (Ok x) (Err k) e n = let z : ◌≡◌ {A = ℕ} 0 1 = cc in absurd (omega arith)
same_result (Err k) (Ok x) e n = let z : ◌≡◌ {A = ℕ} 0 1 = cc in absurd (omega arith)
same_result (Err k) (Err k') e n = ap (λ k. Err k) n

seeing : (text out : List ℕ) → Both (λ r (x : List ℕ × List ℕ). Seeing text out x.0 r x.1)
seeing text out r r' x x' a b = (
  same_result r r' (a.accepts ∙ sym b.accepts) (a.puts.place ∙ sym b.puts.place),
  ap₂ (λ (after cells : List ℕ). (after, cells)) (a.puts.cells ∙ sym b.puts.cells) (a.reads ∙ sym b.reads),
)

-- the lowest bit taken, and the others
taken : (s : Ones) → Both (λ r left. TakesLowest s r left)
taken s None None t t' (_, a) (_, b) = (refl, ap (λ (n : ℕ). record { 0 = n }) (a ∙ sym b))
taken s None (Some i) t t' (z, _) b = let n = b.some_left in absurd (omega arith)
taken s (Some i) None t t' a (z, _) = let n = a.some_left in absurd (omega arith)
taken s (Some i) (Some j) t t' a b = (ap (λ i. Some i) (a.place ∙ sym b.place), ap (λ (n : ℕ). record { 0 = n }) (a.others ∙ sym b.others))

-- a rule's numbers
row_one : {lent : List ℕ} {r : ℕ} → One (λ row. RowAt lent r row)
row_one row row' a b =
    let k : row.kind ≡ row'.kind = a.kind_is ∙ sym b.kind_is in
    let y : row.byte ≡ row'.byte = a.byte_is ∙ sym b.byte_is in
    let c : row.class ≡ row'.class = a.class_is ∙ sym b.class_is in
    let o : row.over ≡ row'.over = a.over_is ∙ sym b.over_is in
    let u : row.under ≡ row'.under = a.under_is ∙ sym b.under_is in
    ap (λ (k : Kind). record { kind = k; byte = row.byte; class = row.class; over = row.over; under = row.under }) k
    ∙ ap₂ (λ (y c : ℕ). record { kind = row'.kind; byte = y; class = c; over = row.over; under = row.under }) y c
    ∙ ap₂ (λ (o u : ℕ). record { kind = row'.kind; byte = row'.byte; class = row'.class; over = o; under = u }) o u

pub each_answer : OneAnswer
each_answer = record {
  find = λ s c. equal _;
  same = λ a b. equal _;
  read_fields = λ s. equal _;
  write_number = λ n. equal _;
  place_of_lem = λ z f. equal _;
  read = λ cells p. equal _;
  put_rank = λ cells p n. equal _;
  rank_at = λ t f. equal _;
  has = λ t f. equal _;
  clear = λ cells n. equal _;
  head_count_lem = λ z. equal _;
  triple_count_lem = λ z. equal _;
  culprit = λ lent t s a. equal _;
  is_clean = λ lent t s a. equal _;
  blank = equal _;
  shows = λ lent g e. equal _;
  is_valid = λ lent. equal _;
  shape = λ lent. equal _;
  rule_at = λ lent r. equal _;
  move_at = λ lent v μ μ' e e'. e.0 ∙ sym e'.0;
  is_final = λ lent q. equal _;
  next_state = λ lent r v q n n' e e'. e.0 ∙ sym e'.0;
  product = λ a b. equal _;
  composed = λ a b. equal _;
  rule_symbol = λ ρ. equal _;
  through = λ v b. equal _;
  next_one = λ s. taken s;
  kind_from = λ n. equal _;
  class_steps_lem = λ lent. equal _;
  class_of_lem = λ lent r c c' e e'. e.0 ∙ sym e'.0;
  symbol_of_lem = λ c g g' e e'. e.0 ∙ sym e'.0;
  row_at = λ lent r. row_one;
  states_after_lem = λ lent tg r from. equal _;
  spells = λ s w. equal _;
  read_from = λ s b. equal _;
  words = λ words r r' e e'. e ∙ sym e';
  read_line = λ words other s. equal _;
  model_line = λ s. equal _;
  listing_line = λ s. equal _;
  fault_number = λ f. equal _;
  error_number = λ e. equal _;
  error_line = λ e. equal _;
  check_line = λ k l r r' e e'. same_check r r' (e ∙ sym e');
  take_line = λ o l cells. noted o l cells;
  size_of_lem = λ lent. equal _;
  measure = λ lent heads triples. equal _;
  rank_head = λ z begun cells n. ranked cells _ _;
  rank_triple = λ z begun cells n. ranked cells _ _;
  read_text_lem = λ z heads triples text. parted reading_of reading_back _;
  listing_at = λ text. equal _;
  listing_of_lem = λ text. equal _;
  model_part_lem = λ text. equal _;
  place = λ n at. equal _;
  put = λ out at b. put out at _;
  put_all = λ out at s. put out at _;
  put_field = λ out at n. put out at _;
  put_fields = λ out at numbers. put out at _;
  put_line = λ out at word numbers. put out at _;
  put_named = λ out at word numbers last. put out at _;
  next_kept_lem = λ t q ρ n. equal _;
  rule_closed_lem = λ triples heads steps ρ. equal _;
  explain = λ lent t n f. equal _;
  decide_error = λ unfit. equal _;
  trace_error = λ undecided. equal _;
  check_error = λ unfit. equal _;
  listing_unfit = λ unfit. equal _;
  listing_text = λ wrong. equal _;
  front = λ out k. equal _;
  put_violation = λ m whole rounds count out steps. put out 0 _;
  read_or_refuse = λ text out. seeing text out;
  put_refused = λ out number line. put out 0 _;
  check_text = λ out text. put out 0 _;
  recheck_text = λ out text. put out 0 _;
}
