-- The public calls that OneOutcome does not name, but `input::read_full` and `program::answer`, whose answers are the input's and the call's: any two
-- outcomes that a contract allows coincide. An entry a call, in its contract's own words. Of `line::Words::words` the contract fixes what its words spell, and
-- that coincides. `next` of `bits::Ones` has an entry too, and so has each `From` of `steps::Kind` and of the errors.
-- Assumes nothing.
use Rattle.std.specs.Prelude.{Option, Bool, List, [], ◌∷◌, ◌≡◌, ℕ, ◌<◌, ◌≤◌, ltb, length, map, take, replicate, Result}
use Rattle.std.specs.Borrow.{Bor}
use Rattle.product.specs.Lists.{over}
use Rattle.product.specs.Product.{symbol}
use Rattle.text.specs.Split.{first, same_bytes}
use Rattle.numbers.specs.declared.Numbers.{Numbers}
use Rattle.numbers.specs.Field.{fields_of}
use Rattle.numbers.specs.Digits.{digits_of}
use Rattle.table.specs.declared.Size.{Size}
use Rattle.table.specs.declared.Fact.{Fact}
use Rattle.table.specs.declared.Table as looked
use Rattle.table.specs.Cells.{head_count, triple_count, cleared}
use Rattle.table.specs.Places.{fact_of, place_of, read_at, put_at}
use Rattle.table.specs.Looked.{held_in, ranks_in}
use Rattle.culprit.specs.Culprit.{Goal, goal_as, culprit_in, clean_in}
use Rattle.model.specs.declared.Model.{Model}
use Rattle.model.specs.declared.Rule.{Rule}
use Rattle.model.specs.Answers.{rule_as, next_as, meant, landed}
use Rattle.model.specs.Model as model
use Rattle.model.specs.Model.{move}
use Rattle.model.specs.Valid.{valid}
use Rattle.lent.specs.Lending.{shape_in, model_in, product_in, next_by, InByte}
use Rattle.bits.specs.Matrix.{multiplied, image}
use Rattle.bits.specs.declared.Ones.{Ones}
use Rattle.bits.specs.Ones.{TakesLowest}
use Rattle.steps.specs.Rows.{RowAt, kind_of}
use Rattle.steps.specs.Steps.{class_of, symbol_of, class_steps, states_after}
use Rattle.line.specs.Line as line
use Rattle.line.specs.declared.fault.Fault.{Fault}
use Rattle.line.specs.declared.fault.TextError.{TextError}
use Rattle.line.specs.Fault.{number_of, number_in, text_number, text_line}
use Rattle.line.specs.Words.{spelled, line_at}
use Rattle.line.specs.declared.words.Line.{Line}
use Rattle.modelline.specs.declared.Word.{Word}
use Rattle.modelline.specs.Line as modelline
use Rattle.listingline.specs.Line as listingline
use Rattle.limits.specs.declared.Counts as limits
use Rattle.limits.specs.Limits.{refusal, tests}
use Rattle.draft.specs.declared.Outline.{Outline}
use Rattle.draft.specs.Written.{Notes}
use Rattle.fitting.specs.declared.Unfit.{Unfit}
use Rattle.fitting.specs.Fits.{size_of, fit_of}
use Rattle.decide.specs.declared.DecideError.{DecideError}
use Rattle.decide.specs.declared.DecideError.TheVariants as decide
use Rattle.trace.specs.declared.TraceError.TheVariants as trace
use Rattle.recheck.specs.declared.CheckError.TheVariants as recheck
use Rattle.listing.specs.declared.ListingError.TheVariants as listing
use Rattle.ranking.specs.Rank.{head_fault, head_put, triple_fault, triple_put, Ranked}
use Rattle.rows.specs.declared.Tally.{Tally}
use Rattle.rows.specs.State.{before, ended}
use Rattle.rows.specs.Lines.{read_text}
use Rattle.splitter.specs.Part.{listing_of, model_part}
use Rattle.splitter.specs.Part as part
use Rattle.print.specs.Bytes.{field_bytes, line_bytes, named_bytes}
use Rattle.text.specs.Put.{place_in, Put}
use Rattle.kept.specs.Kept.{next_kept}
use Rattle.closed.specs.Closed.{rule_closed}
use Rattle.explain.specs.declared.Counts.{Counts}
use Rattle.explain.specs.Answers.{search_in, found_as, explained}
use Rattle.violation.specs.Bytes.{shown, violation_bytes}
use Rattle.refusal.specs.Refusal.{refused_bytes, Seeing}
use Rattle.report.specs.Output.{check_output}
use Rattle.rereport.specs.Output.{recheck_output}

-- one outcome: an answer, what is left in lent memory, or an answer with what is left
abbrev pub One : {A : Type 0} → (A → Type 0) → Type 0
One {A} allows = (r r' : A) → allows r → allows r' → r ≡ r'

-- both: an answer and lent memory, or two pieces of lent memory
abbrev pub Both : {A B : Type 0} → (A → B → Type 0) → Type 0
Both {A} {B} allow = (r r' : A) (x x' : B) → allow r x → allow r' x' → (r ≡ r') × (x ≡ x')

pub record OneAnswer : Type 1 where
  -- text
  pub find : (s : List ℕ) (c : ℕ) → One (λ r. r ≡ length (first c s))
  pub same : (a b : List ℕ) → One (λ r. r ≡ same_bytes a b)
  pub read_fields : (s : List ℕ) → One (λ r. r ≡ fields_of s)
  pub write_number : (n : ℕ) → One (λ r. r ≡ digits_of n)
  -- table
  pub place_of_lem : (z : Size) (f : Fact) → One (λ r. r ≡ place_of z.symbols z.states (fact_of f))
  pub read : (cells : List ℕ) (p : Option ℕ) → One (λ r. r ≡ read_at cells p)
  pub put_rank : (cells : List ℕ) (p : Option ℕ) (n : ℕ) → One (λ after. after ≡ put_at cells p n)
  pub rank_at : (t : looked.Table) (f : Fact) → One (λ r. r ≡ ranks_in t (fact_of f))
  pub has : (t : looked.Table) (f : Fact) → One (λ b. b ≡ held_in t (fact_of f))
  pub clear : (cells : List ℕ) (n : ℕ) → One (λ after. after ≡ cleared n cells)
  pub head_count_lem : (z : Size) → One (λ n. n ≡ head_count z.symbols z.states)
  pub triple_count_lem : (z : Size) → One (λ n. n ≡ triple_count z.symbols z.states)
  -- culprit
  pub culprit : (lent : List ℕ) (t : looked.Table) (s a : ℕ) → One (λ f. f ≡ goal_as (culprit_in (product_in lent).final t.size.symbols t.size.states t.heads.now t.triples.now s a))
  pub is_clean : (lent : List ℕ) (t : looked.Table) (s a : ℕ) → One (λ b. b ≡ clean_in (product_in lent).final t.size.symbols t.size.states t.heads.now t.triples.now s a)
  -- lent
  pub blank : One (λ cells. cells ≡ replicate {A = ℕ} 1936 0)
  pub shows : (lent : List ℕ) (g e : ℕ) → One (λ b. b ≡ model.shown (model_in lent) g e)
  pub is_valid : (lent : List ℕ) → One (λ b. b ≡ valid (model_in lent))
  pub shape : (lent : List ℕ) → One (λ s. s ≡ shape_in lent)
  pub rule_at : (lent : List ℕ) (r : ℕ) → One (λ ρ. ρ ≡ rule_as ((product_in lent).rule r))
  pub move_at : (lent : List ℕ) (v : ℕ) → One (λ μ. (μ ≡ move (model_in lent) v) × (μ.target ≤ 255))
  pub is_final : (lent : List ℕ) (q : ℕ) → One (λ b. b ≡ (product_in lent).final q)
  pub next_state : (lent : List ℕ) (r v q : ℕ) → One (λ n. (n ≡ next_as (next_by (product_in lent) r v q)) × InByte n)
  -- bits
  pub product : (a b : ℕ) → One (λ r. r ≡ multiplied a b)
  pub composed : (a b : ℕ) → One (λ r. r ≡ multiplied a b)
  pub rule_symbol : (ρ : Rule) → One (λ g. g ≡ symbol (meant ρ))
  pub through : (v b : ℕ) → One (λ r. r ≡ image v b)
  pub next_one : (s : Ones) → Both (λ r left. TakesLowest s r left)
  -- steps
  pub kind_from : (n : ℕ) → One (λ kind. kind ≡ kind_of n)
  pub class_steps_lem : (lent : List ℕ) → One (λ r. r ≡ class_steps (model_in lent))
  pub class_of_lem : (lent : List ℕ) (r : ℕ) → One (λ c. (c ≡ class_of (model_in lent) r) × (c < 256))
  pub symbol_of_lem : (c : ℕ) → One (λ g. (g ≡ symbol_of c) × (g < 32))
  pub row_at : (lent : List ℕ) (r : ℕ) → One (λ row. RowAt lent r row)
  pub states_after_lem : (lent tg : List ℕ) (r from : ℕ) → One (λ x. x ≡ states_after (model_in lent) tg r from)
  -- line, modelline and listingline
  pub spells : (s w : List ℕ) → One (λ r. r ≡ line.spells s w)
  pub read_from : (s : List ℕ) (b : ℕ) → One (λ r. r ≡ line.from s b)
  pub words : {W : Type 0} (words : List ((List ℕ) × W)) (r r' : List ((Bor (List ℕ)) × W)) → map spelled r ≡ words → map spelled r' ≡ words → map spelled r ≡ map spelled r'
  pub read_line : {W : Type 0} (words : List ((List ℕ) × W)) (other : W) (s : List ℕ) → One (λ r. r ≡ line_at words other s)
  pub model_line : (s : List ℕ) → One (λ r. r ≡ modelline.line_at s)
  pub listing_line : (s : List ℕ) → One (λ r. r ≡ listingline.line_at s)
  pub fault_number : (f : Fault) → One (λ r. r ≡ number_of f)
  pub error_number : (e : TextError) → One (λ r. r ≡ text_number e)
  pub error_line : (e : TextError) → One (λ r. r ≡ text_line e)
  -- limits and draft
  pub check_line : (k : limits.Counts) (l : Line Word) → One (λ (r : Result (Unit {0}) Fault). number_in r ≡ refusal (tests k l.word l.numbers))
  pub take_line : (o : Outline) (l : Line Word) (cells : List ℕ) → Both (λ r after. Notes o l cells r after)
  -- fitting, ranking and rows
  pub size_of_lem : (lent : List ℕ) → One (λ z. z ≡ size_of (model_in lent))
  pub measure : (lent : List ℕ) (heads triples : ℕ) → One (λ r. r ≡ fit_of (model_in lent) heads triples)
  pub rank_head : (z : Size) (begun : ℕ) (cells : List ℕ) (n : Numbers) → Both (λ r after. Ranked cells after (head_fault z (ltb 0 begun) cells n) (head_put z cells n) r)
  pub rank_triple : (z : Size) (begun : ℕ) (cells : List ℕ) (n : Numbers) → Both (λ r after. Ranked cells after (triple_fault z (ltb 0 begun) cells n) (triple_put z cells n) r)
  pub read_text_lem : (z : Size) (heads triples text : List ℕ) → One {A = Result (Unit {0}) TextError × Tally × List ℕ × List ℕ} (λ x. ended x.0 x.1 x.2 x.3 ≡ read_text z (before heads triples) text)
  -- splitter
  pub listing_at : (text : List ℕ) → One (λ r. r ≡ part.place text)
  pub listing_of_lem : (text : List ℕ) → One (λ part. part ≡ listing_of text)
  pub model_part_lem : (text : List ℕ) → One (λ part. part ≡ model_part text)
  -- print
  pub place : (n at : ℕ) → One (λ r. r ≡ place_in n at)
  pub put : (out : List ℕ) (at b : ℕ) → Both (λ r after. Put out after at r (b ∷ []))
  pub put_all : (out : List ℕ) (at : ℕ) (s : List ℕ) → Both (λ r after. Put out after at r s)
  pub put_field : (out : List ℕ) (at n : ℕ) → Both (λ r after. Put out after at r (field_bytes n))
  pub put_fields : (out : List ℕ) (at : ℕ) (numbers : List ℕ) → Both (λ r after. Put out after at r (over numbers field_bytes))
  pub put_line : (out : List ℕ) (at : ℕ) (word numbers : List ℕ) → Both (λ r after. Put out after at r (line_bytes word numbers))
  pub put_named : (out : List ℕ) (at : ℕ) (word numbers last : List ℕ) → Both (λ r after. Put out after at r (named_bytes word numbers last))
  -- kept
  pub next_kept_lem : (t : looked.Table) (q : ℕ) (ρ : Rule) (n : Option ℕ) → One (λ b. b ≡ next_kept t.size.states (held_in t) q (meant ρ) (landed n))
  -- closed
  pub rule_closed_lem : (triples heads : List ℕ) (steps : ℕ) (ρ : Rule) → One (λ b. b ≡ rule_closed triples heads steps (meant ρ))
  -- explain
  pub explain : (lent : List ℕ) (t : looked.Table) (n : Counts) (f : Goal) → One (λ w. w ≡ found_as (explained (search_in lent t n) (ranks_in t) f))
  -- decide, trace, recheck and listing: what `?` makes of an error below
  pub decide_error : (unfit : Unfit) → One (λ e. e ≡ decide.Refused unfit)
  pub trace_error : (undecided : DecideError) → One (λ e. e ≡ trace.Undecided undecided)
  pub check_error : (unfit : Unfit) → One (λ e. e ≡ recheck.Refused unfit)
  pub listing_unfit : (unfit : Unfit) → One (λ e. e ≡ listing.Refused unfit)
  pub listing_text : (wrong : TextError) → One (λ e. e ≡ listing.Text wrong)
  -- output
  pub front : (out : List ℕ) (k : ℕ) → One (λ part. part ≡ take k out)
  -- violation, refusal, report and rereport
  pub put_violation : (m : Model) (whole : Bool) (rounds count : ℕ) (out steps : List ℕ)
      → Both (λ r after. Put out after 0 r (violation_bytes m whole rounds steps (shown (length steps) count)))
  pub put_refused : (out : List ℕ) (number line : ℕ) → Both (λ r after. Put out after 0 r (refused_bytes number line))
  pub read_or_refuse : (text out : List ℕ) → Both (λ r (x : List ℕ × List ℕ). Seeing text out x.0 r x.1)
  pub check_text : (out text : List ℕ) → Both (λ r after. Put out after 0 r (check_output text))
  pub recheck_text : (out text : List ℕ) → Both (λ r after. Put out after 0 r (recheck_output text))
