-- The line of a refused listing, and the rule and the move of a table that is not closed, are small numbers; and a valid model with arrays of its sizes is
-- refused neither by the reading nor by the check. Assumes nothing.
use mathlib.Core.Bool.{Bool, true, false, cond, not}
use mathlib.Core.List.{List, [], ◌∷◌}
use mathlib.Core.Option.{Option, none, some}
use mathlib.Core.Path.{◌≡◌, refl, ◌∙◌, subst, subst⁻¹}
use Prim.Native.Nat.{ℕ, ◌+◌, ◌<◌, ◌≤◌}
use native.Mathlib.Omega.{arith}
use lib.Dec.{T, eqb, ltb}
use lib.ListN.{length, get_or}
use borrow.Author.Tests.{ltb-false}
use Rattle.text.specs.Split.{pick, first, later, split}
use Rattle.listingline.specs.Line.{line_of}
use Rattle.product.specs.Lists.{All, up_to, each, find}
use Rattle.product.specs.Answer.{Answer, answered, refused, Acceptance}
use Rattle.product.specs.Product.{Step}
use Rattle.product.specs.Facts.{Fact, first as start, pairs}
use Rattle.product.specs.Check.{Checked, passes, fails, closed_at, clean, open_at, checked, check_answer}
use Rattle.product.proofs.Lists.{All-over, All-each, up_to_lt}
use Rattle.table.specs.declared.Size.{Size}
use Rattle.model.specs.declared.Model.{Model}
use Rattle.model.specs.Model.{product_of}
use Rattle.model.specs.Valid.{valid}
use Rattle.model.proofs.Valid.{valid_sizes}
use Rattle.recheck.specs.Recheck.{in_table, recheck}
use Rattle.recheck.proofs.Answers.{recheck_checked}
use Rattle.rows.specs.State.{State}
use Rattle.rows.specs.Lines.{longest, start_state, ends, step_of, finished, read_from, read_text}
use Rattle.rows.proofs.Refusals.{text_of}
use Rattle.listing.specs.Reading.{lines_of, answer_of}
use Rattle.refusal.proofs.Reading.{lines_few}
use Rattle.fitting.specs.Fits.{size_of, Fits}
use Rattle.rereport.specs.Heard.{line_in}
use Rattle.rereport.specs.Output.{listing_read}

line_within : (z : Size) (n : ℕ) (s : State) (l : List ℕ) (ls : List (List ℕ)) → (read_from z n s l ls).line ≤ n + length ls
unfolding read_from
line_within z n s l [] = go (ltb 0 (length l))
  where
    go : (b : Bool) → (pick b (ends 2 n s) (finished s)).line ≤ n + 0
    go true = omega arith
    go false = omega arith
line_within z n s l (k ∷ ls) =
    go (line_within z (n + 1) (step_of z s (line_of (split 9 l))).state k ls) (eqb (step_of z s (line_of (split 9 l))).refusal 0)
  where
    go : (read_from z (n + 1) (step_of z s (line_of (split 9 l))).state k ls).line ≤ n + 1 + length ls → (b : Bool)
        → (pick b (read_from z (n + 1) (step_of z s (line_of (split 9 l))).state k ls) (ends (step_of z s (line_of (split 9 l))).refusal n s)).line ≤ n + length (k ∷ ls)
    go h true = omega arith
    go h false = omega arith

text_line : (z : Size) (text : List ℕ) → (read_text z start_state text).line < 65536
text_line z text = go (ltb longest (length text)) refl
  where
    go : (a : Bool) → ltb longest (length text) ≡ a → (pick a (ends 1 0 start_state) (read_from z 1 start_state (first 10 text) (later 10 text))).line < 65536
    go true e = omega arith
    go false e = omega (arith, ltb-false longest (length text) e, line_within z 1 start_state (first 10 text) (later 10 text), lines_few text)

pub listing_line : (m : Model) (text : List ℕ) → line_in (listing_read m text) < 65536
unfolding answer_of
listing_line m text = go (eqb (lines_of m text).refusal 0)
  where
    go : (b : Bool) → line_in (pick b (answered (lines_of m text).state.rounds) (refused (lines_of m text).refusal ((lines_of m text).line ∷ []))) < 65536
    go true = omega arith
    go false = omega (arith, text_line (size_of m) text)

-- it is refused by a number of a text
pub listing_number : (m : Model) (text : List ℕ) (n : ℕ) (vs : List ℕ) → 4 < n → refused n vs ≡ listing_read m text → ⊥
unfolding answer_of
listing_number m text n vs l = go (eqb (lines_of m text).refusal 0)
  where
    go : (b : Bool) → refused n vs ≡ pick b (answered (lines_of m text).state.rounds) (refused (lines_of m text).refusal ((lines_of m text).line ∷ [])) → ⊥
    go true e = let z : ◌≡◌ {A = ℕ} 0 1 = cc in omega arith
    go false e = let z : n ≡ (lines_of m text).refusal = cc in omega (arith, (text_of (size_of m) start_state text).small)

-- what is found passes what all pass
find_all : {A : Type 0} (P : A → Type 0) (p : A → Bool) (xs : List A) → All P xs → (x : A) → find p xs ≡ some x → P x
find_all P p [] h x e = let z : ◌≡◌ {A = ℕ} 0 1 = cc in absurd (omega arith)
find_all P p (y ∷ ys) (h, hs) x e = go (find_all P p ys hs x) (p y) e
  where
    go : (find p ys ≡ some x → P x) → (b : Bool) → cond b (some y) (find p ys) ≡ some x → P x
    go k true e = let z : y ≡ x = cc in subst P z h
    go k false e = k e

-- the rule and the move of an answer
abbrev pub rule_in : Answer Acceptance → ℕ
rule_in (answered a) = 0
rule_in (refused number values) = get_or values 1 0

abbrev pub move_in : Answer Acceptance → ℕ
move_in (answered a) = 0
move_in (refused number values) = get_or values 2 0

abbrev Few : Answer Acceptance → Type 0
Few c = (rule_in c < 65536) × (move_in c < 65536)

module _ (m : Model) (v : T (valid m)) where
  pairs_few : All (λ s. (s.by_rule < 256) × (s.by_move < 128)) (pairs (product_of m))
  pairs_few =
      All-over (λ s. (s.by_rule < 256) × (s.by_move < 128)) (up_to m.rules) (λ r. each (up_to m.moves) (λ v. record { by_rule = r; by_move = v }))
      (λ r i. All-each (λ s. (s.by_rule < 256) × (s.by_move < 128)) (up_to m.moves) (λ v. record { by_rule = r; by_move = v })
      (λ w j. let z = valid_sizes m v in let a = up_to_lt m.rules r i in let b = up_to_lt m.moves w j in (omega arith, omega arith)))

  answer_few : (t : Fact → Bool) → Few (check_answer (checked (product_of m) t))
  unfolding checked
  answer_few t = go (t (start (product_of m))) (clean (product_of m) t) (find (λ s. not (closed_at (product_of m) t s)) (pairs (product_of m))) refl
    where
      go : (a b : Bool) (o : Option Step) → find (λ s. not (closed_at (product_of m) t s)) (pairs (product_of m)) ≡ o
          → Few (check_answer (elim a [ false ↦ fails 1 0 0 | true ↦ elim b [ false ↦ fails 2 0 0 | true ↦ open_at o ] ]))
      go false b o e = (omega arith, omega arith)
      go true false o e = (omega arith, omega arith)
      go true true none e = (omega arith, omega arith)
      go true true (some s) e =
          let (a, b) = find_all (λ s. (s.by_rule < 256) × (s.by_move < 128)) (λ s. not (closed_at (product_of m) t s)) (pairs (product_of m)) pairs_few s e in (omega arith, omega arith)

-- a table that fits is checked
module _ (m : Model) (hs ts : List ℕ) (f : Fits m (length hs) (length ts)) where
  pub recheck_few : Few (recheck m hs ts)
  recheck_few = subst⁻¹ Few (recheck_checked m hs ts f) (answer_few m f.valid_model (in_table (size_of m) hs ts))

  pub not_refused : (n : ℕ) (vs : List ℕ) → n < 11 → refused n vs ≡ recheck m hs ts → ⊥
  not_refused n vs l e = go (checked (product_of m) (in_table (size_of m) hs ts)) (e ∙ recheck_checked m hs ts f)
    where
      go : (c : Checked) → refused n vs ≡ check_answer c → ⊥
      go passes e = let z : ◌≡◌ {A = ℕ} 0 1 = cc in omega arith
      go (fails reason r v) e = let z : n ≡ 11 = cc in omega arith
