-- The steps of a reading, case by case. Assumes nothing.
use mathlib.Core.Path.{◌≡◌, refl, ap, ◌∙◌}
use mathlib.Core.Bool.{Bool, true, false}
use mir.Val.{bool_byte}
use mathlib.Core.List.{List}
use Prim.Native.Nat.{ℕ, ◌+◌, ◌<◌, ◌≤◌}
use native.Mathlib.Omega.{arith}
use lib.Dec.{eqb, ltb}
use borrow.Author.Tests.{lt-ltb, le-ltb, eq-eqb, ne_eqb}
use Rattle.text.specs.Split.{pick}
use Rattle.numbers.specs.Number.{nth}
use Rattle.numbers.specs.declared.Numbers.{Numbers}
use Rattle.std.specs.Prelude.{Result, Ok, Err}
use Rattle.std.specs.Result.{IsErrAnd}
use Rattle.line.specs.declared.fault.Fault.{Fault}
use Rattle.line.specs.Fault.{number_of}
use Rattle.table.specs.declared.Size.{Size}
use Rattle.ranking.specs.Rank.{largest, head_fault, head_put, triple_fault, triple_put, Ranked}
use Rattle.ranking.proofs.Faults.{some_fault, ranked_cells, unranked_cells}
use Rattle.listingline.specs.declared.Word.{Word}
use Rattle.listingline.specs.declared.Word.TheVariants.{Safe, Head, Erase, Unknown}
use Rattle.line.specs.declared.words.Line.{Line}
use Rattle.rows.specs.declared.Tally.{Tally}
use Rattle.rows.specs.State.{State, Step, whole, stepped}
use Rattle.rows.specs.Lines.{refuse, goes, with_header, heads_by, triples_by, safe_step, unless, head_step, triple_step, step_by, step_of}

-- the header
module _ (s : State) (n : Numbers) where
  pub safe_malformed : (n.count ≡ 3 → ⊥) → refuse 2 s ≡ safe_step s n
  unfolding safe_step
  safe_malformed c = rw (ne_eqb _ _ c)

  module _ (c : n.count ≡ 3) where
    pub safe_twice : s.begun ≡ true → refuse 3 s ≡ safe_step s n
    unfolding safe_step
    safe_twice h = rw (eq-eqb _ _ c, h)

    pub safe_large : s.begun ≡ false → largest < nth n 0 → refuse 4 s ≡ safe_step s n
    unfolding safe_step
    safe_large h l = rw (eq-eqb _ _ c, h, lt-ltb _ _ l)

    pub safe_taken : s.begun ≡ false → nth n 0 ≤ largest → goes (with_header s (nth n 0) (nth n 1) (nth n 2)) ≡ safe_step s n
    unfolding safe_step
    safe_taken h l = rw (eq-eqb _ _ c, h, le-ltb _ _ l)

-- a fact's line by its fault
module _ {f g : ℕ} (e : f ≡ g) (s next : State) where
  step_refused : (f ≡ 0 → ⊥) → refuse f s ≡ unless g s next
  step_refused h = rw (← e, ne_eqb _ _ h)

  step_taken : f ≡ 0 → goes next ≡ unless g s next
  step_taken h = rw (← e, eq-eqb _ _ h)

module _ (z : Size) (s : State) (n : Numbers) {f : ℕ} (e : f ≡ head_fault z s.begun s.headcells n) where
  pub head_refused : (f ≡ 0 → ⊥) → refuse f s ≡ head_step z s n
  unfolding head_step
  head_refused h = step_refused e s (heads_by s (head_put z s.headcells n)) h

  pub head_taken : f ≡ 0 → {cells : List ℕ} → cells ≡ head_put z s.headcells n → goes (heads_by s cells) ≡ head_step z s n
  unfolding head_step
  head_taken h k = ap (λ l. goes (heads_by s l)) k ∙ step_taken e s (heads_by s (head_put z s.headcells n)) h

module _ (z : Size) (s : State) (n : Numbers) {f : ℕ} (e : f ≡ triple_fault z s.begun s.triplecells n) where
  pub triple_refused : (f ≡ 0 → ⊥) → refuse f s ≡ triple_step z s n
  unfolding triple_step
  triple_refused h = step_refused e s (triples_by s (triple_put z s.triplecells n)) h

  pub triple_taken : f ≡ 0 → {cells : List ℕ} → cells ≡ triple_put z s.triplecells n → goes (triples_by s cells) ≡ triple_step z s n
  unfolding triple_step
  triple_taken h k = ap (λ l. goes (triples_by s l)) k ∙ step_taken e s (triples_by s (triple_put z s.triplecells n)) h

-- by what the call that ranks the fact answers, and leaves in the lent cells
-- whether a listing was begun, as a number and back
pub begun_is : (b : Bool) {n : ℕ} → n ≡ bool_byte b → ltb 0 n ≡ b
begun_is true e = rw e refl
begun_is false e = rw e refl

module _ (z : Size) (t : Tally) (n : Numbers) {cells after : List ℕ} where
  head_unranked : (fault : Fault) → Ranked cells after (head_fault z t.begun cells n) (head_put z cells n) (Err fault) → (ts : List ℕ) → refuse (number_of fault) (whole t after ts) ≡ head_step z (whole t cells ts) n
  head_unranked fault k ts =
      ap (λ l. refuse (number_of fault) (whole t l ts)) (unranked_cells k (some_fault fault)) ∙ head_refused z (whole t cells ts) n k.answers (some_fault fault)

  -- as `?` passes it on
  pub head_passed : (fault : Fault) → Ranked cells after (head_fault z t.begun cells n) (head_put z cells n) (Err fault) → (r : Result (Unit {0}) Fault) → IsErrAnd r (λ e. e ≡ fault)
      → (ts : List ℕ) → stepped r t after ts ≡ head_step z (whole t cells ts) n
  head_passed fault k (Err e) i ts = rw i (head_unranked fault k ts)
  head_passed fault k (Ok x) i ts = absurd i

  pub head_ranked : {u : Unit {0}} → Ranked cells after (head_fault z t.begun cells n) (head_put z cells n) (Ok u) → (ts : List ℕ) → goes (heads_by (whole t cells ts) after) ≡ head_step z (whole t cells ts) n
  head_ranked k ts = head_taken z (whole t cells ts) n k.answers refl (ranked_cells k refl)

module _ (z : Size) (t : Tally) (n : Numbers) {cells after : List ℕ} where
  triple_unranked : (fault : Fault) → Ranked cells after (triple_fault z t.begun cells n) (triple_put z cells n) (Err fault) → (hs : List ℕ) → refuse (number_of fault) (whole t hs after) ≡ triple_step z (whole t hs cells) n
  triple_unranked fault k hs =
      ap (λ l. refuse (number_of fault) (whole t hs l)) (unranked_cells k (some_fault fault)) ∙ triple_refused z (whole t hs cells) n k.answers (some_fault fault)

  -- as `?` passes it on
  pub triple_passed : (fault : Fault) → Ranked cells after (triple_fault z t.begun cells n) (triple_put z cells n) (Err fault) → (r : Result (Unit {0}) Fault) → IsErrAnd r (λ e. e ≡ fault)
      → (hs : List ℕ) → stepped r t hs after ≡ triple_step z (whole t hs cells) n
  triple_passed fault k (Err e) i hs = rw i (triple_unranked fault k hs)
  triple_passed fault k (Ok x) i hs = absurd i

  pub triple_ranked : {u : Unit {0}} → Ranked cells after (triple_fault z t.begun cells n) (triple_put z cells n) (Ok u) → (hs : List ℕ) → goes (triples_by (whole t hs cells) after) ≡ triple_step z (whole t hs cells) n
  triple_ranked k hs = triple_taken z (whole t hs cells) n k.answers refl (ranked_cells k refl)

-- a line counts once at the most, and one that is refused changes nothing
pub record Fair (s : State) (t : Step) : Type 0 where
  pub heads : t.state.heads ≤ s.heads + 1
  pub triples : t.state.triples ≤ s.triples + 1
  pub kept : (t.refusal ≡ 0 → ⊥) → t.state ≡ s

refused_fair : (n : ℕ) (s : State) → Fair s (refuse n s)
refused_fair n s = record { heads = omega arith; triples = omega arith; kept = λ r. refl }

goes_fair : (s next : State) → next.heads ≤ s.heads + 1 → next.triples ≤ s.triples + 1 → Fair s (goes next)
goes_fair s next h t = record { heads = h; triples = t; kept = λ r. absurd (r refl) }

either : (s : State) (t : Bool) (a b : Step) → Fair s a → Fair s b → Fair s (pick t a b)
either s true a b x y = x
either s false a b x y = y

unless_fair : (s next : State) (f : ℕ) → Fair s (goes next) → Fair s (unless f s next)
unless_fair s next f m = either s (eqb f 0) (goes next) (refuse f s) m (refused_fair f s)

safe_fair : (s : State) (n : Numbers) → Fair s (safe_step s n)
unfolding safe_step
safe_fair s n =
    let header : State = with_header s (nth n 0) (nth n 1) (nth n 2) in
    let large : Step = pick (ltb largest (nth n 0)) (refuse 4 s) (goes header) in
    let once : Step = pick s.begun (refuse 3 s) large in
    either s (eqb n.count 3) once (refuse 2 s)
    (either s s.begun (refuse 3 s) large (refused_fair 3 s)
    (either s (ltb largest (nth n 0)) (refuse 4 s) (goes header) (refused_fair 4 s) (goes_fair s header (omega arith) (omega arith))))
    (refused_fair 2 s)

head_fair : (z : Size) (s : State) (n : Numbers) → Fair s (head_step z s n)
unfolding head_step
head_fair z s n = let next = heads_by s (head_put z s.headcells n) in unless_fair s next (head_fault z s.begun s.headcells n) (goes_fair s next (omega arith) (omega arith))

triple_fair : (z : Size) (s : State) (n : Numbers) → Fair s (triple_step z s n)
unfolding triple_step
triple_fair z s n = let next = triples_by s (triple_put z s.triplecells n) in unless_fair s next (triple_fault z s.begun s.triplecells n) (goes_fair s next (omega arith) (omega arith))

by_fair : (z : Size) (s : State) (w : Word) (n : Numbers) → Fair s (step_by z s w n)
by_fair z s Safe n = safe_fair s n
by_fair z s Head n = head_fair z s n
by_fair z s Erase n = triple_fair z s n
by_fair z s Unknown n = refused_fair 2 s

pub step_fair : (z : Size) (s : State) (l : Line Word) → Fair s (step_of z s l)
unfolding step_of
step_fair z s l = by_fair z s l.word l.numbers
