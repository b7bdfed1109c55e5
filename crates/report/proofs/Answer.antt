-- From the outcome of the trace call to what is printed: with arrays of the model's sizes and the budget that is always enough there is a verdict, and the
-- bytes are its bytes. Assumes nothing.
use mathlib.Core.Bool.{Bool, true, false, cond}
use mathlib.Core.List.{List, [], ◌∷◌, ◌++◌}
use mathlib.Core.Option.{some}
use mathlib.Core.Path.{◌≡◌, refl, ap, ap₂, sym, ◌∙◌, subst, subst⁻¹}
use Prim.Native.Nat.{ℕ, ◌+◌, ◌*◌, ◌<◌, ◌≤◌, min}
use native.Mathlib.Nat.{mul-le-mul}
use native.Mathlib.Omega.{arith}
use lib.Dec.{T, leb, ltb}
use lib.ListN.{length, drop, length-append}
use lib.Seq.{sets, length-sets}
use borrow.Author.Tests.{leb-true, leb-false, ltb-true, ltb-false}
use Rattle.text.specs.Split.{pick}
use Rattle.product.specs.Lists.{each}
use Rattle.product.specs.Answer.{Answer, answered, refused}
use Rattle.product.specs.Product.{Step, stored}
use Rattle.product.specs.Verdict.{Verdict, violation, safe, answer, bound, ran}
use Rattle.product.specs.Table.{ranks, left}
use Rattle.product.specs.Trace.{trace_of}
use Rattle.product.proofs.Lists.{length_each, length_up_to}
use Rattle.product.proofs.Demands.{demands}
use Rattle.table.specs.Cells.{heads_of, triples_of}
use Rattle.table.proofs.ReadBack.{length_heads, length_triples}
use Rattle.model.specs.declared.Model.{Model}
use Rattle.model.specs.Model.{product_of}
use Rattle.model.specs.Valid.{valid}
use Rattle.model.proofs.Valid.{valid_sizes, product_in_lem}
use Rattle.fitting.proofs.Tested.{ample, tested_well}
use Rattle.decide.specs.Decided.{within, decision, heads_left, triples_left}
use Rattle.std.specs.Prelude.{Ok, Err}
use Rattle.fitting.specs.declared.Unfit.{Unfit}
use Rattle.fitting.specs.declared.Unfit.TheVariants.{Invalid, Short}
use Rattle.decide.specs.declared.DecideError.{DecideError}
use Rattle.decide.specs.declared.DecideError.TheVariants.{Refused, Spent}
use Rattle.trace.specs.declared.TraceError.TheVariants.{Undecided, Safe, Cut}
use Rattle.trace.specs.Outcome.{TraceAnswer, Trace, traced, meaning, traced_by, steps_by, Outcome}
use Rattle.text.specs.Put.{place_in, Put}
use Rattle.text.proofs.Puts.{as_put}
use Rattle.printing.specs.Listing.{listing_bytes}
use Rattle.printing.specs.Writing as printing
use Rattle.printing.specs.Writing.{Listed, bytes, cut, bytes_of, fitted, Writes}
use Rattle.violation.specs.Bytes.{room, shown, first_line, violation_bytes}
use Rattle.violation.proofs.Lines.{lines_same}
use Rattle.table.specs.declared.Size.{Size}
use Rattle.fitting.specs.Fits.{size_of, heads_of as head_count, triples_of as triple_count, Fits}
use Rattle.report.specs.Output.{traced_bytes, verdict_bytes, answer_bytes, model_output}
use Rattle.report.specs.Told.{Told}
use Rattle.printing.proofs.Front.{listing_front}

-- the place behind a listing
abbrev pub place_of : Answer Listed → ℕ → ℕ
place_of (answered (bytes n)) room = n
place_of (answered cut) room = room + 1
place_of (refused n vs) room = 0

-- of a valid model, and from arrays of its sizes, a listing is put
module _ (m : Model) (rounds : ℕ) {hs ts out after : List ℕ} {w : printing.WriteAnswer} (t : Fits m (length hs) (length ts)) (x : Writes m rounds hs ts out after w) where
  as_fitted : printing.meaning w ≡ answered (fitted (length (bytes_of m rounds hs ts)) (length out))
  as_fitted = x.answer ∙ tested_well m (length hs) (length ts) t _ _ _

  as_set : after ≡ sets out 0 (bytes_of m rounds hs ts)
  as_set = x.leaves ∙ tested_well m (length hs) (length ts) t _ _ _

  same_place : place_of (printing.meaning w) (length after) ≡ place_in (length out) (0 + length (bytes_of m rounds hs ts))
  same_place = ap (λ a. place_of a (length after)) as_fitted ∙ go (ltb (length out) (length (bytes_of m rounds hs ts))) refl
    where
      go : (b : Bool) → ltb (length out) (length (bytes_of m rounds hs ts)) ≡ b
          → place_of (answered (pick b cut (bytes (length (bytes_of m rounds hs ts))))) (length after) ≡ place_in (length out) (0 + length (bytes_of m rounds hs ts))
      go true e = omega (arith, ltb-true (length out) (length (bytes_of m rounds hs ts)) e, ap length as_set, length-sets out 0 (bytes_of m rounds hs ts))
      go false e = omega (arith, ltb-false (length out) (length (bytes_of m rounds hs ts)) e)

  pub listing_put : {w' : printing.WriteAnswer} → w ≡ w' → Put out after 0 (place_of (printing.meaning w') (length after)) (bytes_of m rounds hs ts)
  listing_put e = record { place = ap (λ w. place_of (printing.meaning w) (length after)) (sym e) ∙ same_place; cells = as_set }

-- so that it is never refused
pub never_refused_listing : (m : Model) (rounds : ℕ) {hs ts out after : List ℕ} (t : Fits m (length hs) (length ts)) {w : printing.WriteAnswer} (u : Unfit) → w ≡ Err u → Writes m rounds hs ts out after w → ⊥
never_refused_listing m rounds {hs} {ts} {out} t Invalid q x =
    let e : ◌≡◌ {A = Answer Listed} (refused 6 (0 ∷ [])) (answered (fitted (length (bytes_of m rounds hs ts)) (length out))) = sym (ap printing.meaning q) ∙ as_fitted m rounds t x in
    let z : ◌≡◌ {A = ℕ} 0 1 = cc in
    omega arith
never_refused_listing m rounds {hs} {ts} {out} t Short q x =
    let e : ◌≡◌ {A = Answer Listed} (refused 7 (0 ∷ [])) (answered (fitted (length (bytes_of m rounds hs ts)) (length out))) = sym (ap printing.meaning q) ∙ as_fitted m rounds t x in
    let z : ◌≡◌ {A = ℕ} 0 1 = cc in
    omega arith

-- the budget, as it is multiplied out
module _ (m : Model) (v : T (valid m)) where
  pub budget_fits : (m.symbols * m.states ≤ 256) × (m.symbols * m.states * (m.states + 1) ≤ 2304)
  budget_fits =
      let z = valid_sizes m v in
      let a : m.symbols * m.states ≤ 32 * 8 = mul-le-mul z.symbols z.states in
      let b : m.states + 1 ≤ 9 = omega (arith, z.states) in
      let c : m.symbols * m.states * (m.states + 1) ≤ 32 * 8 * 9 = mul-le-mul a b in
      (omega arith, omega arith)

  pub budget_is : m.symbols * m.states * (m.states + 1) ≡ bound (product_of m)
  budget_is = ap (λ q. m.symbols * q * (q + 1)) (sym (length_up_to m.states))

-- by the size that was read
module _ (m : Model) (v : T (valid m)) {z : Size} (read : z ≡ size_of m) where
  pub fits_read : (z.symbols * z.states ≤ 256) × (z.symbols * z.states * (z.states + 1) ≤ 2304)
  fits_read = subst⁻¹ (λ (z : Size). (z.symbols * z.states ≤ 256) × (z.symbols * z.states * (z.states + 1) ≤ 2304)) read (budget_fits m v)

  pub is_read : z.symbols * z.states * (z.states + 1) ≡ bound (product_of m)
  is_read = ap (λ (z : Size). z.symbols * z.states * (z.states + 1)) read ∙ budget_is m v

-- a verdict is no refusal but 9 and 10
module _ (m : Model) where
  never_refused : (v : Verdict) (number : ℕ) (values : List ℕ) → number < 9 → refused number values ≡ traced_by m room (answered v) → ⊥
  never_refused (safe n) number values l e = let z : number ≡ 9 = cc in omega arith
  never_refused (violation n) number values l e = go (leb (length (trace_of (product_of m) (violation n))) room) e
    where
      go : (b : Bool) → refused number values ≡ cond b (answered (traced n (length (trace_of (product_of m) (violation n))))) (refused 10 (n ∷ room ∷ [])) → ⊥
      go true e = let z : ◌≡◌ {A = ℕ} 0 1 = cc in omega arith
      go false e = let z : number ≡ 10 = cc in omega arith

  safe_bytes : (v : Verdict) (n : ℕ) → refused 9 (n ∷ []) ≡ traced_by m room (answered v) → v ≡ safe n
  safe_bytes (safe j) n e = let z : j ≡ n = cc in ap safe z
  safe_bytes (violation j) n e = go (leb (length (trace_of (product_of m) (violation j))) room) e
    where
      go : {P : Type 0} (b : Bool) → refused 9 (n ∷ []) ≡ cond b (answered (traced j (length (trace_of (product_of m) (violation j))))) (refused 10 (j ∷ room ∷ [])) → P
      go true e = let z : ◌≡◌ {A = ℕ} 0 1 = cc in absurd (omega arith)
      go false e = let z : ◌≡◌ {A = ℕ} 9 10 = cc in absurd (omega arith)

-- a trace that is told whole or cut
abbrev told_as : (whole : Bool) → (n k : ℕ) → Answer Trace
told_as true n k = answered (traced n k)
told_as false n k = refused 10 (n ∷ k ∷ [])

-- the steps as they stand in a room print as those of the trace
module _ (m : Model) (rm : List ℕ) {rm' : List ℕ} (roomy : length rm ≡ room) where
  printed : (ss : List ℕ) → rm' ≡ sets rm 0 ss → (whole : Bool) (j k : ℕ) → leb (length ss) room ≡ whole → k ≡ min (length ss) room
      → violation_bytes m whole j rm' (shown (length rm') k) ≡ traced_bytes m j ss
  printed ss f whole j k h e =
      let n : shown (length rm') k ≡ min (length ss) room = omega (arith, ap length f, length-sets rm 0 ss) in
      ap₂ (λ r n. violation_bytes m whole j r n) f n
      ∙ ap (λ x. first_line whole j (min (length ss) room) ++ x) (lines_same (product_of m) rm ss (min (length ss) room) (omega arith) (omega arith))
      ∙ ap (λ b. violation_bytes m b j ss (min (length ss) room)) (sym h)

  violation_bytes_lem : (whole : Bool) (v : Verdict) (n k : ℕ) → told_as whole n k ≡ traced_by m room (answered v) → rm' ≡ sets rm 0 (steps_by m (answered v))
      → violation_bytes m whole n rm' (shown (length rm') k) ≡ verdict_bytes m v
  violation_bytes_lem true (safe j) n k e f = let z : ◌≡◌ {A = ℕ} 0 1 = cc in absurd (omega arith)
  violation_bytes_lem false (safe j) n k e f = let z : ◌≡◌ {A = ℕ} 10 9 = cc in absurd (omega arith)
  violation_bytes_lem whole (violation j) n k e f = go whole (leb (length tr) room) refl e
    where
      tr : List Step
      tr = trace_of (product_of m) (violation j)

      same : length (each tr stored) ≡ length tr
      same = length_each tr stored

      go : (whole b : Bool) → leb (length tr) room ≡ b → told_as whole n k ≡ cond b (answered (traced j (length tr))) (refused 10 (j ∷ room ∷ []))
          → violation_bytes m whole n rm' (shown (length rm') k) ≡ traced_bytes m j (each tr stored)
      go true true q e =
          let a : n ≡ j = cc in
          let c : k ≡ length tr = cc in
          ap (λ x. violation_bytes m true x rm' (shown (length rm') k)) a ∙ printed (each tr stored) f true j k (ap (λ x. leb x room) same ∙ q) (omega (arith, same, leb-true (length tr) room q))
      go false false q e =
          let a : n ≡ j = cc in
          let c : k ≡ room = cc in
          ap (λ x. violation_bytes m false x rm' (shown (length rm') k)) a ∙ printed (each tr stored) f false j k (ap (λ x. leb x room) same ∙ q) (omega (arith, same, leb-false (length tr) room q))
      go true false q e = let z : ◌≡◌ {A = ℕ} 0 1 = cc in absurd (omega arith)
      go false true q e = let z : ◌≡◌ {A = ℕ} 0 1 = cc in absurd (omega arith)

-- the call's outcome, with arrays of the model's sizes and this budget
module _ (m : Model) {r : TraceAnswer} {hs' ts' rm' : List ℕ} (A : Told m r hs' ts' rm') where
  ok : T (valid m)
  ok = A.fits.valid_model

  abbrev b : ℕ
  b = bound (product_of m)

  the_verdict : (v : Verdict) × (answer (product_of m) b ≡ some v)
  the_verdict = (demands (product_of m) (product_in_lem m ok)).answer_bound b (omega arith)

  decided : decision m b (length A.hs) (length A.ts) ≡ answered the_verdict.0
  unfolding decision
  decided = tested_well m (length A.hs) (length A.ts) A.fits _ _ _ ∙ ap (within b) the_verdict.1

  means : meaning r ≡ traced_by m room (answered the_verdict.0)
  means = A.outcome.answer ∙ ap₂ (traced_by m) A.roomy decided

  steps_are : rm' ≡ sets A.rm 0 (steps_by m (answered the_verdict.0))
  steps_are = A.outcome.steps ∙ ap (λ d. sets A.rm 0 (steps_by m d)) decided

  output_is : verdict_bytes m the_verdict.0 ≡ model_output m
  unfolding model_output
  output_is = sym (ap (answer_bytes m) the_verdict.1)

  never : (number : ℕ) (values : List ℕ) → number < 9 → meaning r ≡ refused number values → ⊥
  never number values l k = never_refused m the_verdict.0 number values l (sym k ∙ means)

  pub is_decided : (e : DecideError) → r ≡ Err (Undecided e) → ⊥
  is_decided (Refused Invalid) q = never 6 _ (omega arith) (ap meaning q)
  is_decided (Refused Short) q = never 7 _ (omega arith) (ap meaning q)
  is_decided (Spent b) q = never 8 _ (omega arith) (ap meaning q)

  module _ (n k : ℕ) {o p : List ℕ} {next : ℕ} where
    pub found_put : r ≡ Ok (record { rounds = n; steps = k }) → Put o p 0 next (violation_bytes m true n rm' (shown (length rm') k)) → Put o p 0 next (model_output m)
    found_put q = as_put (violation_bytes_lem m A.rm A.roomy true the_verdict.0 n k (sym (ap meaning q) ∙ means) steps_are ∙ output_is)

    pub cut_put : r ≡ Err (Cut n k) → Put o p 0 next (violation_bytes m false n rm' (shown (length rm') k)) → Put o p 0 next (model_output m)
    cut_put q = as_put (violation_bytes_lem m A.rm A.roomy false the_verdict.0 n k (sym (ap meaning q) ∙ means) steps_are ∙ output_is)

  heads_are : hs' ≡ heads_of m.symbols m.states (left (product_of m) b) ++ drop (head_count m) A.hs
  unfolding heads_left
  heads_are = A.outcome.heads ∙ tested_well m (length A.hs) (length A.ts) A.fits _ _ _

  triples_are : ts' ≡ triples_of m.symbols m.states (left (product_of m) b) ++ drop (triple_count m) A.ts
  unfolding triples_left
  triples_are = A.outcome.triples ∙ tested_well m (length A.hs) (length A.ts) A.fits _ _ _

  -- the lengths are as they were
  pub fits_after : Fits m (length hs') (length ts')
  fits_after = record {
    valid_model = ok;
    heads_there = rw heads_are (omega (arith, length-append (heads_of m.symbols m.states (left (product_of m) b)) (drop (head_count m) A.hs), length_heads m.symbols m.states (left (product_of m) b)));
    triples_there = rw triples_are (omega (arith, length-append (triples_of m.symbols m.states (left (product_of m) b)) (drop (triple_count m) A.ts), length_triples m.symbols m.states (left (product_of m) b)));
  }

  module _ (n : ℕ) (q : r ≡ Err (Safe n)) where
    is_safe : the_verdict.0 ≡ safe n
    is_safe = safe_bytes m the_verdict.0 n (sym (ap meaning q) ∙ means)

    table_is : left (product_of m) b ≡ ranks (product_of m) n
    table_is = ap (λ o. ranks (product_of m) (ran b o)) (the_verdict.1 ∙ ap some is_safe)

    safe_output : bytes_of m n hs' ts' ≡ model_output m
    safe_output =
        ap₂ (bytes_of m n) heads_are triples_are
        ∙ listing_front m.symbols m.states n
        (heads_of m.symbols m.states (left (product_of m) b)) (drop (head_count m) A.hs) (triples_of m.symbols m.states (left (product_of m) b)) (drop (triple_count m) A.ts)
        (length_heads m.symbols m.states (left (product_of m) b)) (length_triples m.symbols m.states (left (product_of m) b))
        ∙ ap (λ t. listing_bytes m.symbols m.states n (heads_of m.symbols m.states t) (triples_of m.symbols m.states t)) table_is
        ∙ ap (verdict_bytes m) (sym is_safe) ∙ output_is

    pub safe_put : {o p : List ℕ} {next : ℕ} → Put o p 0 next (bytes_of m n hs' ts') → Put o p 0 next (model_output m)
    safe_put = as_put safe_output

-- what the call told, in the code's arrays
pub told : (m : Model) (v : T (valid m)) {b : ℕ} {hs ts rm hs' ts' rm' : List ℕ} {r : TraceAnswer} → length hs ≡ 256 → length ts ≡ 2048 → length rm ≡ room → b ≡ bound (product_of m)
    → Outcome m b hs ts rm r hs' ts' rm' → Told m r hs' ts' rm'
told m v {b} {hs} {ts} {rm} {hs'} {ts'} {rm'} {r} h t k e o = record {
  hs = hs;
  ts = ts;
  rm = rm;
  fits = ample m v h t;
  roomy = k;
  outcome = subst (λ b. Outcome m b hs ts rm r hs' ts' rm') e o;
}
