-- The promises of the decision and the table check hold. Assumes nothing.
use mathlib.Core.List.{List, ◌++◌}
use mathlib.Core.Logic.{◌↔◌}
use mathlib.Core.Option.{Option, none, some}
use mathlib.Core.Path.{◌≡◌, refl, sym, ap, ◌∙◌, subst, subst⁻¹}
use Prim.Native.Nat.{ℕ, ◌<◌, ◌≤◌}
use native.Mathlib.Omega.{arith}
use lib.Dec.{T}
use lib.ListN.{length, drop, length-append, length-drop}
use Rattle.std.specs.Prelude.{Ok, Err}
use Rattle.product.specs.Answer.{answered, accepted}
use Rattle.product.specs.Verdict.{violation, safe, rounds, Verdict, IsVerdict, answer, bound}
use Rattle.product.specs.Table.{present, ranks, left}
use Rattle.product.specs.Check.{accepts}
use Rattle.product.specs.Demands.{Violates, Demands}
use Rattle.product.proofs.Lists.{length_up_to}
use Rattle.product.proofs.Budget.{answer_of}
use Rattle.product.proofs.Demands.{demands, bound_small}
use Rattle.table.specs.Cells.{view, heads_of, triples_of}
use Rattle.table.proofs.ReadBack.{length_heads, length_triples}
use Rattle.model.specs.declared.Model.{Model}
use Rattle.model.specs.Model.{product_of}
use Rattle.model.specs.Valid.{valid}
use Rattle.model.proofs.Valid.{valid_sizes, product_in_lem}
use Rattle.decide.specs.declared.Verdict.TheVariants.{Violation, Safe}
use Rattle.decide.specs.declared.DecideError.TheVariants.{Spent}
use Rattle.fitting.specs.Fits.{heads_of as head_count, triples_of as triple_count, Fits}
use Rattle.fitting.proofs.Tested.{tested_well}
use Rattle.decide.specs.Decided.{Decision, meaning, within, decision, heads_left, triples_left, Decided}
use Rattle.decide.proofs.Coincide.{meaning_one}
use Rattle.recheck.specs.Recheck.{recheck}
use Rattle.recheck.proofs.Answers.{accepted_exactly, accepted_safe}
use Rattle.decide.proofs.Laid.{ranks_laid}
use Rattle.claims.specs.Deciding.{Deciding, Accepting}

pub accepting : Accepting
accepting m hs ts e (ss, c, r) = accepted_safe m hs ts e ss c r

-- a verdict was answered only if the rounds gave it
within_verdict : (b : ℕ) (o : Option Verdict) (v : Verdict) → within b o ≡ answered v → o ≡ some v
within_verdict b none v e = let z : ◌≡◌ {A = ℕ} 0 1 = cc in absurd (omega arith)
within_verdict b (some u) v e = let i : u ≡ v = cc in ap some i

module _ (m : Model) (hs ts : List ℕ) (ready : Fits m (length hs) (length ts)) where
  is_valid : T (valid m)
  is_valid = ready.valid_model

  D : Demands (product_of m)
  D = demands (product_of m) (product_in_lem m is_valid)

  module _ (b : ℕ) (r : Decision) (hs' ts' : List ℕ) (d : Decided m b hs ts r hs' ts') where
    -- the answer is that of the rounds
    said : meaning r ≡ within b (answer (product_of m) b)
    unfolding decision
    said = d.answer ∙ tested_well m (length hs) (length ts) ready _ _ _

    of_answer : (v : Verdict) → meaning r ≡ answered v → answer (product_of m) b ≡ some v
    of_answer v e = within_verdict b (answer (product_of m) b) v (sym said ∙ e)

    to_answer : (r' : Decision) (v : Verdict) → answer (product_of m) b ≡ some v → meaning r' ≡ answered v → r ≡ r'
    to_answer r' v e k = meaning_one r r' (said ∙ ap (within b) e ∙ sym k)

    heads_left_lem : hs' ≡ heads_of m.symbols m.states (left (product_of m) b) ++ drop (head_count m) hs
    unfolding heads_left
    heads_left_lem = d.heads ∙ tested_well m (length hs) (length ts) ready _ _ _

    triples_left_lem : ts' ≡ triples_of m.symbols m.states (left (product_of m) b) ++ drop (triple_count m) ts
    unfolding triples_left
    triples_left_lem = d.triples ∙ tested_well m (length hs) (length ts) ready _ _ _

  -- every verdict's rounds are few
  few_rounds : (v : Verdict) → IsVerdict (product_of m) v → rounds v ≤ bound (product_of m)
  few_rounds v i = let (u, j, k) = D.verdict in let e : u ≡ v = D.one_verdict u v j i in subst (λ v. rounds v ≤ bound (product_of m)) e k

  small : bound (product_of m) ≤ 2304
  small = bound_small (product_of m) (valid_sizes m is_valid).symbols (omega (arith, length_up_to m.states, (valid_sizes m is_valid).states))

  -- a verdict that there is, is answered
  answers : (b : ℕ) (r r' : Decision) (hs' ts' : List ℕ) → Decided m b hs ts r hs' ts' → (v : Verdict) → IsVerdict (product_of m) v → rounds v ≤ b → meaning r' ≡ answered v → r ≡ r'
  answers b r r' hs' ts' d v i l k = to_answer b r hs' ts' d r' v (answer_of (product_of m) b v i l) k

  -- the table that a safe verdict leaves
  module _ (b n : ℕ) (hs' ts' : List ℕ) (d : Decided m b hs ts (Ok (Safe n)) hs' ts') where
    safe_answer : answer (product_of m) b ≡ some (safe n)
    safe_answer = of_answer b (Ok (Safe n)) hs' ts' d (safe n) refl

    safe_is : IsVerdict (product_of m) (safe n)
    safe_is = (D.answer_verdict b (safe n) safe_answer).0

    table_is : view m.symbols m.states hs' ts' ≡ ranks (product_of m) n
    table_is =
        rw (heads_left_lem b (Ok (Safe n)) hs' ts' d, triples_left_lem b (Ok (Safe n)) hs' ts' d, safe_answer)
        (ranks_laid m is_valid n (drop (head_count m) hs) (drop (triple_count m) ts))

    same_heads : length hs' ≡ length hs
    same_heads =
        ap length (heads_left_lem b (Ok (Safe n)) hs' ts' d)
        ∙ length-append (heads_of m.symbols m.states (left (product_of m) b)) (drop (head_count m) hs)
        ∙ omega (arith, length_heads m.symbols m.states (left (product_of m) b), length-drop (head_count m) hs, ready.heads_there)

    same_triples : length ts' ≡ length ts
    same_triples =
        ap length (triples_left_lem b (Ok (Safe n)) hs' ts' d)
        ∙ length-append (triples_of m.symbols m.states (left (product_of m) b)) (drop (triple_count m) ts)
        ∙ omega (arith, length_triples m.symbols m.states (left (product_of m) b), length-drop (triple_count m) ts, ready.triples_there)

    still_fits : Fits m (length hs') (length ts')
    still_fits = record { valid_model = is_valid; heads_there = omega (arith, same_heads, ready.heads_there); triples_there = omega (arith, same_triples, ready.triples_there) }

    safe_table : recheck m hs' ts' ≡ answered accepted
    safe_table = (accepted_exactly m hs' ts').1 (
      still_fits,
      subst⁻¹ (λ t. T (accepts (product_of m) (present t))) table_is
          (D.safe_accepted n (omega (arith, few_rounds (safe n) safe_is, small)) safe_is),
    )

  violation_exactly : (b : ℕ) → bound (product_of m) ≤ b → (r : Decision) (hs' ts' : List ℕ) → Decided m b hs ts r hs' ts' → ((n : ℕ) × (r ≡ Ok (Violation n))) ↔ Violates (product_of m)
  violation_exactly b l r hs' ts' d = (
    λ (n, e). D.violation_exactly.0 (n, (D.answer_verdict b (violation n) (of_answer b r hs' ts' d (violation n) (ap meaning e))).0),
    λ x. let (n, i) = D.violation_exactly.1 x in (n, answers b r (Ok (Violation n)) hs' ts' d (violation n) i (omega (arith, few_rounds (violation n) i)) refl),
  )

  safe_exactly : (b : ℕ) → bound (product_of m) ≤ b → (r : Decision) (hs' ts' : List ℕ) → Decided m b hs ts r hs' ts' → ((n : ℕ) × (r ≡ Ok (Safe n))) ↔ (Violates (product_of m) → ⊥)
  safe_exactly b l r hs' ts' d = (
    λ (n, e). D.safe_exactly.0 (n, (D.answer_verdict b (safe n) (of_answer b r hs' ts' d (safe n) (ap meaning e))).0),
    λ x. let (n, i) = D.safe_exactly.1 x in (n, answers b r (Ok (Safe n)) hs' ts' d (safe n) i (omega (arith, few_rounds (safe n) i)) refl),
  )

  same_more : (b c : ℕ) → b ≤ c → (r r' : Decision) (hs' hs'' ts' ts'' : List ℕ) → Decided m b hs ts r hs' ts' → Decided m c hs ts r' hs'' ts''
      → (v : Verdict) → meaning r ≡ answered v → (r' ≡ r) × (hs'' ≡ hs') × (ts'' ≡ ts')
  same_more b c l r r' hs' hs'' ts' ts'' d d' v e =
      let (a, k) = D.answer_more b c v (of_answer b r hs' ts' d v e) l in (
        to_answer c r' hs'' ts'' d' r v a e,
        heads_left_lem c r' hs'' ts'' d' ∙ ap (λ t. heads_of m.symbols m.states t ++ drop (head_count m) hs) k ∙ sym (heads_left_lem b r hs' ts' d),
        triples_left_lem c r' hs'' ts'' d' ∙ ap (λ t. triples_of m.symbols m.states t ++ drop (triple_count m) ts) k ∙ sym (triples_left_lem b r hs' ts' d),
      )

  none_below : (b c : ℕ) → (r r' : Decision) (hs' hs'' ts' ts'' : List ℕ) → Decided m b hs ts r hs' ts' → Decided m c hs ts r' hs'' ts''
      → (v : Verdict) → meaning r ≡ answered v → c < rounds v → r' ≡ Err (Spent c)
  none_below b c r r' hs' hs'' ts' ts'' d d' v e l =
      let i = (D.answer_verdict b v (of_answer b r hs' ts' d v e)).0 in
      meaning_one r' (Err (Spent c)) (said c r' hs'' ts'' d' ∙ ap (within c) (D.answer_below c v i l))

  always_one : (b : ℕ) → bound (product_of m) ≤ b → (r : Decision) (hs' ts' : List ℕ) → Decided m b hs ts r hs' ts'
      → (v : Verdict) × (meaning r ≡ answered v) × (rounds v ≤ bound (product_of m))
  always_one b l r hs' ts' d =
      let (v, e) = D.answer_bound b l in
      (v, said b r hs' ts' d ∙ ap (within b) e, few_rounds v (D.answer_verdict b v e).0)

  pub deciding : Deciding m hs ts
  deciding = record {
    violation_exactly = violation_exactly;
    safe_exactly = safe_exactly;
    safe_accepted = safe_table;
    same_more = same_more;
    none_below = none_below;
    always_one = always_one;
    no_shallower = λ b r hs' ts' d v e. D.rounds_least v (D.answer_verdict b v (of_answer b r hs' ts' d v e)).0;
  }
