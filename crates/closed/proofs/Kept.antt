-- A rule is closed exactly if the consequences of each of its steps are present. Assumes nothing.
use mathlib.Core.Bool.{Bool}
use mathlib.Core.List.{List}
use mathlib.Core.Logic.{◌↔◌}
use mathlib.Core.Path.{◌≡◌, subst, subst⁻¹}
use Prim.Native.Nat.{ℕ, ◌^◌, ◌<◌}
use lib.Dec.{T}
use Rattle.product.specs.Lists.{up_to, all, All}
use Rattle.product.specs.Product.{Rule, exit, direct, call, symbol, pushed}
use Rattle.product.specs.Facts.{Fact, head, triple}
use Rattle.product.proofs.Lists.{and_left, and_right, both, if_then, then_if, all_of, All-up_to}
use Rattle.bits.specs.Matrix.{mat, multiplied, image}
use Rattle.bits.proofs.Image.{image_lt}
use Rattle.bits.proofs.Matrix.{product_lt}
use Rattle.model.proofs.Valid.{all_below}
use Rattle.kept.specs.Kept.{head_passes, triple_passes, triples_pass, both_pass, return_passes, returns_pass, rule_kept}
use Rattle.closed.specs.Closed.{of_symbol, included, erasing, heads_there, rule_closed}
use Rattle.closed.proofs.Entries.{product_of, of_product, image_of, of_image, entry_in, in_entries, in_row}

-- the matrices have the facts t of G symbols; every triple of t ends in one of Q states
pub record Has (G Q : ℕ) (t : Fact → Bool) (ts hs : List ℕ) : Type 0 where
  pub triples : (g q e : ℕ) → g < G → mat (of_symbol ts g) q e ≡ t (triple q g e)
  pub heads : (g q : ℕ) → g < G → mat (of_symbol hs g) 0 q ≡ t (head q g)
  pub ends : (q g e : ℕ) → T (t (triple q g e)) → e < Q

module _ (G Q : ℕ) (t : Fact → Bool) where
  -- the consequences of a step from q to q' by its rule
  abbrev On : (q g q' g1 : ℕ) → Type 0
  On q g q' g1 = T (t (head q g)) → T (t (head q' g1))

  abbrev Back : (q g q' g1 : ℕ) → Type 0
  Back q g q' g1 = (e : ℕ) → T (t (triple q' g1 e)) → T (t (triple q g e))

  abbrev Follows : (q q' : ℕ) → Rule → Type 0
  Follows q q' (exit g) = T (t (triple q g q'))
  Follows q q' (direct g g1) = On q g q' g1 × Back q g q' g1
  Follows q q' (call g g1 g2) = On q g q' g1 × ((e : ℕ) → T (t (triple q' g1 e)) → On q g e g2 × Back q g e g2)

  module _ (ends : (q g e : ℕ) → T (t (triple q g e)) → e < Q) where
    on_of : (q g q' g1 : ℕ) → T (head_passes t q g q' g1) → On q g q' g1
    on_of q g q' g1 = if_then (t (head q g)) (t (head q' g1))

    back_of : (q g q' g1 : ℕ) → T (triples_pass Q t q g q' g1) → Back q g q' g1
    back_of q g q' g1 k e x = if_then (t (triple q' g1 e)) (t (triple q g e)) (all_below (triple_passes t q g q' g1) Q k e (ends q' g1 e x)) x

    both_of : (q g q' g1 : ℕ) → T (both_pass Q t q g q' g1) → On q g q' g1 × Back q g q' g1
    both_of q g q' g1 k =
        (on_of q g q' g1 (and_left (head_passes t q g q' g1) (triples_pass Q t q g q' g1) k), back_of q g q' g1 (and_right (head_passes t q g q' g1) (triples_pass Q t q g q' g1) k))

    of_kept : (q q' : ℕ) (ρ : Rule) → T (rule_kept Q t q q' ρ) → Follows q q' ρ
    of_kept q q' (exit g) k = k
    of_kept q q' (direct g g1) k = both_of q g q' g1 k
    of_kept q q' (call g g1 g2) k = (
      on_of q g q' g1 (and_left (head_passes t q g q' g1) (returns_pass Q t q g q' g1 g2) k),
      λ e x. both_of q g e g2 (if_then (t (triple q' g1 e)) (both_pass Q t q g e g2)
          (all_below (return_passes Q t q g q' g1 g2) Q (and_right (head_passes t q g q' g1) (returns_pass Q t q g q' g1 g2) k) e (ends q' g1 e x)) x),
    )

  all_up_to : (p : ℕ → Bool) → ((i : ℕ) → T (p i)) → T (all p (up_to Q))
  all_up_to p k = all_of (λ i. T (p i)) p (λ _ x. x) (up_to Q) (All-up_to (λ i. T (p i)) Q (λ i _. k i))

  both_pass_lem : (q g q' g1 : ℕ) → On q g q' g1 → Back q g q' g1 → T (both_pass Q t q g q' g1)
  both_pass_lem q g q' g1 a b =
      both (head_passes t q g q' g1) (triples_pass Q t q g q' g1) (then_if (t (head q g)) (t (head q' g1)) a)
      (all_up_to (triple_passes t q g q' g1) (λ e. then_if (t (triple q' g1 e)) (t (triple q g e)) (b e)))

  is_kept : (q q' : ℕ) (ρ : Rule) → Follows q q' ρ → T (rule_kept Q t q q' ρ)
  is_kept q q' (exit g) k = k
  is_kept q q' (direct g g1) (a, b) = both_pass_lem q g q' g1 a b
  is_kept q q' (call g g1 g2) (a, b) =
      both (head_passes t q g q' g1) (returns_pass Q t q g q' g1 g2) (then_if (t (head q g)) (t (head q' g1)) a)
      (all_up_to (return_passes Q t q g q' g1 g2)
      (λ e. then_if (t (triple q' g1 e)) (both_pass Q t q g e g2) (λ x. let (c, d) = b e x in both_pass_lem q g e g2 c d)))

  -- by the matrices
  module _ (ts hs : List ℕ) (H : Has G Q t ts hs) (s : ℕ) where
    abbrev After : (g : ℕ) → ℕ
    After g = image (of_symbol hs g) s

    abbrev Whole : (ρ : Rule) → Type 0
    Whole ρ = (symbol ρ < G) × All (λ g. g < G) (pushed ρ)

    triple_of : (g q e : ℕ) → g < G → T (mat (of_symbol ts g) q e) → T (t (triple q g e))
    triple_of g q e l = subst T (H.triples g q e l)

    of_triple : (g q e : ℕ) → g < G → T (t (triple q g e)) → T (mat (of_symbol ts g) q e)
    of_triple g q e l = subst⁻¹ T (H.triples g q e l)

    head_of : (g q : ℕ) → g < G → T (mat (of_symbol hs g) 0 q) → T (t (head q g))
    head_of g q l = subst T (H.heads g q l)

    of_head : (g q : ℕ) → g < G → T (t (head q g)) → T (mat (of_symbol hs g) 0 q)
    of_head g q l = subst⁻¹ T (H.heads g q l)

    -- where a step from a head that is present ends
    landed : (g q q' : ℕ) → g < G → T (mat s q q') → T (t (head q g)) → T (mat (After g) 0 q')
    landed g q q' l k h = image_of (of_symbol hs g) s q' q (of_head g q l h) k

    follows : (ρ : Rule) → Whole ρ → T (included (erasing ts s ρ) (of_symbol ts (symbol ρ))) → T (heads_there ts hs (After (symbol ρ)) ρ)
        → (q q' : ℕ) → T (mat s q q') → Follows q q' ρ
    follows (exit g) (i, _) a b q q' k = triple_of g q q' i (entry_in s (of_symbol ts g) a q q' k)
    follows (direct g g1) (i, (j, _)) a b q q' k = (
      λ h. head_of g1 q' j (entry_in (After g) (of_symbol hs g1) b 0 q' (landed g q q' i k h)),
      λ e x. triple_of g q e i (entry_in (multiplied s (of_symbol ts g1)) (of_symbol ts g) a q e (product_of s (of_symbol ts g1) q e q' k (of_triple g1 q' e j x))),
    )
    follows (call g g1 g2) (i, (j, (l, _))) a b q q' k =
        let in1 : T (included (After g) (of_symbol hs g1)) = and_left (included (After g) (of_symbol hs g1)) (included (image (After g) (of_symbol ts g1)) (of_symbol hs g2)) b in
        let in2 : T (included (image (After g) (of_symbol ts g1)) (of_symbol hs g2)) = and_right (included (After g) (of_symbol hs g1)) (included (image (After g) (of_symbol ts g1)) (of_symbol hs g2)) b in (
          λ h. head_of g1 q' j (entry_in (After g) (of_symbol hs g1) in1 0 q' (landed g q q' i k h)),
          λ e x. (
            λ h. head_of g2 e l (entry_in (image (After g) (of_symbol ts g1)) (of_symbol hs g2) in2 0 e
                (image_of (After g) (of_symbol ts g1) e q' (landed g q q' i k h) (of_triple g1 q' e j x))),
            λ f y. triple_of g q f i (entry_in (multiplied s (multiplied (of_symbol ts g1) (of_symbol ts g2))) (of_symbol ts g) a q f
                (product_of s (multiplied (of_symbol ts g1) (of_symbol ts g2)) q f q' k
                (product_of (of_symbol ts g1) (of_symbol ts g2) q' f e (of_triple g1 q' e j x) (of_triple g2 e f l y)))),
          ),
        )

    module _ (small : s < 2 ^ 64) where
      erased : (ρ : Rule) → Whole ρ → ((q q' : ℕ) → T (mat s q q') → Follows q q' ρ) → T (included (erasing ts s ρ) (of_symbol ts (symbol ρ)))
      erased (exit g) (i, _) k = in_entries s (of_symbol ts g) small (λ q q' x. of_triple g q q' i (k q q' x))
      erased (direct g g1) (i, (j, _)) k =
          in_entries (multiplied s (of_symbol ts g1)) (of_symbol ts g) (product_lt s (of_symbol ts g1)) λ q e x.
          let (q', a, b) = of_product s (of_symbol ts g1) q e x in
          of_triple g q e i ((k q q' a).1 e (triple_of g1 q' e j b))
      erased (call g g1 g2) (i, (j, (l, _))) k =
          in_entries (multiplied s (multiplied (of_symbol ts g1) (of_symbol ts g2))) (of_symbol ts g) (product_lt s (multiplied (of_symbol ts g1) (of_symbol ts g2))) λ q f x.
          let (q', a, b) = of_product s (multiplied (of_symbol ts g1) (of_symbol ts g2)) q f x in
          let (e, c, d) = of_product (of_symbol ts g1) (of_symbol ts g2) q' f b in
          of_triple g q f i (((k q q' a).1 e (triple_of g1 q' e j c)).1 f (triple_of g2 e f l d))

    entered : (g g1 : ℕ) → g < G → g1 < G → ((q q' : ℕ) → T (mat s q q') → On q g q' g1) → T (included (After g) (of_symbol hs g1))
    entered g g1 i j k =
        in_row (After g) (of_symbol hs g1) (image_lt (of_symbol hs g) s) λ q' x.
        let (q, a, b) = of_image (of_symbol hs g) s q' x in
        of_head g1 q' j (k q q' b (head_of g q i a))

    there : (ρ : Rule) → Whole ρ → ((q q' : ℕ) → T (mat s q q') → Follows q q' ρ) → T (heads_there ts hs (After (symbol ρ)) ρ)
    there (exit g) w k = tt
    there (direct g g1) (i, (j, _)) k = entered g g1 i j (λ q q' x. (k q q' x).0)
    there (call g g1 g2) (i, (j, (l, _))) k =
        both (included (After g) (of_symbol hs g1)) (included (image (After g) (of_symbol ts g1)) (of_symbol hs g2))
        (entered g g1 i j (λ q q' x. (k q q' x).0))
        (in_row (image (After g) (of_symbol ts g1)) (of_symbol hs g2) (image_lt (After g) (of_symbol ts g1)) λ e x.
        let (q', a, b) = of_image (After g) (of_symbol ts g1) e x in
        let (q, c, d) = of_image (of_symbol hs g) s q' a in
        of_head g2 e l (((k q q' d).1 e (triple_of g1 q' e j b)).0 (head_of g q i c)))

    -- THE RULE is closed exactly if what follows from each of its steps is there
    pub closed_exactly : s < 2 ^ 64 → (ρ : Rule) → symbol ρ < G → All (λ g. g < G) (pushed ρ)
        → T (rule_closed ts hs s ρ) ↔ ((q q' : ℕ) → T (mat s q q') → T (rule_kept Q t q q' ρ))
    unfolding rule_closed
    closed_exactly small ρ i j = (
      λ c q q' k. is_kept q q' ρ (follows ρ (i, j)
          (and_left (included (erasing ts s ρ) (of_symbol ts (symbol ρ))) (heads_there ts hs (After (symbol ρ)) ρ) c)
          (and_right (included (erasing ts s ρ) (of_symbol ts (symbol ρ))) (heads_there ts hs (After (symbol ρ)) ρ) c) q q' k),
      λ k. let f : (q q' : ℕ) → T (mat s q q') → Follows q q' ρ = λ q q' x. of_kept H.ends q q' ρ (k q q' x) in
          both (included (erasing ts s ρ) (of_symbol ts (symbol ρ))) (heads_there ts hs (After (symbol ρ)) ρ) (erased small ρ (i, j) f) (there ρ (i, j) f),
    )
