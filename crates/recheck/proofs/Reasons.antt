-- The check's answer, reason by reason, from what its code was answered. Assumes nothing.
use mathlib.Core.Bool.{Bool, true, false, not}
use mathlib.Core.List.{List}
use mathlib.Core.Path.{◌≡◌, refl, sym, ap, ap₂, ◌∙◌}
use Prim.Native.Nat.{ℕ}
use lib.ListN.{length}
use Rattle.std.specs.Prelude as code
use Rattle.product.specs.Lists.{find}
use Rattle.product.specs.Product.{Product}
use Rattle.product.specs.Facts.{Fact, head, first, pairs}
use Rattle.product.specs.Check.{closed_at, clean, fails, open_at, checked, check_answer}
use Rattle.culprit.specs.Culprit.{clean_in}
use Rattle.culprit.proofs.Found.{clean_found}
use Rattle.table.specs.declared.Size.{Size}
use Rattle.model.specs.declared.Model.{Model}
use Rattle.model.specs.declared.Shape.{Shape}
use Rattle.lent.specs.Lending.{shape_in, model_in, product_in}
use Rattle.model.specs.Model.{product_of}
use Rattle.model.proofs.Bounds.{start_state_in, start_symbol_in}
use Rattle.model.proofs.Counted.{passed, failed}
use Rattle.std.specs.Prelude.{Ok, Err}
use Rattle.fitting.specs.declared.Unfit.{Unfit}
use Rattle.fitting.specs.declared.Unfit.TheVariants.{Invalid, Short}
use Rattle.recheck.specs.declared.CheckError.TheVariants.{Refused, NoStart, Violating, Open}
use Rattle.std.specs.Result.{IsErrAnd}
use Rattle.recheck.specs.declared.Opening.{Opening}
use Rattle.fitting.specs.declared.Fit.{Fit}
use Rattle.fitting.specs.Fits.{size_of, fit_of, Fits}
use Rattle.fitting.proofs.Tested.{is_unfit, is_well, size_is, tested_well}
use Rattle.recheck.specs.Recheck.{Recheck, meaning, in_table, recheck, Sized}
use Rattle.recheck.specs.Tests.{opening_of, found_as}
use Rattle.recheck.proofs.Finding.{found_some, found_none}
use Rattle.recheck.proofs.Steps.{open_is}

module _ (p : Product) (t : Fact → Bool) where
  pub starts_not : t (first p) ≡ false → checked p t ≡ fails 1 0 0
  unfolding checked
  starts_not h = rw (h, checked)

  module _ (starts : t (first p) ≡ true) where
    pub violates : clean p t ≡ false → checked p t ≡ fails 2 0 0
    unfolding checked
    violates h = rw (starts, h, checked)

    pub opens : clean p t ≡ true → checked p t ≡ open_at (find (λ s. not (closed_at p t s)) (pairs p))
    unfolding checked
    opens h = rw (starts, h, checked)

abbrev facts : Model → (heads triples : List ℕ) → Fact → Bool
facts m hs ts = in_table (size_of m) hs ts

-- what the model and the arrays were measured as: why they are refused
module _ (m : Model) (hs ts : List ℕ) where
  refuses : (u : Unfit) → Err u ≡ fit_of m (length hs) (length ts) → meaning (Err (Refused u)) ≡ recheck m hs ts
  unfolding recheck
  refuses Invalid measured = sym (is_unfit m (length hs) (length ts) measured _ _ _)
  refuses Short measured = sym (is_unfit m (length hs) (length ts) measured _ _ _)

  -- as `?` passes it on
  pub passed_on : (u : Unfit) → Err u ≡ fit_of m (length hs) (length ts) → (r : Recheck) → IsErrAnd r (λ e. e ≡ Refused u) → meaning r ≡ recheck m hs ts
  passed_on u measured (Err e) n = rw n (refuses u measured)
  passed_on u measured (Ok x) n = absurd n

  -- or what fits; then, is the start head there, and no violating fact
  module _ {f : Fit} (measured : Ok f ≡ fit_of m (length hs) (length ts)) where
    fits : Fits m (length hs) (length ts)
    fits = is_well m (length hs) (length ts) measured

    pub sized : Sized m f.size hs ts
    sized = record { fits = fits; size_is = size_is m (length hs) (length ts) measured }

    checks : recheck m hs ts ≡ check_answer (checked (product_of m) (facts m hs ts))
    unfolding recheck
    checks = tested_well m (length hs) (length ts) fits _ _ _

    module _ {c : Bool} (start : c ≡ facts m hs ts (first (product_of m))) where
      pub has_no_start : c ≡ false → meaning (Err NoStart) ≡ recheck m hs ts
      has_no_start n = sym (checks ∙ ap check_answer (starts_not (product_of m) (facts m hs ts) (failed start n)))

      module _ (i : c ≡ true) {d : Bool} (looked : d ≡ clean_in (product_of m).final m.symbols m.states hs ts m.startstate m.startsymbol) where
        clean_is : clean (product_of m) (facts m hs ts) ≡ d
        clean_is =
            let v = fits.valid_model in
            sym (clean_found (product_of m) (product_of m).final m.states refl (λ _. refl) hs ts (start_state_in m v) (start_symbol_in m v)) ∙ sym looked

        pub has_violating : d ≡ false → meaning (Err Violating) ≡ recheck m hs ts
        has_violating n = sym (checks ∙ ap check_answer (violates (product_of m) (facts m hs ts) (passed start i) (clean_is ∙ n)))

        module _ (l : d ≡ true) {o : code.Option Opening} (found : o ≡ found_as (opening_of m (facts m hs ts))) where
          searched : recheck m hs ts ≡ check_answer (open_at (opening_of m (facts m hs ts)))
          searched = checks ∙ ap check_answer (opens (product_of m) (facts m hs ts) (passed start i) (clean_is ∙ l) ∙ ap open_at (open_is m (facts m hs ts)))

          pub is_open : {x : Opening} → o ≡ code.Some x → meaning (Err (Open x.rule x.by)) ≡ recheck m hs ts
          is_open e = sym (searched ∙ ap (λ o. check_answer (open_at o)) (found_some (opening_of m (facts m hs ts)) found e))

          pub is_accepted : o ≡ code.None → meaning (Ok tt) ≡ recheck m hs ts
          is_accepted e = sym (searched ∙ ap (λ o. check_answer (open_at o)) (found_none (opening_of m (facts m hs ts)) found e))

-- what was answered by the size that was measured is so of the model; with the shape that was read, of the lent model
module _ (cells hs ts : List ℕ) {z : Size} (sized : z ≡ size_of (model_in cells)) where
  pub found_read : {o : code.Option Opening} → o ≡ found_as (opening_of (model_in cells) (in_table z hs ts)) → o ≡ found_as (opening_of (model_in cells) (facts (model_in cells) hs ts))
  found_read e = e ∙ ap (λ z. found_as (opening_of (model_in cells) (in_table z hs ts))) sized

  module _ {s : Shape} (read : s ≡ shape_in cells) where
    pub start_read : {b : Bool} → b ≡ in_table z hs ts (head s.startstate s.startsymbol) → b ≡ facts (model_in cells) hs ts (first (product_in cells))
    unfolding model_in
    start_read e = e ∙ ap₂ (λ (z : Size) (s : Shape). in_table z hs ts (head s.startstate s.startsymbol)) sized read

    pub clean_read : {b : Bool} → b ≡ clean_in (product_in cells).final z.symbols z.states hs ts s.startstate s.startsymbol
        → b ≡ clean_in (product_in cells).final (model_in cells).symbols (model_in cells).states hs ts (model_in cells).startstate (model_in cells).startsymbol
    unfolding model_in
    clean_read e = e ∙ ap₂ (λ (z : Size) (s : Shape). clean_in (product_in cells).final z.symbols z.states hs ts s.startstate s.startsymbol) sized read
