-- The header and the whole listing as they are put, and what the public call answers in each case. Assumes nothing.
use mathlib.Core.Path.{◌≡◌, refl, ap, ap₂, sym, ◌∙◌, subst⁻¹}
use mathlib.Core.Bool.{true, false, cond}
use mathlib.Core.List.{List, [], ◌∷◌, ◌++◌}
use Prim.Native.Nat.{ℕ, zero, suc, ◌<◌, ◌≤◌}
use native.Mathlib.Omega.{arith}
use lib.Dec.{eqb}
use lib.ListN.{length, get_or, take, length-append}
use Rattle.std.proofs.lemmas.List.{length-take-le}
use borrow.Author.Tests.{lt-ltb, le-ltb}
use Rattle.text.specs.Split.{pick}
use Rattle.product.specs.Answer.{Answer, answered, refused}
use Rattle.product.specs.Table.{absent}
use Rattle.product.proofs.Answer.{apart}
use Rattle.product.proofs.Lists.{T_true, over_suc}
use Rattle.listingline.specs.Line.{safe}
use Rattle.table.specs.declared.Size.{Size}
use Rattle.model.specs.declared.Model.{Model}
use Rattle.model.specs.Valid.{valid}
use Rattle.model.proofs.Valid.{valid_sizes}
use Rattle.printing.specs.declared.Kind.TheVariants.{Head, Triple}
use Rattle.printing.specs.declared.Written.TheVariants.{Bytes, Cut}
use Rattle.fitting.specs.declared.Unfit.{Unfit}
use Rattle.fitting.specs.declared.Unfit.TheVariants.{Invalid, Short}
use Rattle.std.specs.Prelude.{Ok, Err}
use Rattle.std.specs.Result.{IsErrAnd}
use Rattle.printing.specs.Listing.{line_bytes, present_in, cells_bytes, header_bytes, listing_bytes}
use Rattle.printing.specs.Writing.{WriteAnswer, Listed, bytes, cut, meaning, Writes, Rows, Whole, bytes_of, fitted}
use Rattle.fitting.specs.declared.Fit.{Fit}
use Rattle.fitting.specs.Fits.{size_of, fit_of, Fits}
use Rattle.fitting.proofs.Tested.{cells_fit, heads_are, triples_are, size_is, is_unfit, is_well, tested_well}
use Rattle.printing.proofs.Bytes.{line_short}
use Rattle.printing.proofs.Front.{listing_cut}
use Rattle.text.specs.Put.{Put}
use Rattle.text.proofs.Puts.{as_put, then_put, put_length}

-- no more cells are present than there are
pub present_few : (cells : List ℕ) (n : ℕ) → length (present_in cells n) ≤ n
unfolding present_in
present_few cells zero = omega arith
present_few cells (suc n) =
    rw (over_suc n (λ i. pick (eqb (get_or cells i 0) absent) [] (i ∷ [])))
    (omega (arith, length-append (present_in cells n) (pick (eqb (get_or cells n 0) absent) [] (n ∷ [])), present_few cells n, one (eqb (get_or cells n 0) absent)))
  where
    one : (t : _) → length (pick t [] (n ∷ [])) ≤ 1
    one true = omega arith
    one false = omega arith

-- the cells of a whole table
module _ {size : Size} (hs ts : List ℕ) (w : Whole size (length hs) (length ts)) where
  pub heads_rows : Rows size (length hs)
  heads_rows = record { some_symbol = w.some_symbol; some_state = w.some_state; few = w.counts.heads_few }

  pub triples_rows : Rows size (length ts)
  triples_rows = record { some_symbol = w.some_symbol; some_state = w.some_state; few = w.counts.triples_few }

  pub listing_put : (rounds : ℕ) {o p q r : List ℕ} {a b c d : ℕ} → Put o p a b (header_bytes rounds hs (length hs) ts (length ts))
      → Put p q b c (cells_bytes Head size.symbols size.states hs (length hs)) → Put q r c d (cells_bytes Triple size.symbols size.states ts (length ts))
      → Put o r a d (listing_bytes size.symbols size.states rounds hs ts)
  unfolding listing_bytes
  listing_put rounds x y z =
      as_put (ap₂ (λ h t. header_bytes rounds hs h ts t ++ cells_bytes Head size.symbols size.states hs h ++ cells_bytes Triple size.symbols size.states ts t) w.heads_are w.triples_are)
      (then_put (then_put x y) z)

module _ (rounds : ℕ) (hs : List ℕ) (h : ℕ) (ts : List ℕ) (t : ℕ) where
  pub header_put : {o p : List ℕ} {a b i k : ℕ} → i ≡ length (present_in hs h) → k ≡ length (present_in ts t)
      → Put o p a b (line_bytes safe (rounds ∷ i ∷ k ∷ [])) → Put o p a b (header_bytes rounds hs h ts t)
  unfolding header_bytes
  header_put e f x = rw (← e, ← f) x

  pub header_short : rounds < 65536 → h ≤ 2048 → t ≤ 2048 → length (header_bytes rounds hs h ts t) ≤ 23
  unfolding header_bytes
  header_short r i k = omega (arith, line_short safe (rounds ∷ length (present_in hs h) ∷ length (present_in ts t) ∷ []) at)
    where
      at : (j : ℕ) → get_or (rounds ∷ length (present_in hs h) ∷ length (present_in ts t) ∷ []) j 0 < 65536
      at zero = r
      at (suc zero) = omega (arith, present_few hs h)
      at (suc (suc zero)) = omega (arith, present_few ts t)
      at (suc (suc (suc j))) = omega arith

-- the answer that has a meaning
abbrev meant : Answer Listed → WriteAnswer
meant (answered (bytes n)) = Ok (Bytes n)
meant (answered cut) = Ok Cut
meant (refused n vs) = cond (eqb n 6) (Err Invalid) (Err Short)

meant_meaning : (r : WriteAnswer) → meant (meaning r) ≡ r
meant_meaning (Err Invalid) = refl
meant_meaning (Err Short) = refl
meant_meaning (Ok (Bytes n)) = refl
meant_meaning (Ok Cut) = refl

pub meaning_one : (r r' : WriteAnswer) → meaning r ≡ meaning r' → r ≡ r'
meaning_one = apart meant meant_meaning

-- the public call: why a model and its arrays are refused, as `?` passes it on
module _ (m : Model) (rounds : ℕ) (hs ts out : List ℕ) where
  pub passed_on : (u : Unfit) → Err u ≡ fit_of m (length hs) (length ts) → (r : WriteAnswer) → IsErrAnd r (λ e. e ≡ u) → Writes m rounds hs ts out out r
  passed_on Invalid e (Err x) n = rw n (record { answer = sym (is_unfit m (length hs) (length ts) e _ _ _); leaves = sym (is_unfit m (length hs) (length ts) e _ _ _) })
  passed_on Short e (Err x) n = rw n (record { answer = sym (is_unfit m (length hs) (length ts) e _ _ _); leaves = sym (is_unfit m (length hs) (length ts) e _ _ _) })
  passed_on Invalid e (Ok x) n = absurd n
  passed_on Short e (Ok x) n = absurd n

  -- else the listing is put
  module _ {f : Fit} (e : Ok f ≡ fit_of m (length hs) (length ts)) where
    fits : Fits m (length hs) (length ts)
    fits = is_well m (length hs) (length ts) e

    -- the arrays have as many cells
    pub heads_within : f.heads ≤ length hs
    heads_within = omega (arith, heads_are m (length hs) (length ts) e, fits.heads_there)

    pub triples_within : f.triples ≤ length ts
    triples_within = omega (arith, triples_are m (length hs) (length ts) e, fits.triples_there)

    -- and are cut to them
    abbrev heads_cut : List ℕ
    heads_cut = take f.heads hs

    abbrev triples_cut : List ℕ
    triples_cut = take f.triples ts

    whole_of : Whole (size_of m) f.heads f.triples
    whole_of =
        let w = fits in
        let s = valid_sizes m w.valid_model in
        let c = cells_fit m (T_true (valid m) w.valid_model) in
        let a = heads_are m (length hs) (length ts) e in
        let b = triples_are m (length hs) (length ts) e in record {
          some_symbol = s.some_symbol;
          some_state = s.some_state;
          counts = record { heads_few = omega (arith, c.heads); triples_few = omega (arith, c.triples) };
          heads_are = a;
          triples_are = b;
        }

    -- by the size that was measured
    pub whole : Whole f.size (length heads_cut) (length triples_cut)
    whole =
        subst⁻¹ (λ z. Whole z (length heads_cut) (length triples_cut)) (size_is m (length hs) (length ts) e)
        (subst⁻¹ (λ h. Whole (size_of m) h (length triples_cut)) (length-take-le f.heads hs heads_within)
        (subst⁻¹ (λ t. Whole (size_of m) f.heads t) (length-take-le f.triples ts triples_within) whole_of))

    pub put_whole : {after : List ℕ} {n : ℕ} → Put out after 0 n (listing_bytes f.size.symbols f.size.states rounds heads_cut triples_cut)
        → Put out after 0 n (bytes_of m rounds hs ts)
    put_whole {after} {n} x =
        as_put
        (ap (λ (z : Size). listing_bytes z.symbols z.states rounds heads_cut triples_cut) (size_is m (length hs) (length ts) e)
        ∙ listing_cut m.symbols m.states rounds hs ts whole_of.heads_are whole_of.triples_are heads_within triples_within)
        x

    module _ {after : List ℕ} {n : ℕ} (x : Put out after 0 n (bytes_of m rounds hs ts)) where
      writes : {w : WriteAnswer} → meaning w ≡ answered (fitted (length (bytes_of m rounds hs ts)) (length out)) → Writes m rounds hs ts out after w
      writes a = record { answer = a ∙ sym (tested_well m (length hs) (length ts) fits _ _ _); leaves = x.cells ∙ sym (tested_well m (length hs) (length ts) fits _ _ _) }

      pub all_writes : n ≤ length after → Writes m rounds hs ts out after (Ok (Bytes n))
      all_writes l =
          let k : length (bytes_of m rounds hs ts) ≡ n = omega (arith, x.place, put_length x) in
          let h : length (bytes_of m rounds hs ts) ≤ length out = omega (arith, x.place, put_length x) in
          writes (rw (le-ltb _ _ h, k))

      pub cut_writes : length after < n → Writes m rounds hs ts out after (Ok Cut)
      cut_writes l =
          let h : length out < length (bytes_of m rounds hs ts) = omega (arith, x.place, put_length x) in
          writes (rw (lt-ltb _ _ h))
