-- What a reading leaves, by how it ends; and the bytes that stand for what was read so far. Assumes nothing.
use mathlib.Core.Bool.{false}
use mathlib.Core.List.{List, [], ◌∷◌}
use mathlib.Core.Path.{◌≡◌, refl, sym, ap, ◌∙◌, subst⁻¹}
use Prim.Native.Nat.{ℕ}
use lib.ListN.{replicate, length-replicate}
use lib.Seq.{sets}
use borrow.Author.Tests.{eq-eqb, ne_eqb}
use Rattle.product.specs.Answer.{Answer, refused}
use Rattle.model.specs.declared.Model.{Model}
use Rattle.lent.specs.Lending.{bytes_of, laid, packed, Sized}
use Rattle.lent.proofs.Packed.{last_put}
use Rattle.std.specs.Prelude.{Ok, Err}
use Rattle.line.specs.declared.fault.Fault.TheVariants.{Misplaced}
use Rattle.line.specs.declared.fault.TextError.{TextError}
use Rattle.line.specs.declared.fault.TextError.TheVariants.{Line}
use Rattle.line.specs.Fault.{text_number, text_line}
use Rattle.draft.specs.declared.Outline.{Outline}
use Rattle.draft.specs.Draft.{Draft}
use Rattle.draft.specs.Written.{Stands}
use Rattle.reader.specs.Reading.{empty, model_of, LinesRead, Read}
use Rattle.reader.specs.Text.{no_outline, last_of, fresh, finished}

-- the empty record has its room, and is all zeros
pub sized_empty : Sized empty
unfolding empty
sized_empty = record {
  rules = length-replicate {A = ℕ} 1024 0;
  moves = length-replicate {A = ℕ} 384 0;
  shows = length-replicate 512 false;
  finals = length-replicate 8 false;
}

zeros_laid : replicate 1936 0 ≡ laid empty (replicate 8 0)
unfolding empty laid bytes_of
zeros_laid = refl

pub zeros_packed : replicate 1936 0 ≡ packed empty
unfolding empty laid bytes_of
zeros_packed = refl

-- lines that are refused
pub refused_read : {a : Answer Model} (e : TextError) {cells : List ℕ} → a ≡ refused (text_number e) (text_line e ∷ []) → LinesRead a (Err e) cells
refused_read e {cells} is = subst⁻¹ (λ a. LinesRead a (Err e) cells) is (record { answer = refl; bytes = tt })

-- a text that is refused is cleared, and one that is accepted is not
pub cleared : {a : Answer Model} (e : TextError) {cells cells' : List ℕ} → LinesRead a (Err e) cells → cells' ≡ replicate 1936 0 → Read a (Err e) cells'
cleared e x zeros = record { answer = x.answer; bytes = zeros ∙ zeros_packed ∙ ap (λ a. packed (model_of a)) x.answer }

pub uncleared : {a : Answer Model} {cells : List ℕ} → LinesRead a (Ok tt) cells → Read a (Ok tt) cells
uncleared x = record { answer = x.answer; bytes = x.bytes }

-- before the first line
pub first_stands : {o : Outline} {cells : List ℕ} → o ≡ no_outline → cells ≡ replicate 1936 0 → Stands (replicate 8 0) o cells fresh
unfolding empty
first_stands o c = record { outline = o; bytes = c ∙ zeros_laid; sized = sized_empty }

-- after the last line
module _ {o : Outline} {cells : List ℕ} (d : Draft) (s : Stands (replicate 8 0) o cells d) where
  started_is : d.started ≡ o.counts.started
  started_is = sym (ap (λ (o : Outline). o.counts.started) s.outline)

  pub no_start : o.counts.started ≡ 0 → {cells' : List ℕ} → LinesRead (finished d) (Err (Line Misplaced 0)) cells'
  no_start a = refused_read (Line Misplaced 0) (rw (eq-eqb d.started 0 (started_is ∙ a)))

  pub accepted : (o.counts.started ≡ 0 → ⊥) → {cells' : List ℕ} → cells' ≡ sets cells 1928 (last_of o) → LinesRead (finished d) (Ok tt) cells'
  accepted a e =
      rw (ne_eqb d.started 0 (λ z. a (sym started_is ∙ z)))
      (record {
        answer = refl;
        bytes = e ∙ rw (s.bytes, s.outline) (last_put d.model s.sized (replicate 8 0) _ (length-replicate {A = ℕ} 8 0) refl);
      })
