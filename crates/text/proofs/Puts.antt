-- Runs of numbers put one after another. Assumes nothing.
use mathlib.Core.List.{List, [], ◌∷◌, ◌++◌}
use mathlib.Core.Logic.{◌⊎◌, inl, inr, ⊎_elim}
use mathlib.Core.Path.{◌≡◌, refl, sym, ap, ◌∙◌}
use Prim.Native.Nat.{ℕ, suc, ◌+◌, ◌<◌, ◌≤◌, min}
use native.Mathlib.Decide.{dec_le}
use native.Mathlib.Nat.{add-zero}
use native.Mathlib.Omega.{arith}
use lib.ListN.{length, set, length-append}
use lib.Seq.{sets, length-sets, set_out}
use Rattle.text.specs.Put.{Put}

-- past the end nothing is put
sets_out : (o : List ℕ) (at : ℕ) (s : List ℕ) → length o ≤ at → sets o at s ≡ o
sets_out o at [] h = refl
sets_out o at (b ∷ s) h = rw (set_out o at b h) (sets_out o (suc at) s (omega arith))

sets_append : (o : List ℕ) (at : ℕ) (s t : List ℕ) → sets o at (s ++ t) ≡ sets (sets o at s) (at + length s) t
sets_append o at [] t = rw add-zero
sets_append o at (b ∷ s) t = sets_append (set o at b) (suc at) s t ∙ ap (λ (k : ℕ). sets (sets (set o at b) (suc at) s) k t) (omega arith)

le_or_lt : (a b : ℕ) → (a ≤ b) ⊎ (b < a)
le_or_lt a b = split (dec_le a b)
  where
    split : Dec (a ≤ b) → (a ≤ b) ⊎ (b < a)
    split (yes h) = inl h
    split (no h) = inr (omega arith)

-- nothing is put yet
pub none_put : (o : List ℕ) (at : ℕ) {next : ℕ} → next ≡ min at (length o + 1) → Put o o at next []
none_put o at e = record { place = omega arith; cells = refl }

-- the array keeps its length, and a place is never past its end by more than one
pub put_length : {o p : List ℕ} {a b : ℕ} {s : List ℕ} → Put o p a b s → length p ≡ length o
put_length {o} {p} {a} {b} {s} x = ap length x.cells ∙ length-sets o a s

-- a run behind a run
pub then_put : {o p q : List ℕ} {a b c : ℕ} {s t : List ℕ} → Put o p a b s → Put p q b c t → Put o q a c (s ++ t)
then_put {o} {p} {q} {a} {b} {c} {s} {t} x y =
    record {
      place = omega (arith, length-append s t, put_length x, x.place, y.place);
      cells =
          y.cells ∙ ap (λ (l : List ℕ). sets l b t) x.cells
          ∙ ⊎_elim
          (λ h. ap (λ (k : ℕ). sets (sets o a s) k t) (omega (arith, x.place)))
          (λ h. sets_out (sets o a s) b t (omega (arith, x.place, length-sets o a s)) ∙ sym (sets_out (sets o a s) (a + length s) t (omega (arith, length-sets o a s))))
          (le_or_lt (a + length s) (length o + 1))
          ∙ sym (sets_append o a s t);
    }

pub as_put : {o p : List ℕ} {a b : ℕ} {s t : List ℕ} → s ≡ t → Put o p a b s → Put o p a b t
as_put e x = rw (← e) x

-- one number, in the array and past it
pub one_put : (o : List ℕ) (at b : ℕ) → at < length o → Put o (set o at b) at (at + 1) (b ∷ [])
one_put o at b h = record { place = omega arith; cells = refl }

pub one_past : (o : List ℕ) (at b : ℕ) → length o ≤ at → Put o o at (length o + 1) (b ∷ [])
one_past o at b h = record { place = omega arith; cells = sym (set_out o at b h) }

-- past the room, at the place that says so, nothing more is put
pub past_put : {o : List ℕ} {at : ℕ} (s : List ℕ) → length o < at → at ≤ length o + 1 → Put o o at at s
past_put {o} {at} s h i = record { place = omega arith; cells = sym (sets_out o at s (omega arith)) }
