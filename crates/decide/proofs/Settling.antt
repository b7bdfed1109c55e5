-- The classes of a set, settled one after another. Assumes nothing.
use mathlib.Core.Bool.{false, ◌||◌}
use mathlib.Core.List.{List}
use mathlib.Core.Path.{◌≡◌, refl, sym, ap, ap₂, ◌∙◌, subst, subst⁻¹}
use Prim.Native.Nat.{ℕ}
use lib.ListN.{length, get_or}
use lib.Bits.{bit_or}
use Rattle.table.specs.declared.Size.{Size}
use Rattle.bits.specs.Matrix.{multiplied}
use Rattle.steps.specs.Steps.{symbol_of}
use Rattle.decide.specs.Sets.{chosen, Taken}
use Rattle.decide.specs.Stamp.{of_triples, Entries, alone}
use Rattle.decide.specs.Take.{Took, Room, Fits, given_by, from_class, from_classes}
use Rattle.decide.proofs.Members.{or_false, among_picked, among_none}
use Rattle.decide.proofs.Gathered.{or_assoc}
use Rattle.decide.proofs.Taking.{took_none, took_then, took_alike, room_after}

-- one class
module _ (c : ℕ) (tg by : List ℕ) {g m : ℕ} (g-is : g ≡ symbol_of c) (m-is : m ≡ multiplied (get_or tg c 0) (get_or by c 0)) where
  pub settle_in : {z : Size} → Fits of_triples z (symbol_of c) (given_by tg by c) → Fits of_triples z g m
  unfolding given_by
  settle_in {z} f = subst⁻¹ (λ m. Fits of_triples z g m) m-is (subst⁻¹ (λ g. Fits of_triples z g (given_by tg by c)) g-is f)

  pub settle_is : {z : Size} {k w : ℕ} {e ts e' ts' : List ℕ} → Took of_triples z k (alone g m) e ts w e' ts' → Took of_triples z k (from_class tg by c) e ts w e' ts'
  unfolding from_class given_by
  settle_is {z} {k} {w} {e} {ts} {e'} {ts'} = subst (λ n. Took of_triples z k n e ts w e' ts') (ap₂ alone g-is m-is)

-- what is left to settle, with what is done, makes what was asked
pub record Left (z : Size) (k : ℕ) (t tg by e₀ ts₀ left : List ℕ) (w : ℕ) (e ts : List ℕ) : Type 0 where
  pub long : length left ≡ 4
  pub done : Entries
  pub took : Took of_triples z k done e₀ ts₀ w e ts
  pub all : (g q x : ℕ) → done g q x || from_classes tg by left g q x ≡ from_classes tg by t g q x

module _ {z : Size} {k : ℕ} {t tg by e₀ ts₀ : List ℕ} where
  pub left_first : {left : List ℕ} → left ≡ t → length t ≡ 4 → Left z k t tg by e₀ ts₀ left 0 e₀ ts₀
  left_first i l = rw i (record {
    long = l;
    done = λ g q x. false;
    took = took_none of_triples z k (λ g q x. false) e₀ ts₀ (λ g q x t. absurd t);
    all = λ g q x. refl;
  })

  pub left_room : {left : List ℕ} {w : ℕ} {e ts : List ℕ} → Left z k t tg by e₀ ts₀ left w e ts → Room of_triples z e₀ ts₀ → Room of_triples z e ts
  left_room l = room_after l.took

  pub left_next : {left left' : List ℕ} {w w' c : ℕ} {e ts e' ts' : List ℕ} → Taken left c left' → Left z k t tg by e₀ ts₀ left w e ts
      → Took of_triples z k (from_class tg by c) e ts w' e' ts' → Left z k t tg by e₀ ts₀ left' (bit_or w w') e' ts'
  unfolding from_classes
  left_next {left} {left'} {w} {w'} {c} p l s = record {
    long = p.long;
    done = λ g q x. l.done g q x || from_class tg by c g q x;
    took = took_then l.took s;
    all = λ g q x.
        sym (or_assoc (l.done g q x) (from_class tg by c g q x) (from_classes tg by left' g q x))
        ∙ ap (λ b. l.done g q x || b) (sym (among_picked left (λ c. from_class tg by c g q x) p))
        ∙ l.all g q x;
  }

  pub left_last : {left : List ℕ} {w : ℕ} {e ts : List ℕ} → ((r : ℕ) → chosen left r ≡ false) → Left z k t tg by e₀ ts₀ left w e ts
      → Took of_triples z k (from_classes tg by t) e₀ ts₀ w e ts
  unfolding from_classes
  left_last {left} p l =
      took_alike (λ g q x. or_false (l.done g q x) ∙ ap (λ b. l.done g q x || b) (sym (among_none left (λ c. from_class tg by c g q x) p)) ∙ l.all g q x) l.took
