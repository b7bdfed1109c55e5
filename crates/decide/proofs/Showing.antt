-- The heads that rules give: of one, and of all in a set; and the rows taken in. Assumes nothing.
use mathlib.Core.Bool.{Bool, true, false, not, ◌&&◌, ◌||◌}
use mathlib.Core.List.{List}
use mathlib.Core.Logic.{◌⊎◌, inl, inr}
use mathlib.Core.Path.{◌≡◌, refl, sym, ap, ap₂, ◌∙◌, subst, subst⁻¹}
use Prim.Native.Nat.{ℕ, zero, suc, ◌+◌, ◌*◌, ◌%◌, ◌^◌, ◌<◌}
use native.Mathlib.Nat.{zero-add}
use native.Mathlib.Omega.{arith}
use native.Mathlib.Decide.{ℕ_discrete}
use lib.Dec.{T, eqb, eqb→eq}
use borrow.Author.Tests.{eq-eqb, ne_eqb, lt-ltb}
use lib.Bits.{bit_or}
use lib.ListN.{length, length-set, get_or, set}
use lib.Seq.{get_or-set_same, get_or-set_other}
use Rattle.product.proofs.Lists.{and_left, and_right, or_cases}
use Rattle.table.specs.declared.Size.{Size}
use Rattle.bits.specs.Bit.{bit}
use Rattle.lent.specs.Lending.{model_in}
use Rattle.steps.specs.Steps.{class_of, symbol_of, states_after}
use Rattle.bits.specs.Matrix.{mat, mats, some, passed, image}
use Rattle.bits.proofs.Bit.{bit_or_lem, bit_zero}
use Rattle.bits.proofs.Set.{bit_pow, one_shifted}
use Rattle.bits.specs.Ones.{Lowest}
use Rattle.bits.proofs.Some.{bit_taken, bits_left}
use Rattle.bits.proofs.Image.{image_at}
use Rattle.steps.specs.declared.Row.{Row}
use Rattle.steps.proofs.Rows.{class_at_lem}
use Rattle.steps.specs.declared.Kind.{Kind}
use Rattle.steps.specs.declared.Kind.TheVariants.{Exit, Direct, Call}
use Rattle.steps.specs.Rows.{kind_of, kind_at, class_at, over_at, under_at, RowAt}
use Rattle.decide.specs.Sets.{chosen, Taken}
use Rattle.decide.specs.Stamp.{of_heads, Entries, alone}
use Rattle.decide.specs.Gather.{Empty}
use Rattle.decide.specs.Take.{Took, Room, Fits}
use Rattle.decide.specs.Show.{landing, shown_by, shown, shown_all, Shows, RowsCover, ShowsAll, RowsFit, SettlesRows}
use Rattle.decide.proofs.Members.{or_false, among_picked, among_none}
use Rattle.decide.proofs.Gathered.{or_assoc, mat_none}
use Rattle.decide.proofs.Below.{some_alike}
use Rattle.decide.proofs.Taking.{took_none, took_then, took_alike, room_after}

off_left : (a b : Bool) → a || b ≡ false → a ≡ false
off_left false b x = refl
off_left true b x = absurd (subst T x tt)

off_right : (a b : Bool) → a || b ≡ false → b ≡ false
off_right false b x = x
off_right true b x = absurd (subst T x tt)

-- no bits, those of one row, and some after others
shows_none : (m : ℕ → ℕ → Bool) (nh : List ℕ) → ((g x : ℕ) → m g x ≡ false) → Shows m nh 0 nh
shows_none m nh k = record {
  as_long = refl;
  rows = λ g x. or_false (bit (get_or nh g 0) x) ∙ ap (λ b. bit (get_or nh g 0) x || b) (sym (k g x));
  low = λ g t. absurd (subst T (bit_zero g) t);
  others = λ g _. refl;
}

pub shows_one : (g v : ℕ) (nh : List ℕ) → g < 32 → length nh ≡ 32
    → Shows (λ g' x. eqb g g' && bit v x) nh ((1 * 2 ^ g) % 2 ^ 64) (set nh g (bit_or (get_or nh g 0) v))
shows_one g v nh l long = record {
  as_long = length-set nh g (bit_or (get_or nh g 0) v);
  rows = λ g' x. at g' x (ℕ_discrete g g');
  low = λ g' t. subst (λ n. n < 32) (eqb→eq g g' (subst T (set_bit g') t)) l;
  others = λ g' x. get_or-set_other nh g g' (bit_or (get_or nh g 0) v) 0 (λ y. subst T (sym (set_bit g') ∙ x) (subst⁻¹ T (eq-eqb g g' (sym y)) tt));
}
  where
    set_bit : (x : ℕ) → bit ((1 * 2 ^ g) % 2 ^ 64) x ≡ eqb g x
    set_bit x = ap (λ n. bit n x) (one_shifted 64 g (omega arith)) ∙ bit_pow g x

    at : (g' x : ℕ) → Dec (g ≡ g') → bit (get_or (set nh g (bit_or (get_or nh g 0) v)) g' 0) x ≡ bit (get_or nh g' 0) x || (eqb g g' && bit v x)
    at g' x (yes y) =
        subst (λ g'. bit (get_or (set nh g (bit_or (get_or nh g 0) v)) g' 0) x ≡ bit (get_or nh g' 0) x || (eqb g g' && bit v x)) y
        (rw (eq-eqb g g refl) (ap (λ n. bit n x) (get_or-set_same nh g (bit_or (get_or nh g 0) v) 0 (omega arith)) ∙ bit_or_lem (get_or nh g 0) v x))
    at g' x (no y) =
        rw (ne_eqb g g' y) (ap (λ n. bit n x) (get_or-set_other nh g g' (bit_or (get_or nh g 0) v) 0 (λ z. y (sym z))) ∙ or_false (bit (get_or nh g' 0) x))

shows_then : {m m' : ℕ → ℕ → Bool} {a b c : List ℕ} {t t' : ℕ} → Shows m a t b → Shows m' b t' c → Shows (λ g x. m g x || m' g x) a (bit_or t t') c
shows_then {m} {m'} {a} {b} {c} {t} {t'} s u = record {
  as_long = u.as_long ∙ s.as_long;
  rows = λ g x. u.rows g x ∙ ap (λ b. b || m' g x) (s.rows g x) ∙ sym (or_assoc (bit (get_or a g 0) x) (m g x) (m' g x));
  low = λ g x. go g (or_cases (bit t g) (bit t' g) (subst T (bit_or_lem t t' g) x));
  others = λ g x. u.others g (off_right (bit t g) (bit t' g) (sym (bit_or_lem t t' g) ∙ x)) ∙ s.others g (off_left (bit t g) (bit t' g) (sym (bit_or_lem t t' g) ∙ x));
}
  where
    go : (g : ℕ) → T (bit t g) ⊎ T (bit t' g) → g < 32
    go g (inl x) = s.low g x
    go g (inr x) = u.low g x

shows_alike : (m m' : ℕ → ℕ → Bool) {a b : List ℕ} {t : ℕ} → ((g x : ℕ) → m g x ≡ m' g x) → Shows m a t b → Shows m' a t b
shows_alike m m' {a} k s = record {
  as_long = s.as_long;
  rows = λ g x. s.rows g x ∙ ap (λ b. bit (get_or a g 0) x || b) (k g x);
  low = s.low;
  others = s.others;
}

pub land_is : (rs tg hd : List ℕ) (i c g v : ℕ) → i < 256 → c ≡ class_of (model_in rs) i → g ≡ symbol_of c → v ≡ states_after (model_in rs) tg i (get_or hd g 0) → v ≡ landing tg hd (class_at rs i)
unfolding landing states_after
land_is rs tg hd i c g v h c-is g-is v-is =
    v-is ∙ ap₂ (λ g c. image (get_or hd g 0) (get_or tg c 0)) (g-is ∙ ap symbol_of (c-is ∙ class_at_lem rs i)) (class_at_lem rs i)

some_off : (n : ℕ) (f : ℕ → Bool) → ((k : ℕ) → f k ≡ false) → some n f ≡ false
some_off zero f h = refl
some_off (suc n) f h = ap₂ ◌||◌ (some_off n f h) (h n)

off_and : (a : Bool) → a && false ≡ false
off_and true = refl
off_and false = refl

-- a kind that is neither of the others is a call
pub other_call : (kind : Kind) → (kind ≡ Exit → ⊥) → (kind ≡ Direct → ⊥) → kind ≡ Call
other_call Exit h k = absurd (h refl)
other_call Direct h k = absurd (k refl)
other_call Call h k = refl

-- a rule whose steps end nowhere
nowhere : (kind : Kind) (over under : ℕ) (e : List ℕ) (l : ℕ → Bool) → ((x : ℕ) → l x ≡ false) → (g x : ℕ) → shown_by kind over under e l g x ≡ false
nowhere Exit over under e l h g x = refl
nowhere Direct over under e l h g x = ap (λ b. eqb over g && b) (h x) ∙ off_and (eqb over g)
nowhere Call over under e l h g x =
    ap₂ ◌||◌ (ap (λ b. eqb over g && b) (h x) ∙ off_and (eqb over g))
    (ap (λ b. eqb under g && b) (some_off 8 (λ k. l k && mats e over k x) (λ k. ap (λ b. b && mats e over k x) (h k))) ∙ off_and (eqb under g))

-- one rule, by its row
module _ {rs : List ℕ} {i : ℕ} {row : Row} (at : RowAt rs i row) (tg e hd nh : List ℕ) where
  abbrev l : ℕ → Bool
  l = bit (landing tg hd (class_at rs i))

  pub show_exit : row.kind ≡ Exit → Shows (shown rs tg e hd i) nh 0 nh
  unfolding shown
  show_exit k = shows_none (shown rs tg e hd i) nh (λ g x. rw (sym at.kind_is ∙ k))

  module _ {v : ℕ} (v-is : v ≡ landing tg hd (class_at rs i)) where
    lands : (x : ℕ) → bit v x ≡ l x
    lands x = ap (λ n. bit n x) v-is

    pub show_none : v ≡ 0 → Shows (shown rs tg e hd i) nh 0 nh
    unfolding shown
    show_none z =
        shows_none (shown rs tg e hd i) nh
        (nowhere (kind_of (kind_at rs i)) (over_at rs i) (under_at rs i) e l (λ x. sym (lands x) ∙ ap (λ n. bit n x) z ∙ bit_zero x))

    module _ {t : ℕ} {nh' : List ℕ} (s : Shows (λ g x. eqb row.over g && bit v x) nh t nh') where
      on_top : Shows (λ g x. eqb (over_at rs i) g && l x) nh t nh'
      on_top = shows_alike (λ g x. eqb row.over g && bit v x) (λ g x. eqb (over_at rs i) g && l x) (λ g x. ap₂ (λ h b. eqb h g && b) at.over_is (lands x)) s

      pub show_direct : row.kind ≡ Direct → Shows (shown rs tg e hd i) nh t nh'
      unfolding shown
      show_direct j =
          shows_alike (λ g x. eqb (over_at rs i) g && l x) (shown rs tg e hd i) (λ g x. rw (sym at.kind_is ∙ j)) on_top

      module _ (j : row.kind ≡ Call) where
        is_call : kind_of (kind_at rs i) ≡ Call
        is_call = sym at.kind_is ∙ j

        -- a call whose g1 has no triple
        pub show_entered : get_or e row.over 0 ≡ 0 → Shows (shown rs tg e hd i) nh t nh'
        unfolding shown
        show_entered z =
            shows_alike (λ g x. eqb (over_at rs i) g && l x) (shown rs tg e hd i)
            (λ g x. rw is_call (or_false (eqb (over_at rs i) g && l x) ∙ ap (λ b. (eqb (over_at rs i) g && l x) || b) (sym (none g x)))) on_top
          where
            no_triple : (q x : ℕ) → mats e (over_at rs i) q x ≡ false
            no_triple q x = mat_none (get_or e (over_at rs i) 0) q x (ap (λ g. get_or e g 0) (sym at.over_is) ∙ z)

            none : (g x : ℕ) → eqb (under_at rs i) g && some 8 (λ k. l k && mats e (over_at rs i) k x) ≡ false
            none g x = ap (λ b. eqb (under_at rs i) g && b) (some_off 8 (λ k. l k && mats e (over_at rs i) k x) (λ k. ap (λ b. l k && b) (no_triple k x) ∙ off_and (l k))) ∙ off_and (eqb (under_at rs i) g)

        module _ {u : ℕ} (u-is : u ≡ image v (get_or e row.over 0)) {t' : ℕ} {nh'' : List ℕ} (s' : Shows (λ g x. eqb row.under g && bit u x) nh' t' nh'') where
          back : (x : ℕ) → bit u x ≡ some 8 (λ k. l k && mats e (over_at rs i) k x)
          unfolding passed
          back x =
              ap (λ n. bit n x) u-is ∙ image_at v (get_or e row.over 0) x ∙ ap (λ g. some 8 (λ k. mat v 0 k && mat (get_or e g 0) k x)) at.over_is
              ∙ some_alike 8 (λ k. mat v 0 k && mats e (over_at rs i) k x) (λ k. l k && mats e (over_at rs i) k x)
              (λ k h. ap (λ b. b && mats e (over_at rs i) k x) (ap (λ b. b && bit v (0 * 8 + k)) (lt-ltb k 8 h) ∙ ap (bit v) (zero-add k) ∙ lands k))

          under : Shows (λ g x. eqb (under_at rs i) g && some 8 (λ k. l k && mats e (over_at rs i) k x)) nh' t' nh''
          under =
              shows_alike (λ g x. eqb row.under g && bit u x) (λ g x. eqb (under_at rs i) g && some 8 (λ k. l k && mats e (over_at rs i) k x))
              (λ g x. ap₂ (λ h b. eqb h g && b) at.under_is (back x)) s'

          pub show_call : Shows (shown rs tg e hd i) nh (bit_or t t') nh''
          unfolding shown
          show_call =
              shows_alike (λ g x. (eqb (over_at rs i) g && l x) || (eqb (under_at rs i) g && some 8 (λ k. l k && mats e (over_at rs i) k x))) (shown rs tg e hd i)
              (λ g x. rw is_call) (shows_then on_top under)

-- the rules of a set: what is left to show, with the rows as they are, makes what was asked
pub record Left (rs tg e hd w nh₀ left : List ℕ) (t : ℕ) (nh : List ℕ) : Type 0 where
  pub long : length left ≡ 4
  pub rows : (g x : ℕ) → bit (get_or nh g 0) x || shown_all rs tg e hd left g x ≡ shown_all rs tg e hd w g x
  pub covers : RowsCover t nh

module _ {rs tg e hd w nh₀ : List ℕ} where
  pub left_first : {left : List ℕ} → left ≡ w → length w ≡ 4 → Empty 32 nh₀ → Left rs tg e hd w nh₀ left 0 nh₀
  left_first i h z = rw i (record {
    long = h;
    rows = λ g x. ap (λ n. bit n x || shown_all rs tg e hd w g x) (z.empty g) ∙ ap (λ b. b || shown_all rs tg e hd w g x) (bit_zero x);
    covers = record { long = z.long; low = λ g t. absurd (subst T (bit_zero g) t); empty = λ g _. z.empty g };
  })

  pub left_next : {left left' nh nh' : List ℕ} {t t' i : ℕ} → Taken left i left' → Left rs tg e hd w nh₀ left t nh
      → Shows (shown rs tg e hd i) nh t' nh' → Left rs tg e hd w nh₀ left' (bit_or t t') nh'
  unfolding shown_all
  left_next {left} {left'} {nh} {nh'} {t} {t'} {i} p l s = record {
    long = p.long;
    rows = λ g x.
        ap (λ b. b || shown_all rs tg e hd left' g x) (s.rows g x)
        ∙ sym (or_assoc (bit (get_or nh g 0) x) (shown rs tg e hd i g x) (shown_all rs tg e hd left' g x))
        ∙ ap (λ b. bit (get_or nh g 0) x || b) (sym (among_picked left (λ i. shown rs tg e hd i g x) p))
        ∙ l.rows g x;
    covers = record {
      long = s.as_long ∙ l.covers.long;
      low = λ g x. go g (or_cases (bit t g) (bit t' g) (subst T (bit_or_lem t t' g) x));
      empty = λ g x. s.others g (off_right (bit t g) (bit t' g) (sym (bit_or_lem t t' g) ∙ x)) ∙ l.covers.empty g (off_left (bit t g) (bit t' g) (sym (bit_or_lem t t' g) ∙ x));
    };
  }
    where
      go : (g : ℕ) → T (bit t g) ⊎ T (bit t' g) → g < 32
      go g (inl x) = l.covers.low g x
      go g (inr x) = s.low g x

  pub left_last : {left nh : List ℕ} {t : ℕ} → ((r : ℕ) → chosen left r ≡ false) → Left rs tg e hd w nh₀ left t nh
      → ShowsAll (shown_all rs tg e hd w) t nh
  unfolding shown_all
  left_last {left} {nh} p l = record {
    rows = λ g x. or_false (bit (get_or nh g 0) x) ∙ ap (λ b. bit (get_or nh g 0) x || b) (sym (among_none left (λ i. shown rs tg e hd i g x) p)) ∙ l.rows g x;
    covers = l.covers;
  }

-- the rows of a set, taken in one after another
pub record RowsLeft (z : Size) (k : ℕ) (nh₀ hd₀ hs₀ : List ℕ) (d w : ℕ) (nh hd hs : List ℕ) : Type 0 where
  pub low : (g : ℕ) → T (bit d g) → g < 32
  pub long : length nh ≡ 32
  pub done : Entries
  pub took : Took of_heads z k done hd₀ hs₀ w hd hs
  pub all : (g q x : ℕ) → done g q x || (bit d g && mats nh₀ g q x) ≡ mats nh₀ g q x
  pub same : (g : ℕ) → T (bit d g) → get_or nh g 0 ≡ get_or nh₀ g 0
  pub gone : (g : ℕ) → bit d g ≡ false → get_or nh g 0 ≡ 0

module _ {z : Size} {k : ℕ} {nh₀ hd₀ hs₀ : List ℕ} where
  pub rows_first : {d t : ℕ} → d ≡ t → RowsCover t nh₀ → RowsLeft z k nh₀ hd₀ hs₀ d 0 nh₀ hd₀ hs₀
  rows_first {d} {t} e c = rw e (record {
    low = c.low;
    long = c.long;
    done = λ g q x. false;
    took = took_none of_heads z k (λ g q x. false) hd₀ hs₀ (λ g q x t. absurd t);
    all = λ g q x. at g q x (bit t g) refl;
    same = λ g _. refl;
    gone = c.empty;
  })
    where
      at : (g q x : ℕ) (b : Bool) → bit t g ≡ b → b && mats nh₀ g q x ≡ mats nh₀ g q x
      at g q x true e = refl
      at g q x false e = sym (mat_none (get_or nh₀ g 0) q x (c.empty g e))

  module _ {d i d' w : ℕ} {nh hd hs : List ℕ} (taken : Lowest d i d') (l : RowsLeft z k nh₀ hd₀ hs₀ d w nh hd hs) where
    i-in : T (bit d i)
    i-in = bit_taken taken

    pub row_low : i < 32
    row_low = l.low i i-in

    pub row_fits : RowsFit z nh₀ → Fits of_heads z i (get_or nh i 0)
    row_fits f = subst⁻¹ (λ n. Fits of_heads z i n) (l.same i i-in) (f i row_low)

    pub rows_room : Room of_heads z hd₀ hs₀ → Room of_heads z hd hs
    rows_room = room_after l.took

    rest : (g : ℕ) → bit d' g ≡ bit d g && not (eqb g i)
    rest g = bits_left taken g

    off_not : (a b : Bool) → b ≡ false → a && not b ≡ false → a ≡ false
    off_not false b x y = refl
    off_not true false x y = absurd (subst T y tt)
    off_not true true x y = absurd (subst T x tt)

    pub rows_next : {w' : ℕ} {hd' hs' : List ℕ} → Took of_heads z k (alone i (get_or nh i 0)) hd hs w' hd' hs'
        → RowsLeft z k nh₀ hd₀ hs₀ d' (bit_or w w') (set nh i 0) hd' hs'
    rows_next {w'} {hd'} {hs'} t = record {
      low = λ g u. l.low g (and_left (bit d g) (not (eqb g i)) (subst T (rest g) u));
      long = length-set nh i 0 ∙ l.long;
      done = λ g q x. l.done g q x || alone i (get_or nh i 0) g q x;
      took = took_then l.took t;
      all = λ g q x. at g q x (ℕ_discrete i g);
      same = λ g u.
          let v : T (bit d g && not (eqb g i)) = subst T (rest g) u in
          get_or-set_other nh i g 0 0 (λ y. subst (λ b. T (not b)) (eq-eqb g i y) (and_right (bit d g) (not (eqb g i)) v))
          ∙ l.same g (and_left (bit d g) (not (eqb g i)) v);
      gone = λ g u. empty g (sym (rest g) ∙ u) (ℕ_discrete g i);
    }
      where
        empty : (g : ℕ) → bit d g && not (eqb g i) ≡ false → Dec (g ≡ i) → get_or (set nh i 0) g 0 ≡ 0
        empty g u (yes y) = ap (λ g. get_or (set nh i 0) g 0) y ∙ get_or-set_same nh i 0 0 (omega (arith, row_low, l.long))
        empty g u (no y) = get_or-set_other nh i g 0 0 y ∙ l.gone g (off_not (bit d g) (eqb g i) (ne_eqb g i y) u)

        cut : (a b c : Bool) → a || (c && b) ≡ b → T c → (a || b) || false ≡ b
        cut true b true x t = x
        cut false true true x t = refl
        cut false false true x t = refl
        cut false false false x t = elim t [ ]
        cut false true false x t = elim t [ ]
        cut true b false x t = elim t [ ]

        at : (g q x : ℕ) → Dec (i ≡ g)
            → (l.done g q x || alone i (get_or nh i 0) g q x) || (bit d' g && mats nh₀ g q x) ≡ mats nh₀ g q x
        at g q x (yes y) =
            subst (λ g. (l.done g q x || alone i (get_or nh i 0) g q x) || (bit d' g && mats nh₀ g q x) ≡ mats nh₀ g q x) y
            (ap₂ (λ a b. (l.done i q x || a) || (b && mats nh₀ i q x))
            (ap (λ b. b && mat (get_or nh i 0) q x) (eq-eqb i i refl) ∙ ap (λ n. mat n q x) (l.same i i-in))
            (rest i ∙ ap (λ b. bit d i && not b) (eq-eqb i i refl) ∙ off_and (bit d i))
            ∙ cut (l.done i q x) (mats nh₀ i q x) (bit d i) (l.all i q x) i-in)
        at g q x (no y) =
            ap₂ (λ a b. (l.done g q x || a) || (b && mats nh₀ g q x))
            (ap (λ b. b && mat (get_or nh i 0) q x) (ne_eqb i g y))
            (rest g ∙ ap (λ b. bit d g && not b) (ne_eqb g i (λ e. y (sym e))) ∙ and_on (bit d g))
            ∙ ap (λ b. b || (bit d g && mats nh₀ g q x)) (sym (or_false (l.done g q x))) ∙ l.all g q x
          where
            and_on : (a : Bool) → a && true ≡ a
            and_on true = refl
            and_on false = refl

  pub rows_last : {d w : ℕ} {nh hd hs : List ℕ} → d ≡ 0 → RowsLeft z k nh₀ hd₀ hs₀ d w nh hd hs → SettlesRows z k nh₀ hd₀ hs₀ w nh hd hs
  rows_last {d} e l = record {
    took = took_alike (λ g q x. or_false (l.done g q x) ∙ ap (λ b. l.done g q x || (b && mats nh₀ g q x)) (sym (none g)) ∙ l.all g q x) l.took;
    empty = record { long = l.long; empty = λ g. l.gone g (none g) };
  }
    where
      none : (g : ℕ) → bit d g ≡ false
      none g = ap (λ d. bit d g) e ∙ bit_zero g
