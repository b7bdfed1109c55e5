-- A line that has room, as it is put: its word, and the digits of its numbers, from the last to the first. Assumes nothing.
use mathlib.Core.Path.{◌≡◌, refl, ap, sym, ◌∙◌}
use mathlib.Core.List.{List, [], ◌∷◌, ◌++◌, append-nil}
use Rattle.std.proofs.Common.{append_assoc}
use Rattle.std.proofs.lemmas.List.Edits.{sets-eq, paste_all}
use Rattle.std.proofs.lemmas.Slice.{put_mid-paste}
use borrow.Rule.Slice.PartMut.{put_mid}
use Prim.Native.Nat.{ℕ, zero, suc, ◌+◌, ◌-◌, ◌*◌, ◌/◌, ◌%◌, ◌^◌, ◌<◌, ◌≤◌}
use native.Mathlib.Nat.{pow-suc}
use native.Mathlib.Omega.{arith}
use lib.ListN.{length, get_or, set, take, drop, length-append, length-set}
use lib.Seq.{sets, set_comm, append_snoc, length-sets}
use Rattle.numbers.specs.Digits.{decimal_in, decimal}
use Rattle.numbers.proofs.Decimals.{decimal_one, decimal_more}
use Rattle.print.specs.Bytes.{field_bytes, line_bytes}
use Rattle.print.proofs.Puts.{line_put}
use Rattle.product.specs.Lists.{over}
use Rattle.text.specs.Put.{Put}
use Rattle.text.proofs.Puts.{then_put, as_put, one_put, put_length}
use Rattle.printing.proofs.Bytes.{fields_short}

-- a word copied into the part of the array that is as long
pub word_laid : (o s t : List ℕ) (at : ℕ) → t ≡ s → at + length s ≤ length o → Put o (put_mid at (at + length s - at) o t) at (at + length s) s
word_laid o s t at e h = record {
  place = omega arith;
  cells =
      put_mid-paste at (at + length s - at) o t s (length s) e (omega arith) refl
      ∙ paste_all o at s (length s) refl
      ∙ sym (append_assoc (take at o) s (drop (at + length s) o))
      ∙ sym (sets-eq s o at h);
}

module _ (k n : ℕ) where
  one_more : n < 10 → length (decimal_in (suc k) n) ≡ 1
  one_more h = ap length (decimal_one k n h)

  behind_others : 10 ≤ n → length (decimal_in (suc k) n) ≡ length (decimal_in k (n / 10)) + 1
  behind_others h = ap length (decimal_more k n h) ∙ length-append (decimal_in k (n / 10)) ((48 + n % 10) ∷ [])

-- how many, by the tests of the code
module _ (n : ℕ) where
  pub one_digit : n < 10 → 1 ≡ length (decimal n)
  one_digit h = sym (one_more 4 n h)

  pub two_digits : 10 ≤ n → n < 100 → 2 ≡ length (decimal n)
  two_digits a h = omega (arith, behind_others 4 n a, one_more 3 (n / 10) (omega arith))

  pub three_digits : 100 ≤ n → n < 1000 → 3 ≡ length (decimal n)
  three_digits a h = omega (arith, behind_others 4 n (omega arith), behind_others 3 (n / 10) (omega arith), one_more 2 (n / 10 / 10) (omega arith))

  pub four_digits : 1000 ≤ n → n < 10000 → 4 ≡ length (decimal n)
  four_digits a h =
      omega (arith, behind_others 4 n (omega arith), behind_others 3 (n / 10) (omega arith), behind_others 2 (n / 10 / 10) (omega arith), one_more 1 (n / 10 / 10 / 10) (omega arith))

  pub five_digits : 10000 ≤ n → n < 100000 → 5 ≡ length (decimal n)
  five_digits a h =
      omega (
        arith,
        behind_others 4 n (omega arith),
        behind_others 3 (n / 10) (omega arith),
        behind_others 2 (n / 10 / 10) (omega arith),
        behind_others 1 (n / 10 / 10 / 10) (omega arith),
        one_more 0 (n / 10 / 10 / 10 / 10) (omega arith),
      )

-- a cell in front of a run that is put
set_before : (o : List ℕ) (i j b : ℕ) (s : List ℕ) → i < j → set (sets o j s) i b ≡ sets (set o i b) j s
set_before o i j b [] h = refl
set_before o i j b (c ∷ s) h = set_before (set o j c) i (suc j) b s (omega arith) ∙ ap (λ l. sets l (suc j) s) (set_comm o j i c b (λ e. omega arith))

put_front : (o : List ℕ) (at i b : ℕ) (s : List ℕ) → i ≡ at + 1 → set (sets o i s) at b ≡ sets o at (b ∷ s)
put_front o at i b s e = set_before o at i b s (omega arith) ∙ ap (λ k. sets (set o at b) k s) (omega arith)

-- the loop's invariant: the digits of what is left, and those that are put from i on, are the digits of n
pub record Filled (o p : List ℕ) (first n i left : ℕ) : Type 0 where
  pub done : List ℕ
  pub more : ℕ
  pub small : left < 10 ^ suc more
  pub whole : decimal_in (suc more) left ++ done ≡ decimal n
  pub here : i ≡ first + length (decimal_in (suc more) left)
  pub cells : p ≡ sets o i done

pub none_filled : (o : List ℕ) (first n : ℕ) {i : ℕ} → n < 100000 → i ≡ first + length (decimal n) → Filled o o first n i n
none_filled o first n h e = record { done = []; more = 4; small = h; whole = append-nil (decimal n); here = e; cells = refl }

module _ {o p : List ℕ} {first n i left : ℕ} (f : Filled o p first n i left) where
  pub filled_length : length p ≡ length o
  filled_length = ap length f.cells ∙ length-sets o i f.done

  pub filled_room : 10 ≤ left → 1 ≤ i
  filled_room h = omega (arith, f.here, behind_others f.more left h)

  pub filled_next : 10 ≤ left → {q : List ℕ} → q ≡ set p (i - 1) (48 + left % 10) → Filled o q first n (i - 1) (left / 10)
  filled_next h {q} e = go f.more f.small f.whole f.here
    where
      go : (more : ℕ) → left < 10 ^ suc more → decimal_in (suc more) left ++ f.done ≡ decimal n → i ≡ first + length (decimal_in (suc more) left) → Filled o q first n (i - 1) (left / 10)
      go zero small whole here = absurd (omega arith)
      go (suc k) small whole here =
          record {
            done = (48 + left % 10) ∷ f.done;
            more = k;
            small = let l = rw pow-suc at small in omega arith;
            whole = sym (append_snoc (decimal_in (suc k) (left / 10)) (48 + left % 10) f.done) ∙ ap (λ l. l ++ f.done) (sym (decimal_more (suc k) left h)) ∙ whole;
            here = omega (arith, behind_others (suc k) left h);
            cells = e ∙ ap (λ l. set l (i - 1) (48 + left % 10)) f.cells ∙ put_front o (i - 1) i (48 + left % 10) f.done (omega (arith, filled_room h));
          }

  pub filled_last : left < 10 → {q : List ℕ} → q ≡ set p first (48 + left) → q ≡ sets o first (decimal n)
  filled_last h e =
      e ∙ ap (λ l. set l first (48 + left)) f.cells
      ∙ put_front o first i (48 + left) f.done (omega (arith, f.here, one_more f.more left h))
      ∙ ap (λ l. sets o first (l ++ f.done)) (sym (decimal_one f.more left h))
      ∙ ap (sets o first) f.whole

  -- behind the last one
  pub filled_put : {end : ℕ} → end ≡ first + length (decimal n) → end ≤ length o → left < 10 → Put o (set p first (48 + left)) first end (decimal n)
  filled_put e l h = record { place = omega arith; cells = filled_last h refl }

-- a tab, and a number of one digit or of more
module _ (o : List ℕ) (at n : ℕ) (room : at + 6 ≤ length o) where
  tab_put : Put o (set o at 9) at (at + 1) (9 ∷ [])
  tab_put = one_put o at 9 (omega arith)

  pub short_field : n < 10 → Put o (set (set o at 9) (at + 1) (48 + n)) at (at + 1 + 1) (field_bytes n)
  short_field h = then_put tab_put (as_put (sym (decimal_one 4 n h)) (one_put (set o at 9) (at + 1) (48 + n) (omega (arith, length-set o at 9))))

  pub long_field : {p : List ℕ} {next : ℕ} → Put (set o at 9) p (at + 1) next (decimal n) → Put o p at next (field_bytes n)
  long_field x = then_put tab_put x

-- a line that has room, as far as its line feed, and the whole of it
module _ {o p q : List ℕ} {at first end : ℕ} {s : List ℕ} (ns : List ℕ) (room : at + length s + 6 * length ns + 1 ≤ length o) (small : (i : ℕ) → get_or ns i 0 < 65536)
    (x : Put o p at first s) (y : Put p q first end (over ns field_bytes)) where
  pub line_room : end < length q
  line_room = omega (arith, x.place, put_length x, y.place, put_length y, fields_short ns small)

  pub line_laid : Put o (set q end 10) at (end + 1) (line_bytes s ns)
  line_laid = line_put ns x y (one_put q end 10 line_room)
