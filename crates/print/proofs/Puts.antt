-- The parts of a line as they grow. Assumes nothing.
use mathlib.Core.List.{List, [], ◌∷◌, ◌++◌, append-nil}
use mathlib.Core.Path.{◌≡◌, sym, ap, ◌∙◌}
use Prim.Native.Nat.{ℕ, ◌+◌, ◌-◌, ◌<◌, ◌≤◌}
use native.Mathlib.Numerals.{add-one}
use native.Mathlib.Omega.{arith}
use lib.ListN.{length, get_or, take, replicate, length-append}
use lib.Seq.{take-suc}
use Rattle.numbers.specs.Digits.{decimal, written, digits_of}
use Rattle.numbers.specs.declared.Digits.{Digits}
use Rattle.text.specs.Put.{Put}
use Rattle.numbers.proofs.Back.{digits_part}
use Rattle.text.proofs.Puts.{then_put}
use Rattle.product.specs.Lists.{over}
use Rattle.product.proofs.Lists.{over_append}
use Rattle.print.specs.Bytes.{field_bytes, line_bytes, named_bytes}

-- one element more of the front of a list
pub take_more : (s : List ℕ) (i : ℕ) → i < length s → take i s ++ get_or s i 0 ∷ [] ≡ take (i + 1) s
take_more s i h = rw add-one (sym (take-suc s i 0 h))

pub fields_more : (s : List ℕ) (i : ℕ) → i < length s → over (take i s) field_bytes ++ field_bytes (get_or s i 0) ≡ over (take (i + 1) s) field_bytes
fields_more s i h = ap (λ l. over (take i s) field_bytes ++ l) (sym (append-nil (field_bytes (get_or s i 0)))) ∙ sym (over_append (take i s) (get_or s i 0 ∷ []) field_bytes) ∙ ap (λ l. over l field_bytes) (take_more s i h)

-- the digits of a number, as its record has them
module _ (n : ℕ) {d : Digits} (e : d ≡ digits_of n) where
  pub digits_part_of : take d.count d.at ≡ decimal n
  digits_part_of = ap (λ x. take x.count x.at) e ∙ digits_part n

  pub digits_within : d.count ≤ length d.at
  unfolding written
  digits_within = rw e (omega (arith, length-append (decimal n) (replicate (5 - length (decimal n)) 0)))

-- a whole line, of either kind
module _ {o p q r : List ℕ} {a b c d : ℕ} {w : List ℕ} (ns : List ℕ) (x : Put o p a b w) (y : Put p q b c (over ns field_bytes)) where
  pub line_put : Put q r c d (10 ∷ []) → Put o r a d (line_bytes w ns)
  unfolding line_bytes
  line_put z = then_put (then_put x y) z

  pub named_put : {k l : List ℕ} {g h : ℕ} {last : List ℕ} → Put q r c d (9 ∷ []) → Put r k d g last → Put k l g h (10 ∷ []) → Put o l a h (named_bytes w ns last)
  unfolding named_bytes
  named_put t u z = then_put (then_put (then_put x y) (then_put t u)) z
