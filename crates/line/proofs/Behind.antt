-- The numbers behind the word of a line. Assumes nothing.
use mathlib.Core.Path.{◌≡◌, ap, ◌∙◌}
use mathlib.Core.List.{List}
use Prim.Native.Nat.{ℕ, ◌+◌, ◌-◌, ◌<◌, ◌≤◌}
use native.Mathlib.Omega.{arith}
use lib.ListN.{length, take, drop, length-drop}
use borrow.Author.Tests.{lt-ltb, le-ltb}
use Rattle.text.specs.Split.{first}
use Rattle.text.proofs.Lists.{tail_part}
use Rattle.text.proofs.Split.{place_within}
use Rattle.numbers.specs.declared.FieldsRead.{FieldsRead}
use Rattle.numbers.specs.Number.{wrong}
use Rattle.numbers.specs.Field.{fields_by, fields_of}
use Rattle.line.specs.Line.{from}

module _ (s : List ℕ) (b : ℕ) where
  pub from_past : length s < b → {n : ℕ} → n ≡ length (first 10 s) → fields_by wrong n ≡ from s b
  from_past h e = ap (fields_by wrong) e ∙ rw (lt-ltb _ _ h)

  module _ (h : b ≤ length s) {f : FieldsRead} (p : f ≡ fields_of (take (length s - b) (drop b s))) where
    is : f ≡ fields_of (drop b s)
    is = p ∙ ap fields_of (tail_part s b)

    pub end_within : b + f.end ≤ length s
    end_within = omega (arith, length-drop b s, place_within 10 (drop b s) (ap (λ (x : FieldsRead). x.end) is))

    pub from_there : fields_by f.numbers (b + f.end) ≡ from s b
    from_there = rw (le-ltb _ _ h) (ap (λ (x : FieldsRead). fields_by x.numbers (b + x.end)) is)
