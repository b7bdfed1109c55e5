-- An 8 by 8 matrix of bits in a number of 64 bits: row q, column x is bit q·8 + x. A set of states is the first row of one. Assumes nothing.
use Rattle.std.specs.Prelude.{Bool, false, ◌&&◌, ◌||◌, List, ℕ, zero, suc, ◌+◌, ◌*◌, ◌/◌, ◌%◌, ltb, get_or}
use Rattle.bits.specs.Bit.{bit, word}

abbrev pub entry : (m q x : ℕ) → Bool
entry m q x = bit m (q * 8 + x)

-- the same, with no entry outside of the matrix; and of a list of matrices
abbrev pub mat : (m q x : ℕ) → Bool
mat m q x = ltb q 8 && ltb x 8 && entry m q x

abbrev pub mats : List ℕ → (g q x : ℕ) → Bool
mats l g = mat (get_or l g 0)

-- some number below n passes
abbrev pub some : ℕ → (ℕ → Bool) → Bool
some zero p = false
some (suc n) p = some n p || p n

-- the boolean product: from row q by a to some k, and from k by b to column x
unfoldable pub multiplied : (a b : ℕ) → ℕ
multiplied a b = word 64 (λ i. some 8 (λ k. entry a (i / 8) k && entry b k (i % 8)))

-- where b leads from the set v
unfoldable pub passed : (v b x : ℕ) → Bool
passed v b x = some 8 (λ k. mat v 0 k && mat b k x)

unfoldable pub image : (v b : ℕ) → ℕ
image v b = word 8 (passed v b)
