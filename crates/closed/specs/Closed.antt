-- Which rules are closed, by the matrices of the facts that are present: for each of 32 symbols its triples, and the row of its heads. Assumes nothing.
use Rattle.std.specs.Prelude.{Bool, true, ◌&&◌, List, ℕ, ◌%◌, eqb, get_or}
use Rattle.std.specs.Int.Bits.{bit_or}
use Rattle.product.specs.Product.{Rule, exit, direct, call, symbol}
use Rattle.bits.specs.Matrix.{multiplied, image}

-- of the 32 the one of symbol g; a valid model has no symbol from 32 on, and for one the count begins again at 0
unfoldable pub of_symbol : List ℕ → (g : ℕ) → ℕ
of_symbol xs g = get_or xs (g % 32) 0

-- all that is in a is in b
unfoldable pub included : (a b : ℕ) → Bool
included a b = eqb (bit_or a b) b

-- the triples that the steps of a rule give: each step, and then what the rule puts there is run and erased
abbrev pub erasing : (triples : List ℕ) → (steps : ℕ) → Rule → ℕ
erasing ts s (exit g) = s
erasing ts s (direct g g1) = multiplied s (of_symbol ts g1)
erasing ts s (call g g1 g2) = multiplied s (multiplied (of_symbol ts g1) (of_symbol ts g2))

-- where the steps of a rule end in the states x: the heads that are entered there, and those that are returned to once the top is erased, are present
abbrev pub heads_there : (triples heads : List ℕ) → (x : ℕ) → Rule → Bool
heads_there ts hs x (exit g) = true
heads_there ts hs x (direct g g1) = included x (of_symbol hs g1)
heads_there ts hs x (call g g1 g2) = included x (of_symbol hs g1) && included (image x (of_symbol ts g1)) (of_symbol hs g2)

-- every consequence of the rule's steps is present
unfoldable pub rule_closed : (triples heads : List ℕ) → (steps : ℕ) → Rule → Bool
rule_closed ts hs s ρ = included (erasing ts s ρ) (of_symbol ts (symbol ρ)) && heads_there ts hs (image (of_symbol hs (symbol ρ)) s) ρ
