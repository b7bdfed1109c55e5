-- The pieces of a list of bytes between separators, and whether two lists are the same. Assumes nothing.
use Rattle.std.specs.Prelude.{Bool, true, false, not, ◌&&◌, List, [], ◌∷◌, ◌++◌, ℕ, eqb}

-- one of two, by a test
abbrev pub pick {ℓ} : {A : Type ℓ} → Bool → A → A → A
pick true a b = a
pick false a b = b

-- what stands before the first c, or the whole list where there is none
unfoldable pub first : ℕ → List ℕ → List ℕ
first c [] = []
first c (b ∷ bs) = pick (eqb b c) [] (b ∷ first c bs)

-- the pieces after the first c; none where there is no c
unfoldable pub later : ℕ → List ℕ → List (List ℕ)
later c [] = []
later c (b ∷ bs) = pick (eqb b c) (first c bs ∷ later c bs) (later c bs)

-- all the pieces between the c's: one more than there are c's
abbrev pub split : ℕ → List ℕ → List (List ℕ)
split c s = first c s ∷ later c s

-- a piece and those after it, with a c between any two
unfoldable pub joined : ℕ → List ℕ → List (List ℕ) → List ℕ
joined c p [] = p
joined c p (q ∷ qs) = p ++ c ∷ joined c q qs

-- no c in the list
unfoldable pub without : ℕ → List ℕ → Bool
without c [] = true
without c (b ∷ bs) = not (eqb b c) && without c bs

-- whether two lists are the same
unfoldable pub same_bytes : List ℕ → List ℕ → Bool
same_bytes [] [] = true
same_bytes [] (b ∷ bs) = false
same_bytes (a ∷ more) [] = false
same_bytes (a ∷ more) (b ∷ bs) = pick (eqb a b) (same_bytes more bs) false

-- something holds of each element
abbrev pub Each : {A : Type 0} → (A → Type 0) → List A → Type 0
Each P [] = Unit {0}
Each P (x ∷ xs) = P x × Each P xs
