-- The two parts of a text: what stands before the first line that starts with `safe`, and what stands from there on. Assumes nothing.
use Rattle.std.specs.Prelude.{Bool, true, ◌&&◌, List, [], ◌∷◌, ℕ, suc, eqb, take, drop}
use Rattle.text.specs.Split.{pick, same_bytes}
use Rattle.listingline.specs.Line.{safe}

-- the first four bytes are the word
abbrev pub starts_safe : List ℕ → Bool
starts_safe s = same_bytes (take 4 s) safe

-- how many bytes stand before the first line that starts with `safe`, all where there is none; `begins` says whether a line begins here
unfoldable pub place_from : (begins : Bool) → List ℕ → ℕ
place_from begins [] = 0
place_from begins (b ∷ bs) = pick (begins && starts_safe (b ∷ bs)) 0 (suc (place_from (eqb b 10) bs))

abbrev pub place : List ℕ → ℕ
place text = place_from true text

-- the listing and the model of a text
abbrev pub listing_of : List ℕ → List ℕ
listing_of text = drop (place text) text

abbrev pub model_part : List ℕ → List ℕ
model_part text = take (place text) text
