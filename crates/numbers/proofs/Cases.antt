-- The definitions at work on a few fields, where a slip would show. Assumes nothing.
use mathlib.Core.Path.{◌≡◌, refl}
use mathlib.Core.List.{[], ◌∷◌, map}
use Rattle.text.specs.Split.{first, later, split}
use Rattle.numbers.specs.Number.{spelled, number_of}
use Rattle.numbers.specs.Digits.{decimal_in, decimal}
use Rattle.std.specs.Prelude.{Some, None}

-- "0" "7" "65536" "99999" "" "00" "01" "+1" "1:" "100000"
pub number_cases :
    map number_of
    ((48 ∷ [])
    ∷ (55 ∷ [])
    ∷ (54 ∷ 53 ∷ 53 ∷ 51 ∷ 54 ∷ [])
    ∷ (57 ∷ 57 ∷ 57 ∷ 57 ∷ 57 ∷ [])
    ∷ []
    ∷ (48 ∷ 48 ∷ [])
    ∷ (48 ∷ 49 ∷ [])
    ∷ (43 ∷ 49 ∷ [])
    ∷ (49 ∷ 58 ∷ [])
    ∷ (49 ∷ 48 ∷ 48 ∷ 48 ∷ 48 ∷ 48 ∷ [])
    ∷ [])
    ≡ Some 0 ∷ Some 7 ∷ Some 65536 ∷ Some 99999 ∷ None ∷ None ∷ None ∷ None ∷ None ∷ None ∷ []
unfolding spelled number_of
number_cases = refl

-- "" "1" "1→" "1→→2" "→", the arrow a tab
pub split_cases :
    map (split 9) ([] ∷ (49 ∷ []) ∷ (49 ∷ 9 ∷ []) ∷ (49 ∷ 9 ∷ 9 ∷ 50 ∷ []) ∷ (9 ∷ []) ∷ [])
    ≡ ([] ∷ [])
    ∷ ((49 ∷ []) ∷ [])
    ∷ ((49 ∷ []) ∷ [] ∷ [])
    ∷ ((49 ∷ []) ∷ [] ∷ (50 ∷ []) ∷ [])
    ∷ ([] ∷ [] ∷ [])
    ∷ []
unfolding first later
split_cases = refl

-- 0 9 10 99 100 65535
pub decimal_cases :
    map decimal (0 ∷ 9 ∷ 10 ∷ 99 ∷ 100 ∷ 65535 ∷ [])
    ≡ (48 ∷ [])
    ∷ (57 ∷ [])
    ∷ (49 ∷ 48 ∷ [])
    ∷ (57 ∷ 57 ∷ [])
    ∷ (49 ∷ 48 ∷ 48 ∷ [])
    ∷ (54 ∷ 53 ∷ 53 ∷ 51 ∷ 53 ∷ [])
    ∷ []
unfolding decimal_in
decimal_cases = refl
