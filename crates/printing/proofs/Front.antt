-- A listing looks at the cells of the table alone. Assumes nothing.
use mathlib.Core.List.{List, [], ◌∷◌, ◌++◌}
use mathlib.Core.Path.{◌≡◌, ap, ap₂, sym, ◌∙◌}
use Prim.Native.Nat.{ℕ, ◌*◌, ◌<◌, ◌≤◌}
use native.Mathlib.Omega.{arith}
use lib.Dec.{eqb}
use lib.ListN.{length, get_or, take, drop, get_or-append}
use Rattle.std.proofs.lemmas.List.{take-append-drop, length-take-le}
use Rattle.text.specs.Split.{pick}
use Rattle.product.specs.Table.{absent}
use Rattle.product.proofs.Lists.{over_alike}
use Rattle.printing.specs.declared.Kind.{Kind}
use Rattle.printing.specs.Listing.{if_present, present_in, cells_bytes, header_bytes, listing_bytes}

module _ (a b : List ℕ) (n : ℕ) (e : length a ≡ n) where
  front : (i : ℕ) → i < n → get_or (a ++ b) i 0 ≡ get_or a i 0
  front i l = get_or-append a b 0 i (omega arith)

  present_front : present_in (a ++ b) n ≡ present_in a n
  unfolding present_in
  present_front =
      over_alike n (λ i. pick (eqb (get_or (a ++ b) i 0) absent) [] (i ∷ [])) (λ i. pick (eqb (get_or a i 0) absent) [] (i ∷ []))
      (λ i l. ap (λ x. pick (eqb x absent) [] (i ∷ [])) (front i l))

  cells_front : (kind : Kind) (G Q : ℕ) → cells_bytes kind G Q (a ++ b) n ≡ cells_bytes kind G Q a n
  unfolding cells_bytes
  cells_front kind G Q =
      over_alike n (λ i. if_present kind G Q i (get_or (a ++ b) i 0)) (λ i. if_present kind G Q i (get_or a i 0))
      (λ i l. ap (if_present kind G Q i) (front i l))

-- whatever stands behind the table in the arrays
pub listing_front : (G Q rounds : ℕ) (hs hs' ts ts' : List ℕ) → length hs ≡ Q * G → length ts ≡ Q * G * Q
    → listing_bytes G Q rounds (hs ++ hs') (ts ++ ts') ≡ listing_bytes G Q rounds hs ts
unfolding listing_bytes header_bytes
listing_front G Q rounds hs hs' ts ts' h t =
    rw (present_front hs hs' (Q * G) h, present_front ts ts' (Q * G * Q) t, cells_front hs hs' (Q * G) h, cells_front ts ts' (Q * G * Q) t)

-- so of arrays that are cut to the table the listing is the same
pub listing_cut : (G Q rounds : ℕ) (hs ts : List ℕ) {h t : ℕ} → h ≡ Q * G → t ≡ Q * G * Q → h ≤ length hs → t ≤ length ts
    → listing_bytes G Q rounds (take h hs) (take t ts) ≡ listing_bytes G Q rounds hs ts
listing_cut G Q rounds hs ts {h} {t} e f k l =
    sym (listing_front G Q rounds (take h hs) (drop h hs) (take t ts) (drop t ts) (length-take-le h hs k ∙ e) (length-take-le t ts l ∙ f))
    ∙ ap₂ (listing_bytes G Q rounds) (take-append-drop h hs) (take-append-drop t ts)
