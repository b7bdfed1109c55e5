-- The bytes of a record are that record. Assumes nothing.
use mathlib.Core.Bool.{Bool, true, false}
use mathlib.Core.List.{List, [], ◌∷◌, ◌++◌, append_assoc, append-nil}
use mathlib.Core.Path.{◌≡◌, refl, sym, ap, ◌∙◌}
use Prim.Native.Nat.{ℕ, ◌+◌, ◌*◌, ◌/◌, ◌%◌, ◌<◌}
use native.Mathlib.Omega.{arith}
use lib.ListN.{length, get_or, take, drop, length-map, length-append, drop_of_length-le}
use lib.Seq.{sets, sets-eq, drop-drop, take_at, drop_at}
use Rattle.model.specs.declared.Model.{Model}
use Rattle.lent.specs.Lending.{part, byte_of, truths, bytes_of, laid, packed, model_in, shape_bytes, Sized}
use Rattle.lent.proofs.Parts.{in_part}

pub length_bytes : (bs : List Bool) → length (bytes_of bs) ≡ length bs
unfolding bytes_of
length_bytes bs = length-map bs byte_of

truths_bytes : (bs : List Bool) → truths (bytes_of bs) ≡ bs
unfolding truths bytes_of
truths_bytes [] = refl
truths_bytes (true ∷ bs) = ap (λ xs. true ∷ xs) (truths_bytes bs)
truths_bytes (false ∷ bs) = ap (λ xs. false ∷ xs) (truths_bytes bs)

-- what lies behind the cells of a part, where the part is what begins the rest
behind : (cells : List ℕ) (at n : ℕ) (xs ys : List ℕ) → length xs ≡ n → drop at cells ≡ xs ++ ys → drop (at + n) cells ≡ ys
behind cells at n xs ys l e = sym (drop-drop n at cells) ∙ ap (drop n) e ∙ drop_at xs ys n l

part_is : (cells : List ℕ) (at n : ℕ) (xs ys : List ℕ) → length xs ≡ n → drop at cells ≡ xs ++ ys → part at n cells ≡ xs
part_is cells at n xs ys l e = ap (take n) e ∙ take_at xs ys n l

module _ (m : Model) (z : Sized m) (last : List ℕ) where
  from_rules : drop 0 (laid m last) ≡ m.rulerows ++ (m.moverows ++ (bytes_of m.shows ++ (bytes_of m.finals ++ last)))
  unfolding laid
  from_rules = refl

  from_moves : drop 1024 (laid m last) ≡ m.moverows ++ (bytes_of m.shows ++ (bytes_of m.finals ++ last))
  from_moves = behind (laid m last) 0 1024 m.rulerows _ z.rules from_rules

  from_shows : drop 1408 (laid m last) ≡ bytes_of m.shows ++ (bytes_of m.finals ++ last)
  from_shows = behind (laid m last) 1024 384 m.moverows _ z.moves from_moves

  from_finals : drop 1920 (laid m last) ≡ bytes_of m.finals ++ last
  from_finals = behind (laid m last) 1408 512 (bytes_of m.shows) _ (length_bytes m.shows ∙ z.shows) from_shows

  from_last : drop 1928 (laid m last) ≡ last
  from_last = behind (laid m last) 1920 8 (bytes_of m.finals) last (length_bytes m.finals ∙ z.finals) from_finals

-- the bytes of a record whose counts they hold are that record
pub packed_is : (m : Model) → Sized m → m.rules < 65536 → m.moves < 256 → model_in (packed m) ≡ m
unfolding model_in
packed_is m z few fewer =
    let cells = packed m in
    let last = shape_bytes m in
    let at : (i : ℕ) → i < 8 → get_or cells (1928 + i) 0 ≡ get_or last i 0 =
    λ i l. in_part cells 1928 8 i (1928 + i) refl l ∙ ap (λ xs. get_or (take 8 xs) i 0) (from_last m z last) in
    let r : m.rules % 256 + 256 * (m.rules / 256 % 256) ≡ m.rules = omega arith in
    let k : m.moves % 256 ≡ m.moves = omega arith in
    let rs : part 0 1024 cells ≡ m.rulerows = part_is cells 0 1024 m.rulerows _ z.rules (from_rules m z last) in
    let ms : part 1024 384 cells ≡ m.moverows = part_is cells 1024 384 m.moverows _ z.moves (from_moves m z last) in
    let ss : truths (part 1408 512 cells) ≡ m.shows =
    ap truths (part_is cells 1408 512 (bytes_of m.shows) _ (length_bytes m.shows ∙ z.shows) (from_shows m z last)) ∙ truths_bytes m.shows in
    let fs : truths (part 1920 8 cells) ≡ m.finals =
    ap truths (part_is cells 1920 8 (bytes_of m.finals) last (length_bytes m.finals ∙ z.finals) (from_finals m z last)) ∙ truths_bytes m.finals in
    rw (at 0 (omega arith), at 1 (omega arith), at 2 (omega arith), at 3 (omega arith), at 4 (omega arith), at 5 (omega arith), at 6 (omega arith), at 7 (omega arith), rs, ms, ss, fs, r, k)

-- what lies before the last bytes
front : (m : Model) (last : List ℕ) → laid m last ≡ laid m [] ++ last
unfolding laid
front m last =
    let rs = m.rulerows in
    let ms = m.moverows in
    let ss = bytes_of m.shows in
    let fs = bytes_of m.finals in
    sym
    (append_assoc rs (ms ++ (ss ++ (fs ++ []))) last
    ∙ ap (λ xs. rs ++ xs) (append_assoc ms (ss ++ (fs ++ [])) last
    ∙ ap (λ xs. ms ++ xs) (append_assoc ss (fs ++ []) last
    ∙ ap (λ xs. ss ++ (xs ++ last)) (append-nil fs))))

front_length : (m : Model) → Sized m → length (laid m []) ≡ 1928
unfolding laid
front_length m z =
    let rs = m.rulerows in
    let ms = m.moverows in
    let ss = bytes_of m.shows in
    let fs = bytes_of m.finals in
    let a = length-append rs (ms ++ (ss ++ (fs ++ []))) in
    let b = length-append ms (ss ++ (fs ++ [])) in
    let c = length-append ss (fs ++ []) in
    let d = length-append fs [] in
    omega (arith, a, b, c, d, length_bytes m.shows, length_bytes m.finals, z.rules, z.moves, z.shows, z.finals)

-- the last bytes put
pub last_put : (m : Model) → Sized m → (last vs : List ℕ) → length last ≡ 8 → length vs ≡ 8 → sets (laid m last) 1928 vs ≡ laid m vs
last_put m z last vs l k =
    let n : length (laid m []) ≡ 1928 = front_length m z in
    let e : length (laid m last) ≡ 1936 = ap length (front m last) ∙ length-append (laid m []) last ∙ omega arith in
    sets-eq vs (laid m last) 1928 (omega arith)
    ∙ ap (λ xs. take 1928 xs ++ vs ++ drop (1928 + length vs) (laid m last)) (front m last)
    ∙ ap (λ xs. xs ++ vs ++ drop (1928 + length vs) (laid m last)) (take_at (laid m []) last 1928 n)
    ∙ ap (λ xs. laid m [] ++ vs ++ xs) (drop_of_length-le (laid m last) {i = 1928 + length vs} (omega arith))
    ∙ append-nil (laid m [] ++ vs)
    ∙ sym (front m vs)
