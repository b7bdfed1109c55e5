-- A word that is found is the first field of the line, and where none is found, the line's word is unknown. Assumes nothing.
use mathlib.Core.Path.{◌≡◌, refl, ap, sym, ◌∙◌}
use mathlib.Core.Bool.{Bool, true, false, ◌&&◌}
use mathlib.Core.List.{List, [], ◌∷◌, map}
use Prim.Native.Nat.{ℕ, ◌+◌, ◌<◌}
use native.Mathlib.Omega.{arith}
use lib.Dec.{T, ltb}
use lib.ListN.{length, get_or}
use borrow.Author.Tests.{ltb-true, ltb-false}
use Rattle.std.specs.Prelude.{Option, Some, None, cond}
use Rattle.std.specs.List.{find}
use Rattle.std.specs.Option.{option_map}
use Rattle.std.specs.Borrow.{Bor}
use Rattle.text.specs.Split.{first, split, without}
use Rattle.text.proofs.Bytes.{equal_same}
use Rattle.text.proofs.Split.{no_later}
use Rattle.text.proofs.Stops.{line_on, fields_after, end_after, place_inside}
use Rattle.numbers.specs.declared.FieldsRead.{FieldsRead}
use Rattle.numbers.specs.declared.Numbers.{Numbers}
use Rattle.numbers.specs.Number.{wrong}
use Rattle.numbers.specs.Field.{field, fields_by}
use Rattle.line.specs.Line.{spells, from}
use Rattle.line.specs.Words.{spelled, are_plain, said, ended, line_from, line_by, line_of, line_at}
use Rattle.line.proofs.Spelled.{begins, differs}
use Rattle.line.proofs.Behind.{from_past, from_there}

-- a word that is plain, and so are the others
parts : (a b c : Bool) → ((a && b) && c) ≡ true → (T a × T b) × (c ≡ true)
parts true true c e = ((tt, tt), e)
parts true false c e = cc
parts false b c e = cc

module _ {W : Type 0} (other : W) (s : List ℕ) where
  -- a word and its bytes, as the code has them
  abbrev Named : Type 0
  Named = (Bor (List ℕ)) × W

  -- s begins with this word
  abbrev IsAt : Named → Bool
  IsAt v = spells s v.0.now

  -- by the word v and the numbers behind it
  known : (words : List ((List ℕ) × W)) (v : Named) → (field s ≡ v.0.now) × (get_or s (length v.0.now) 10 ≡ 9)
      → (length (field s) < length (first 10 s) → (n : Numbers) → line_by words other (field s) n ≡ said v.1 n)
      → line_from s v.1 (length v.0.now + 1) ≡ line_at words other s
  known words v (p, q) k =
      let w = v.0.now in
      let f : length w ≡ length (field s) = ap length (sym p) in
      let on = line_on 9 10 s f (λ e. let z : ◌≡◌ {A = ℕ} 9 10 = sym q ∙ e in omega arith) in
      let there : fields_by _ _ ≡ from s (length w + 1) = from_there s (length w + 1) (omega (arith, place_inside 9 10 s f on)) refl in
      ap (λ (x : FieldsRead). ended (said v.1 x.numbers) x.end) (sym there)
      ∙ ap (ended _) (end_after 9 10 s f on)
      ∙ ap (λ l. ended l (length (first 10 s))) (sym (ap (λ fs. line_of words other (field s ∷ fs)) (fields_after 9 10 s f on) ∙ k (omega (arith, f, on)) _))

  -- with no word: it stands alone, or it is another
  unknown : (words : List ((List ℕ) × W)) → (length (field s) < length (first 10 s) → (n : Numbers) → line_by words other (field s) n ≡ said other wrong)
      → line_from s other (length s + 1) ≡ line_at words other s
  unknown words another =
      ap (λ (x : FieldsRead). ended (said other x.numbers) x.end) (sym (from_past s (length s + 1) (omega arith) refl))
      ∙ ap (λ l. ended l (length (first 10 s))) (sym (go (ltb (length (field s)) (length (first 10 s))) refl))
    where
      go : (t : Bool) → ltb (length (field s)) (length (first 10 s)) ≡ t → line_of words other (split 9 (first 10 s)) ≡ said other wrong
      go true l = ap (λ fs. line_of words other (field s ∷ fs)) (fields_after 9 10 s refl (ltb-true _ _ l)) ∙ another (ltb-true _ _ l) _
      go false l = ap (λ fs. line_of words other (field s ∷ fs)) (no_later 9 (first 10 s) refl (ltb-false _ _ l))

  -- s begins with v, and its line is by v
  abbrev Says : List Named → Named → Type 0
  Says vs v = ((field s ≡ v.0.now) × (get_or s (length v.0.now) 10 ≡ 9))
      × (length (field s) < length (first 10 s) → (n : Numbers) → line_by (map spelled vs) other (field s) n ≡ said v.1 n)

  -- the word that is found
  by_found : (vs : List Named) → are_plain (map spelled vs) ≡ true → (v : Named) → find IsAt vs ≡ Some v → Says vs v
  by_found [] p v e = absurd (let z : ◌≡◌ {A = Option Named} None (Some v) = e in cc)
  by_found (u ∷ us) p v e = let (plain, others) = parts (without 9 u.0.now) (without 10 u.0.now) _ p in go plain (IsAt u) refl (by_found us others v) e
    where
      go : T (without 9 u.0.now) × T (without 10 u.0.now) → (b : Bool) → IsAt u ≡ b → (find IsAt us ≡ Some v → Says us v) → cond b (Some u) (find IsAt us) ≡ Some v → Says (u ∷ us) v
      go plain true k more e =
          let at = begins s u.0.now plain.0 plain.1 refl k in
          let same : u ≡ v = cc in
          rw (← same) (at, λ on n. rw (at.0, equal_same u.0.now))
      go plain false k more e = ((more e).0, λ on n. rw (differs s u.0.now plain.0 plain.1 refl k on) ((more e).1 on n))

  -- the line by its first field, with no word
  abbrev SaysNone : List Named → Type 0
  SaysNone vs = length (field s) < length (first 10 s) → (n : Numbers) → line_by (map spelled vs) other (field s) n ≡ said other wrong

  by_none : (vs : List Named) → are_plain (map spelled vs) ≡ true → find IsAt vs ≡ None → SaysNone vs
  by_none [] p e = λ on n. refl
  by_none (u ∷ us) p e = let (plain, others) = parts (without 9 u.0.now) (without 10 u.0.now) _ p in go plain (IsAt u) refl (by_none us others) e
    where
      go : T (without 9 u.0.now) × T (without 10 u.0.now) → (b : Bool) → IsAt u ≡ b → (find IsAt us ≡ None → SaysNone us) → cond b (Some u) (find IsAt us) ≡ None → SaysNone (u ∷ us)
      go plain true k more e on n = absurd (let z : ◌≡◌ {A = Option Named} (Some u) None = e in cc)
      go plain false k more e on n = rw (differs s u.0.now plain.0 plain.1 refl k on) (more e on n)

  -- the same of what `find` gives, where these are the words
  module _ {words : List ((List ℕ) × W)} (plain : are_plain words ≡ true) (vs : List Named) (are : map spelled vs ≡ words) (r : Option (Bor Named)) (e : option_map (λ v. v.now) r ≡ find IsAt vs) where
    pub found : (v : Bor Named) → r ≡ Some v → line_from s v.now.1 (length v.now.0.now + 1) ≡ line_at words other s
    found v k =
        let it = by_found vs (ap are_plain are ∙ plain) v.now (sym e ∙ ap (option_map (λ v. v.now)) k) in
        known (map spelled vs) v.now it.0 it.1 ∙ ap (λ w. line_at w other s) are

    pub none_found : r ≡ None → line_from s other (length s + 1) ≡ line_at words other s
    none_found k = unknown (map spelled vs) (by_none vs (ap are_plain are ∙ plain) (sym e ∙ ap (option_map (λ v. v.now)) k)) ∙ ap (λ w. line_at w other s) are
