-- The stack in the lent cells: its depth, stores at or above it, and a rule that replaces its top. Assumes nothing.
use mathlib.Core.List.{List, [], ◌∷◌}
use mathlib.Core.Path.{◌≡◌, refl, ap, subst⁻¹}
use Prim.Native.Nat.{ℕ, zero, suc, ◌+◌, ◌-◌, ◌<◌, ◌≤◌}
use native.Mathlib.Numerals.{add-one}
use native.Mathlib.Omega.{arith}
use lib.ListN.{length, set}
use lib.Seq.{get_or-set_same, get_or-set_other, drop-set-lt, lt-length-set}
use Rattle.product.specs.Product.{pushed}
use Rattle.model.specs.declared.Rule.{Rule}
use Rattle.model.specs.declared.Rule.TheVariants.{Exit, Direct, Call}
use Rattle.model.specs.Answers.{meant}
use Rattle.replay.specs.Machine.{below, Room, Replaced}

pub length_below : (cells : List ℕ) (d : ℕ) → length (below cells d) ≡ d
length_below cells zero = refl
length_below cells (suc d) = ap suc (length_below cells d)

pub below_set : (cells : List ℕ) (d i v : ℕ) → d ≤ i → below (set cells i v) d ≡ below cells d
below_set cells zero i v l = refl
below_set cells (suc d) i v l = rw (get_or-set_other cells i d v 0 (λ e. omega arith), below_set cells d i v (omega arith))

module _ (cells : List ℕ) where
  put_one : (depth g1 : ℕ) → 1 ≤ depth → depth < length cells → Replaced depth (g1 ∷ []) cells depth (set cells (depth - 1) g1)
  put_one zero g1 t l = absurd (omega arith)
  put_one (suc d) g1 t l =
      let e : suc d - 1 ≡ d = omega arith in
      record {
        deep = omega arith;
        stack = subst⁻¹ (λ n. below (set cells n g1) (suc d) ≡ g1 ∷ below cells n) e (rw (get_or-set_same cells d g1 0 (omega arith), below_set cells d d g1 (omega arith)));
        rest = λ k h. rw e (drop-set-lt k cells d g1 (omega arith));
      }

  put_two : (depth g1 g2 : ℕ) → 1 ≤ depth → depth < length cells
      → Replaced depth (g1 ∷ g2 ∷ []) cells (suc depth) (set (set cells (depth - 1) g2) depth g1)
  put_two zero g1 g2 t l = absurd (omega arith)
  put_two (suc d) g1 g2 t l =
      let e : suc d - 1 ≡ d = omega arith in
      let under : List ℕ = set cells d g2 in
      record {
        deep = omega arith;
        stack = subst⁻¹ (λ n. below (set (set cells n g2) (suc d) g1) (suc (suc d)) ≡ g1 ∷ g2 ∷ below cells n) e (rw (
          get_or-set_same under (suc d) g1 0 (lt-length-set cells d g2 l),
          get_or-set_other under (suc d) d g1 0 (λ e. omega arith),
          get_or-set_same cells d g2 0 (omega arith),
          below_set under d (suc d) g1 (omega arith),
          below_set cells d d g2 (omega arith),
        ));
        rest = λ k h. rw (e, drop-set-lt k under (suc d) g1 (omega arith), drop-set-lt k cells d g2 (omega arith));
      }

  -- by the rule that the code was given
  module _ (depth : ℕ) {ρ : Rule} (room : Room cells depth (pushed (meant ρ))) where
    pub direct_byte : {g g1 : ℕ} → ρ ≡ Direct g g1 → g1 < 256
    direct_byte e = (rw e at room).bytes.0

    pub call_bytes : {g g1 g2 : ℕ} → ρ ≡ Call g g1 g2 → (g1 < 256) × (g2 < 256)
    call_bytes e = let r = (rw e at room).bytes in (r.0, r.1.0)

    pub exit_replaced : {g : ℕ} → ρ ≡ Exit g → Replaced depth (pushed (meant ρ)) cells (depth - 1) cells
    exit_replaced e = rw e record { deep = omega arith; stack = refl; rest = λ k h. refl }

    pub direct_replaced : {g g1 : ℕ} → ρ ≡ Direct g g1 → Replaced depth (pushed (meant ρ)) cells depth (set cells (depth - 1) g1)
    direct_replaced {g} {g1} e = rw e (put_one depth g1 room.some_top room.some_cell)

    pub call_replaced : {g g1 g2 : ℕ} → ρ ≡ Call g g1 g2
        → Replaced depth (pushed (meant ρ)) cells (depth + 1) (set (set cells (depth - 1) g2) depth g1)
    call_replaced {g} {g1} {g2} e = rw (e, add-one) (put_two depth g1 g2 room.some_top room.some_cell)
