-- What the replay answers in each case, and the cells that it leaves. Assumes nothing.
use mathlib.Core.Bool.{Bool, true, false}
use mathlib.Core.List.{List, ◌++◌}
use mathlib.Core.Path.{◌≡◌, refl, sym, ap, ◌∙◌}
use Prim.Native.Nat.{ℕ, ◌+◌, ◌<◌, ◌≤◌}
use lib.ListN.{length, replicate, drop}
use borrow.Author.Tests.{lt-ltb, le-ltb}
use Rattle.product.specs.Lists.{each}
use Rattle.product.specs.Product.{loaded}
use Rattle.product.specs.Replay as product
use Rattle.product.specs.Replay.{replays, stops, replay, replay_answer}
use Rattle.model.specs.declared.Model.{Model}
use Rattle.model.specs.Model.{product_of}
use Rattle.model.specs.Valid.{valid}
use Rattle.model.proofs.Bounds.{is_valid}
use Rattle.std.specs.Prelude.{Err}
use Rattle.replay.specs.declared.ReplayError.TheVariants.{Invalid, Short}
use Rattle.replay.specs.Replay.{Replayed, meaning, replayed_as, left, Replays}
use Rattle.replay.specs.Machine.{Runs, Ran}

-- after any run the cells are cleared
left_replayed : (x : product.Replayed) (n : ℕ) (cells : List ℕ) → left (replayed_as x) n cells ≡ replicate n 0 ++ drop n cells
left_replayed replays n cells = refl
left_replayed (stops k) n cells = refl

means_replayed : (x : product.Replayed) → meaning (replayed_as x) ≡ replay_answer x
means_replayed replays = refl
means_replayed (stops k) = refl

-- b is what the test of the record gave
module _ (m : Model) (steps cells : List ℕ) {b : Bool} (tested : b ≡ valid m) where
  pub invalid : b ≡ false → Replays m steps cells (Err Invalid) cells
  invalid n = record { answer = rw (sym tested ∙ n); cells = refl }

  pub short : b ≡ true → length cells ≤ length steps → Replays m steps cells (Err Short) cells
  short y l = record { answer = rw (sym tested ∙ y, le-ltb (length steps) (length cells) l); cells = refl }

  pub runs : b ≡ true → length steps < length cells → Runs m steps cells
  runs y l = record { is_valid = is_valid m tested y; room = l }

  pub ran : b ≡ true → length steps < length cells → (r : Replayed) (run cleared : List ℕ) → Ran m steps cells r run
      → cleared ≡ replicate (length steps + 1) 0 ++ drop (length steps + 1) run → Replays m steps cells r cleared
  ran y l r run cleared h e = record {
    answer = rw (sym tested ∙ y, lt-ltb (length steps) (length cells) l) (ap meaning h.answer ∙ means_replayed (replay (product_of m) (each steps loaded)));
    cells =
        e ∙ ap (λ (x : List ℕ). replicate (length steps + 1) 0 ++ x) h.rest
        ∙ sym (ap (λ (r : Replayed). left r (length steps + 1) cells) h.answer ∙ left_replayed (replay (product_of m) (each steps loaded)) (length steps + 1) cells);
  }
