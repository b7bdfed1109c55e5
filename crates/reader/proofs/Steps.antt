-- Each line that is taken keeps what holds of the draft. Assumes nothing.
use mathlib.Core.Bool.{Bool, true, false}
use mathlib.Core.List.{[], ◌∷◌, ◌++◌}
use mathlib.Core.Logic.{◌⊎◌, inl, inr}
use mathlib.Core.Path.{◌≡◌, refl, ap, sym}
use Prim.Native.Nat.{ℕ, zero, suc, ◌+◌, ◌*◌, ◌≤◌}
use native.Mathlib.Omega.{arith}
use lib.ListN.{get_or, replicate, length-replicate}
use Rattle.numbers.specs.Number.{nth}
use Rattle.numbers.specs.declared.Numbers.{Numbers}
use Rattle.line.specs.declared.words.Line.{Line}
use Rattle.modelline.specs.declared.Word.{Word}
use Rattle.modelline.specs.declared.Word.TheVariants.{Size, Start, Final, Event, Exit, Direct, Call, Move, Unknown}
use Rattle.model.specs.Model.{rule_by}
use Rattle.limits.specs.Limits.{RuleFits, Fits}
use Rattle.draft.specs.Draft.{Draft}
use Rattle.draft.specs.Lines.{counts_of, rule_line, after, take_line}
use Rattle.draft.proofs.Stores.{gone_on}
use Rattle.reader.specs.Reading.{empty}
use Rattle.reader.specs.Text.{fresh}
use Rattle.reader.specs.Says.{Said, nothing, add_rule, more, and_line}
use Rattle.reader.proofs.Good.{Good, final_line, event_line, rule_line_lem, move_line}

all_false : (n i : ℕ) → get_or (replicate n false) i false ≡ false
all_false zero i = refl
all_false (suc n) zero = refl
all_false (suc n) (suc i) = all_false n i

module _ {s : Said} {d : Draft} (h : Good s d) where
  rule_kept : (kind : ℕ) (n : Numbers) → kind ≤ 2 → RuleFits (counts_of d) n → Good (add_rule s (rule_by kind (nth n 0) (nth n 1) (nth n 2))) (rule_line kind d n)
  rule_kept kind n k (few, l, l1, l2) =
      record {
        sizes = h.sizes;
        start = h.start;
        finals = h.finals;
        events = h.events;
        rules = rule_line_lem h.rules kind (nth n 0) (nth n 1) (nth n 2) few k l l1 l2;
        moves = h.moves;
      }

  kept : (w : Word) (n : Numbers) → Fits (counts_of d) w n → Good (more s w n) (after d w n)
  kept Size n (none, g, q, e) = absurd (omega (arith, h.sizes.some_symbol))
  kept Start n (unstarted, l, k) =
      record {
        sizes = h.sizes;
        start = record {
          none = λ e. absurd (omega arith);
          one = λ _. ap (λ xs. xs ++ (nth n 0, nth n 1) ∷ []) (h.start.none unstarted);
          state_in = λ _. l;
          symbol_in = λ _. k;
        };
        finals = h.finals;
        events = h.events;
        rules = h.rules;
        moves = h.moves;
      }
  kept Final n l =
      record {
        sizes = h.sizes;
        start = h.start;
        finals = final_line h.finals (nth n 0) (omega (arith, h.sizes.most_states));
        events = h.events;
        rules = h.rules;
        moves = h.moves;
      }
  kept Event n (l, k) =
      record {
        sizes = h.sizes;
        start = h.start;
        finals = h.finals;
        events = event_line h.events (nth n 0) (nth n 1) (omega (arith, h.sizes.most_symbols)) (omega (arith, h.sizes.most_events));
        rules = h.rules;
        moves = h.moves;
      }
  kept Exit n t = rule_kept 0 n (omega arith) t
  kept Direct n t = rule_kept 1 n (omega arith) t
  kept Call n t = rule_kept 2 n (omega arith) t
  kept Move n (few, l, k, l') =
      record {
        sizes = h.sizes;
        start = h.start;
        finals = h.finals;
        events = h.events;
        rules = h.rules;
        moves = move_line h.moves (record { source = nth n 0; event = nth n 1; target = nth n 2 }) few l k l';
      }
  kept Unknown n t = absurd t

-- the first line is the size
first_kept : (w : Word) (n : Numbers) → Fits (counts_of fresh) w n → Good (more nothing w n) (after fresh w n)
unfolding empty
first_kept Size n (_, (g, g'), (q, q'), (e, e')) =
    record {
      sizes = record { some_symbol = g; most_symbols = g'; some_state = q; most_states = q'; some_event = e; most_events = e'; same = refl };
      start = record { none = λ _. refl; one = λ n. absurd (n refl); state_in = λ n. absurd (n refl); symbol_in = λ n. absurd (n refl) };
      finals = record { room = length-replicate 8 false; same = λ q. all_false 8 q };
      events = record { room = length-replicate 512 false; same = λ g e l. all_false 512 (g * 16 + e) };
      rules = record { few = omega arith; room = length-replicate {A = ℕ} 1024 0; all_in = λ r l. absurd (omega arith); same = refl };
      moves = record { few = omega arith; room = length-replicate {A = ℕ} 384 0; all_in = λ v l. absurd (omega arith); same = refl };
    }
first_kept Start n (_, l, k) = absurd (omega arith)
first_kept Final n l = absurd (omega arith)
first_kept Event n (l, k) = absurd (omega arith)
first_kept Exit n (few, l, l1, l2) = absurd (omega arith)
first_kept Direct n (few, l, l1, l2) = absurd (omega arith)
first_kept Call n (few, l, l1, l2) = absurd (omega arith)
first_kept Move n (few, l, k, l') = absurd (omega arith)
first_kept Unknown n t = absurd t

-- before the first line, and after it
abbrev pub Held : Said → Draft → Type 0
Held s d = ((s ≡ nothing) × (d ≡ fresh)) ⊎ Good s d

-- a line that is taken
pub line_kept : {s : Said} {d : Draft} (l : Line Word) → Held s d → (take_line d l).refusal ≡ 0 → Good (and_line s l) (take_line d l).draft
line_kept l (inl (p, q)) e = let (t, r) = gone_on _ l e in rw (r, p, q) (first_kept l.word l.numbers (rw q at t))
line_kept {s} {d} l (inr h) e = let (t, r) = gone_on d l e in rw r (kept h l.word l.numbers t)
