-- A run of the machine: between two steps, what is left to replay from where it stands gives what was asked. Assumes nothing.
use mathlib.Core.Bool.{Bool, true, false, cond}
use mathlib.Core.List.{List, [], ◌∷◌}
use mathlib.Core.Option.{Option, none, some}
use mathlib.Core.Path.{◌≡◌, refl, sym, ap, ◌∙◌, subst, subst⁻¹}
use Prim.Native.Nat.{ℕ, suc, ◌+◌, ◌<◌, ◌≤◌}
use native.Mathlib.Numerals.{add-one}
use native.Mathlib.Omega.{arith}
use lib.Dec.{T}
use lib.ListN.{length, get_or, set, drop}
use lib.Seq.{drop-cons, drop-length, drop-set-lt, get_or-set_same}
use Rattle.product.specs.Lists.{each}
use Rattle.product.specs.Product.{pushed, Step, Product, InRange, loaded}
use Rattle.product.specs.Runs.{State, step}
use Rattle.product.specs.Replay.{replays, stops, replay_from, replay}
use Rattle.product.proofs.Lists.{All-map}
use Rattle.model.specs.declared.Model.{Model}
use Rattle.model.specs.declared.Shape.{Shape}
use Rattle.model.specs.Model.{rule, final, product_of}
use Rattle.lent.specs.Lending.{shape_in, model_in, product_in}
use Rattle.model.specs.Valid.{valid}
use Rattle.model.proofs.Valid.{Sizes, valid_sizes, product_in_lem}
use Rattle.replay.specs.declared.Machine.{Machine}
use Rattle.replay.specs.declared.Outcome.{Outcome}
use Rattle.replay.specs.declared.Outcome.TheVariants.{Moved, Blocked, Arrived}
use Rattle.std.specs.Prelude.{Ok, Err}
use Rattle.replay.specs.declared.ReplayError.TheVariants.{Bad}
use Rattle.replay.specs.Replay.{Replayed, replayed_as}
use Rattle.replay.specs.Machine.{below, Ready, machine, outcome, Held, Stepped, Ran}

-- what the outcome of a step says of it
module _ (p : Product) (number : ℕ) where
  never : (x : Machine) {n : ℕ} {B : Type 0} (b : Bool) → cond b (Arrived x) (Moved x) ≡ Blocked n → B
  never x true e = let z : ◌≡◌ {A = ℕ} 0 1 = cc in absurd (omega arith)
  never x false e = let z : ◌≡◌ {A = ℕ} 0 1 = cc in absurd (omega arith)

  was_blocked : (c : Option State) {n : ℕ} → outcome p number c ≡ Blocked n → (c ≡ none) × (number ≡ n)
  was_blocked none e = (refl, cc)
  was_blocked (some (q, w)) e = never (machine (q, w)) (p.final q) e

  Led : Bool → Machine → Option State → Type 0
  Led b x c = (w : List ℕ) × (c ≡ some (x.state, w)) × (length w ≡ x.depth) × (p.final x.state ≡ b)

  was_led : (b : Bool) (x : Machine) (c : Option State) → outcome p number c ≡ cond b (Arrived x) (Moved x) → Led b x c
  unfolding Led
  was_led b x none e = never x b (sym e)
  was_led b x (some (q, w)) e = go b (p.final q) refl e
    where
      to : (b : Bool) → p.final q ≡ b → machine (q, w) ≡ x → Led b x (some (q, w))
      to b f i = subst (λ (x : Machine). Led b x (some (q, w))) i (w, refl, refl, f)

      go : (b b' : Bool) → p.final q ≡ b' → cond b' (Arrived (machine (q, w))) (Moved (machine (q, w))) ≡ cond b (Arrived x) (Moved x) → Led b x (some (q, w))
      go true true f e = to true f cc
      go false false f e = to false f cc
      go true false f e = let z : ◌≡◌ {A = ℕ} 0 1 = cc in absurd (omega arith)
      go false true f e = let z : ◌≡◌ {A = ℕ} 0 1 = cc in absurd (omega arith)

-- how a replay goes on
module _ (p : Product) (k : ℕ) (c : State) where
  goes_on : (s : Step) (ss : List Step) {d : State} → step p s c ≡ some d → replay_from p k c (s ∷ ss) ≡ replay_from p (suc k) d ss
  unfolding replay_from
  goes_on s ss e = rw (e, replay_from)

  breaks : (s : Step) (ss : List Step) → step p s c ≡ none → replay_from p k c (s ∷ ss) ≡ stops (suc k)
  unfolding replay_from
  breaks s ss e = rw (e, replay_from)

  ends : (b : Bool) → p.final c.0 ≡ b → replay_from p k c [] ≡ cond b replays (stops (suc k))
  unfolding replay_from
  ends true e = rw (e, replay_from)
  ends false e = rw (e, replay_from)

-- in a valid model that is lent a step asks no more than a cell above the top
pub ready : (m : Model) → T (valid m) → (cells : List ℕ) (depth : ℕ) → depth < length cells → Ready (product_of m) cells depth
ready m t cells depth l =
    let z : Sizes m = valid_sizes m t in
    let i : InRange (product_of m) = product_in_lem m t in
    record {
      symbols = λ s q q' h. All-map (λ g. g < m.symbols) (λ g. g < 256) (λ g h. omega arith) (pushed (rule m s.by_rule)) (i.rules_in s.by_rule (i.steps_in s q q' h).0).1;
      room = l;
    }

-- After k steps: the machine, whether its state is final, and the cells.
pub record Doing (m : Model) (steps cells₀ : List ℕ) (k : ℕ) (at : Machine) (accepting : Bool) (cells : List ℕ) : Type 0 where
  pub upto : k ≤ length steps
  pub deep : at.depth ≤ k + 1
  pub long : length cells ≡ length cells₀
  pub rest : drop (length steps + 1) cells ≡ drop (length steps + 1) cells₀
  pub to_do : replay_from (product_of m) k (at.state, below cells at.depth) (each (drop k steps) loaded) ≡ replay (product_of m) (each steps loaded)
  pub final_now : final m at.state ≡ accepting

module _ (m : Model) (steps : List ℕ) where
  begins : (cells : List ℕ) → 0 < length cells
      → Doing m steps (set cells 0 m.startsymbol) 0 (record { state = m.startstate; depth = 1 }) (final m m.startstate) (set cells 0 m.startsymbol)
  unfolding replay
  begins cells l = record {
    upto = omega arith;
    deep = omega arith;
    long = refl;
    rest = refl;
    to_do = rw (get_or-set_same cells 0 m.startsymbol 0 l);
    final_now = refl;
  }

  module _ {cells₀ : List ℕ} {k : ℕ} {at : Machine} {accepting : Bool} {cells : List ℕ} (now : Doing m steps cells₀ k at accepting cells) where
    abbrev here : State
    here = (at.state, below cells at.depth)

    abbrev next : Step
    next = loaded (get_or steps k 0)

    abbrev later : List Step
    later = each (drop (suc k) steps) loaded

    asked : k < length steps → replay_from (product_of m) k here (next ∷ later) ≡ replay (product_of m) (each steps loaded)
    asked l = rw (drop-cons steps k 0 l) at now.to_do

    abbrev Done : Outcome → List ℕ → Type 0
    Done o cells' = Stepped (product_of m) (k + 1) at.depth next here cells o cells'

    rest_after : k < length steps → {o : Outcome} (cells' : List ℕ) → Done o cells' → drop (length steps + 1) cells' ≡ drop (length steps + 1) cells₀
    rest_after l cells' did = did.rest (length steps + 1) (omega (arith, now.deep)) ∙ now.rest

    pub turns : k < length steps → {o : Outcome} {cells' : List ℕ} → Done o cells' → length cells' ≡ length cells
        → (b : Bool) {at' : Machine} → o ≡ cond b (Arrived at') (Moved at') → Doing m steps cells₀ (k + 1) at' b cells'
    unfolding Led
    turns l {o} {cells'} did i b {at'} e =
        let (w, c, d, f) = was_led (product_of m) (k + 1) b at' (step (product_of m) next here) (sym did.came ∙ e) in
        let h : (below cells' (length w) ≡ w) × (length w ≤ at.depth + 1) = subst (Held cells' at.depth) c did.held in
        let stack : below cells' at'.depth ≡ w = ap (below cells') (sym d) ∙ h.0 in
        record {
          upto = omega arith;
          deep = omega (arith, h.1, now.deep);
          long = i ∙ now.long;
          rest = rest_after l cells' did;
          to_do = rw (add-one, stack) (sym (goes_on (product_of m) k here next later c) ∙ asked l);
          final_now = f;
        }

    pub blocked : k < length steps → {o : Outcome} {cells' : List ℕ} → Done o cells' → {n : ℕ} → o ≡ Blocked n → Ran m steps cells₀ (Err (Bad n)) cells'
    blocked l {o} {cells'} did {n} e =
        let (c, i) = was_blocked (product_of m) (k + 1) (step (product_of m) next here) (sym did.came ∙ e) in
        record {
          answer = rw (sym (asked l) ∙ breaks (product_of m) k here next later c) (ap (λ n. Err (Bad n)) (sym i ∙ add-one k));
          rest = rest_after l cells' did;
        }

    pub finished : length steps ≤ k → (b : Bool) → accepting ≡ b → Ran m steps cells₀ (cond b (Ok tt) (Err (Bad (length steps + 1)))) cells
    finished l b e =
        let i : k ≡ length steps = omega (arith, now.upto) in
        let none_left : drop k steps ≡ [] = rw i (drop-length steps) in
        let x : replay_from (product_of m) k here [] ≡ replay (product_of m) (each steps loaded) = rw none_left at now.to_do in
        record { answer = rw (← i) (rw (sym x ∙ ends (product_of m) k here b (now.final_now ∙ e)) (said b)); rest = now.rest }
      where
        said : (b : Bool) → cond b (Ok tt) (Err (Bad (k + 1))) ≡ replayed_as (cond b replays (stops (suc k)))
        said true = refl
        said false = ap (λ n. Err (Bad n)) (add-one k)

  -- the start symbol is put into the first cell before the run
  from_start : (cells : List ℕ) {r : Replayed} {cells' : List ℕ} → Ran m steps (set cells 0 m.startsymbol) r cells' → Ran m steps cells r cells'
  from_start cells h = record { answer = h.answer; rest = h.rest ∙ drop-set-lt (length steps + 1) cells 0 m.startsymbol (omega arith) }

-- a run of the lent model, by the shape that was read
module _ (cells steps stack : List ℕ) {s : Shape} (read : s ≡ shape_in cells) where
  abbrev begun : Shape → Bool → Type 0
  begun s b = Doing (model_in cells) steps (set stack 0 s.startsymbol) 0 (record { state = s.startstate; depth = 1 }) b (set stack 0 s.startsymbol)

  pub begins_lent : {b : Bool} → b ≡ (product_in cells).final s.startstate → 0 < length stack → begun s b
  unfolding model_in
  begins_lent e l =
      subst⁻¹ (begun s) e
      (subst⁻¹ (λ (s : Shape). begun s ((product_in cells).final s.startstate)) read (begins (model_in cells) steps stack l))

  pub ran_lent : {r : Replayed} {stack' : List ℕ} → Ran (model_in cells) steps (set stack 0 s.startsymbol) r stack' → Ran (model_in cells) steps stack r stack'
  unfolding model_in
  ran_lent {r} {stack'} h = from_start (model_in cells) steps stack (subst (λ (s : Shape). Ran (model_in cells) steps (set stack 0 s.startsymbol) r stack') read h)
