-- The parts of a round make a round. Assumes nothing.
use mathlib.Core.List.{List}
use mathlib.Core.Path.{◌≡◌, refl, subst}
use Prim.Native.Nat.{ℕ, suc, ◌<◌}
use lib.Dec.{T}
use Rattle.product.specs.Product.{Product, InRange}
use Rattle.product.specs.Rounds.{held}
use Rattle.table.specs.declared.Size.{Size}
use Rattle.bits.specs.Matrix.{mats}
use Rattle.relations.specs.Quiet.{Enough}
use Rattle.decide.specs.Sets.{chosen}
use Rattle.decide.specs.Stamp.{of_heads, of_triples}
use Rattle.decide.specs.Take.{Took, from_classes, TriplesReady, TriplesDone}
use Rattle.decide.specs.Show.{HeadsReady, HeadsDone}
use Rattle.decide.specs.Frame.{Frame}
use Rattle.decide.specs.Standing.{Standing, Begins, Ends}
use Rattle.decide.proofs.Taking.{room_after}
use Rattle.decide.proofs.RoundTriples.{all_fit, stored_next, triples_held, triples_ranked, triples_quiet, triples_fresh}
use Rattle.decide.proofs.RoundHeads.{rows_fit, heads_held, heads_ranked, heads_quiet, heads_fresh}

module _ {p : Product} {z : Size} {n : ℕ} {wt wh rs tg by₀ e hd hs ts : List ℕ} (r : Begins p z n wt wh rs tg by₀ e hd hs ts) where
  abbrev R : InRange p
  R = r.arrays.in_range

  abbrev F : Frame p z.states rs tg
  F = r.arrays.frame

  abbrev s : Standing p z n e hd hs ts
  s = r.standing

  abbrev only : (i : ℕ) → T (chosen wt i) → i < p.rules
  only = r.sets.triples_only

  abbrev only' : (i : ℕ) → T (chosen wh i) → i < p.rules
  only' = r.sets.heads_only

  abbrev enough : Enough p (chosen wt) (chosen wh) (held p n)
  enough = r.sets.enough

  pub heads_ready : HeadsReady z wh rs tg e hd hs
  heads_ready = record {
    few = r.sets.heads_long;
    room = s.heads_room;
    fit = λ {t} {nh} shows.
        rows_fit p R z.states rs tg F n e hd s.triples_held s.heads_held wh nh only' shows.rows (chosen wt) enough z refl r.arrays.symbols_are;
  }

  pub triples_ready : TriplesReady z wt rs tg by₀ e ts
  triples_ready = record {
    few = r.sets.triples_long;
    long = r.stored.long;
    room = s.triples_room;
    fit = λ {t} {by'} gains.
        all_fit p R z.states rs tg F n e s.triples_held wt t by₀ by' only (chosen wh) enough r.stored gains z refl r.arrays.symbols_are;
  }

  pub round_ends : {k : ℕ} → k ≡ suc n → {ce ch : ℕ} {by nh' e' hd' hs' ts' : List ℕ} → HeadsDone z k wh rs tg e hd hs ch nh' hd' hs' → TriplesDone z k wt rs tg by₀ e ts ce by e' ts'
      → Ends p z n rs tg hs ts ce ch by e' hd' hs' ts'
  round_ends k-is {ce} {ch} {by} {nh'} {e'} {hd'} {hs'} {ts'} a b =
      let w = b.touched in
      let nh = a.rows in
      let gains = b.gains in
      let shows = a.shows in
      let u : Took of_triples z (suc n) (from_classes tg by w) e ts ce e' ts' = subst (λ k. Took of_triples z k (from_classes tg by w) e ts ce e' ts') k-is b.took in
      let v : Took of_heads z (suc n) (mats nh) hd hs ch hd' hs' = subst (λ k. Took of_heads z k (mats nh) hd hs ch hd' hs') k-is a.settles.took in
      record {
        standing = record {
          triples_held = triples_held p R z.states rs tg F n e s.triples_held wt w by₀ by only (chosen wh) enough r.stored gains z ts ce e' ts' u;
          heads_held = heads_held p R z.states rs tg F n e hd s.triples_held s.heads_held wh nh only' shows.rows (chosen wt) enough z hs ch hd' hs' v;
          triples_ranked = triples_ranked p R z.states rs tg F n e s.triples_held wt w by₀ by only (chosen wh) enough r.stored gains z ts ce e' ts' u s.triples_ranked;
          heads_ranked = heads_ranked p R z.states rs tg F n e hd s.triples_held s.heads_held wh nh only' shows.rows (chosen wt) enough z hs ch hd' hs' v s.heads_ranked;
          triples_room = room_after u s.triples_room;
          heads_room = room_after v s.heads_room;
        };
        stored = stored_next p R z.states rs tg F n e s.triples_held wt w by₀ by only (chosen wh) enough r.stored gains;
        triples_kept = record { as_long = u.table.as_long; past = u.table.past };
        heads_kept = record { as_long = v.table.as_long; past = v.table.past };
        triples_quiet = triples_quiet p R z.states rs tg F n e s.triples_held wt w by₀ by only (chosen wh) enough r.stored gains z ts ce e' ts' u;
        heads_quiet = heads_quiet p R z.states rs tg F n e hd s.triples_held s.heads_held wh nh only' shows.rows (chosen wt) enough z hs ch hd' hs' v;
        triples_fresh = triples_fresh p R z.states rs tg F n e s.triples_held wt w by₀ by only (chosen wh) enough r.stored gains z ts ce e' ts' u;
        heads_fresh = heads_fresh p R z.states rs tg F n e hd s.triples_held s.heads_held wh nh only' shows.rows (chosen wt) enough z hs ch hd' hs' v;
      }
