-- The rounds in which facts are added, and the rank of a fact. Assumes nothing.
use Rattle.std.specs.Prelude.{Bool, not, ◌&&◌, ◌||◌, ℕ, zero, suc, ◌≤◌, T}
use Rattle.product.specs.Lists.{all, any}
use Rattle.product.specs.Product.{Product}
use Rattle.product.specs.Facts.{Fact, Way, needs, same, first, cells, ways}

-- the way gives f out of facts of the set h
abbrev pub works : (Fact → Bool) → Fact → Way → Bool
works h f w = same w.gives f && all h (needs w)

-- the fact is held after n rounds that begin with the set h: each round adds what some way gives out of facts already held
unfoldable pub grown : Product → (Fact → Bool) → ℕ → Fact → Bool
grown p h zero f = h f
grown p h (suc n) f = grown p h n f || any (works (grown p h n) f) (ways p)

-- round n + 1 adds a fact
abbrev pub news : Product → (Fact → Bool) → ℕ → Bool
news p h n = any (λ f. not (grown p h n f) && grown p h (suc n) f) (cells p)

-- the fact is held after round n, where round 0 holds the start head alone
abbrev pub held : Product → ℕ → Fact → Bool
held p = grown p (same (first p))

-- the rank of a fact: the round that added it
abbrev pub Rank : Product → Fact → ℕ → Type 0
Rank p f n = T (held p n f) × ((k : ℕ) → T (held p k f) → n ≤ k)
