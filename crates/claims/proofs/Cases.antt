-- The sharp cases hold. Assumes nothing.
use mathlib.Core.Bool.{true}
use mathlib.Core.Path.{◌≡◌, refl}
use Rattle.product.specs.Lists.{each, all}
use Rattle.product.specs.Runs.{step}
use Rattle.product.specs.Rounds.{grown}
use Rattle.product.specs.Verdict.{violated, adds, answer_from, answer}
use Rattle.product.specs.Trace.{trace}
use Rattle.product.specs.Replay.{replay_from, replay}
use Rattle.product.specs.Check.{checked}
use Rattle.model.specs.Valid.{valid}
use Rattle.model.specs.Cases.{cases, models}

pub cases_hold : each cases (λ c. c.given) ≡ each cases (λ c. c.said)
unfolding cases grown violated adds answer_from answer trace step replay_from replay checked
cases_hold = refl

pub models_valid : all valid models ≡ true
unfolding models valid
models_valid = refl
