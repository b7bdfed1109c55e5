-- The model as far as its text is read, and a model of which the outline alone is known. Assumes nothing.
use Rattle.std.specs.Prelude.{[], ℕ}
use Rattle.model.specs.declared.Model.{Model}
use Rattle.draft.specs.declared.Outline.{Outline}

-- `started` is 1 from the start line on; before the size line there are no symbols
pub record Draft : Type 0 where
  pub started : ℕ
  pub model : Model

-- what a line does: a refusal's number and the draft before it, or 0 and the draft after it
pub record Taken : Type 0 where
  pub refusal : ℕ
  pub draft : Draft

-- a draft out of its outline alone: nothing is known of its rules, moves and truths
abbrev pub bare : Outline → Draft
bare o = record {
  started = o.counts.started;
  model = record {
    symbols = o.counts.symbols;
    states = o.counts.states;
    events = o.counts.events;
    startstate = o.startstate;
    startsymbol = o.startsymbol;
    finals = [];
    shows = [];
    rules = o.counts.rules;
    rulerows = [];
    moves = o.counts.moves;
    moverows = [];
  };
}
