-- `lent::next_state` meets its contract: rule and move are there, the move starts at q, and the symbol that was read shows its event. Assumes nothing.
use mathlib.Core.Path.{sym, ◌∙◌}
use Rattle.model.proofs.Answers.{is_elsewhere, is_unseen, is_step}
use Rattle.lent.specs.Lending.{model_in}
use Rattle.lent.proofs.Parts.{not_there, is_there}
use Rattle.lent.proofs.next_state.Goals as goal

pub returns-then-not-has : goal.returns-then-not-has
returns-then-not-has c =
    let a = c.args in
    record { value = not_there (model_in a.m.now) a.r a.v a.q (sym c.has.ensures ∙ c.if-not-has.true); in_byte = tt }

pub returns-then-by-q : goal.returns-then-by-q
unfolding model_in
returns-then-by-q c =
    let a = c.args in
    let m = model_in a.m.now in record { value = is_there m a.r a.v a.q (sym c.has.ensures ∙ c.if-not-has.false) (is_elsewhere m.rulerows m.moverows m.shows a.r a.v a.q c.move_at-by.ensures.value c.if-by-q.true); in_byte = tt }

pub returns-then-not-shows : goal.returns-then-not-shows
unfolding model_in
returns-then-not-shows c =
    let a = c.args in
    let m = model_in a.m.now in
    record {
      value = is_there m a.r a.v a.q (sym c.has.ensures ∙ c.if-not-has.false)
          (is_unseen m.rulerows m.moverows m.shows a.r a.v a.q c.move_at-by.ensures.value c.if-by-q.false c.rule_at.ensures c.symbol-g.ensures c.shows.ensures (c.if-not-shows.true));
      in_byte = tt;
    }

pub returns : goal.returns
unfolding model_in
returns c =
    let a = c.args in
    let m = model_in a.m.now in
    record {
      value = is_there m a.r a.v a.q (sym c.has.ensures ∙ c.if-not-has.false)
          (is_step m.rulerows m.moverows m.shows a.r a.v a.q c.move_at-by.ensures.value c.if-by-q.false c.rule_at.ensures c.symbol-g.ensures c.shows.ensures (c.if-not-shows.false));
      in_byte = c.move_at-by.ensures.target_bound;
    }
