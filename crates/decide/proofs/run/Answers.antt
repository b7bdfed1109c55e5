-- `decide::run` meets its contract: the start of the rounds, and what they leave. Assumes nothing.
use mathlib.Core.Path.{sym, ◌∙◌}
use Rattle.model.proofs.Valid.{valid_sizes}
use Rattle.lent.specs.Lending.{of_lent, model_in}
use Rattle.decide.proofs.Emptied.{empty_first}
use Rattle.steps.proofs.Rows.{lies}
use Rattle.decide.proofs.Tested.{steps_read}
use Rattle.decide.proofs.Starting.{symbol_in, driving, heads_same, triples_same, ran}
use Rattle.decide.proofs.run.Goals as goal

pub first_rules-first-requires : goal.first_rules-first-requires
unfolding model_in
first_rules-first-requires c =
    let v = c.requires.able.valid_model in
    record { count_bound = (valid_sizes _ v).rules; g_bound = symbol_in _ v (lies _ c.args.m.now) c.goal_of-goal.ensures; empty = empty_first 384 }

pub run-requires : goal.run-requires
unfolding model_in
run-requires c =
    let cells = c.args.m.now in
    let m = of_lent c.args.shape cells in
    let tg-is = c.class_steps-tg.ensures ∙ sym (steps_read cells c.requires.shape_value) in
    driving m c.requires.able.valid_model (lies _ cells) c.requires.able c.goal_of-goal.ensures c.start.ensures c.first_rules-first.ensures tg-is

pub shape_of-heads : goal.shape_of-heads
unfolding model_in
shape_of-heads c =
    let cells = c.args.m.now in
    let m = of_lent c.args.shape cells in
    let tg-is = c.class_steps-tg.ensures ∙ sym (steps_read cells c.requires.shape_value) in
    heads_same m c.requires.able.valid_model (lies _ cells) c.requires.able c.goal_of-goal.ensures c.start.ensures c.first_rules-first.ensures tg-is c.run.ensures

pub shape_of-triples : goal.shape_of-triples
unfolding model_in
shape_of-triples c =
    let cells = c.args.m.now in
    let m = of_lent c.args.shape cells in
    let tg-is = c.class_steps-tg.ensures ∙ sym (steps_read cells c.requires.shape_value) in
    triples_same m c.requires.able.valid_model (lies _ cells) c.requires.able c.goal_of-goal.ensures c.start.ensures c.first_rules-first.ensures tg-is c.run.ensures

pub returns : goal.returns
unfolding model_in
returns c =
    let cells = c.args.m.now in
    let m = of_lent c.args.shape cells in
    let tg-is = c.class_steps-tg.ensures ∙ sym (steps_read cells c.requires.shape_value) in
    ran m c.requires.able.valid_model (lies _ cells) c.requires.able c.goal_of-goal.ensures c.start.ensures c.first_rules-first.ensures tg-is c.run.ensures
