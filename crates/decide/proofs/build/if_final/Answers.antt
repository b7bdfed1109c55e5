-- `decide::build::if_final` meets its contract. Assumes nothing.
use Rattle.lent.specs.Lending.{product_in}
use Rattle.decide.proofs.Building.{final_bit, not_final}
use Rattle.decide.proofs.build.if_final.Goals as goal

pub returns-then-is_final : goal.returns-then-is_final
returns-then-is_final c =
    final_bit (product_in c.args.m.now).final _ c.requires c.is_final.ensures c.if-is_final.true

pub returns : goal.returns
returns c =
    not_final (product_in c.args.m.now).final _ c.is_final.ensures c.if-is_final.false
