-- `decide::build::sort_rule` meets its contract. Assumes nothing.
use Rattle.std.proofs.Common.{rules, arith}
use Rattle.decide.proofs.Building.{put_exit, put_direct, put_call}
use Rattle.decide.proofs.build.sort_rule.Goals as goal

pub returns-then-eq : goal.returns-then-eq
returns-then-eq c = put_exit c.row_at-row.ensures c.requires.r_bound _ c.requires.us_len (search rules) c.insert.ensures

pub returns-then-eq-2 : goal.returns-then-eq-2
returns-then-eq-2 c =
    put_direct c.row_at-row.ensures c.requires.r_bound _ _ (omega arith) (search rules) c.symbol_of.ensures.value c.put.ensures c.put-2.ensures
    (search rules)

pub returns : goal.returns
returns c =
    put_call c.row_at-row.ensures c.requires.r_bound _ _ (omega arith) (search rules) c.symbol_of.ensures.value c.put.ensures c.put-2.ensures
    (search rules) c.put-3.ensures c.put-4.ensures
