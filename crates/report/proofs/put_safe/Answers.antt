-- `report::put_safe` meets its contract. Assumes nothing.
use Rattle.lent.specs.Lending.{model_in}
use Rattle.report.proofs.Answer.{never_refused_listing}
use Rattle.report.proofs.put_safe.Goals as goal

pub unreachable-requires : goal.unreachable-requires
unreachable-requires c = never_refused_listing (model_in c.args.m.now) c.args.rounds c.requires _ c.in-Err.is c.write_listing-w.ensures
