-- Each contract allows one outcome. Assumes nothing.
use mathlib.Core.Path.{sym, ◌∙◌}
use Rattle.listing.proofs.Cases as listing
use Rattle.printing.proofs.Whole as printing
use Rattle.decide.proofs.Coincide.{decided_one}
use Rattle.recheck.proofs.Answers as recheck
use Rattle.trace.proofs.Outcome.{outcome_one}
use Rattle.reader.proofs.Accepted as read
use Rattle.replay.proofs.Outcomes.{one_outcome}
use Rattle.claims.specs.OneOutcome.{OneOutcome}

pub each_one : OneOutcome
each_one = record {
  reading = λ text r r' cells cells' e e'. read.one_outcome e e';
  listing = λ m text hs ts hs' hs'' ts' ts'' r r' a b. (listing.meaning_one r r' (a.answer ∙ sym b.answer), a.heads_left_lem ∙ sym b.heads_left_lem, a.triples_left_lem ∙ sym b.triples_left_lem);
  writing = λ m rounds hs ts out out' out'' r r' a b. (printing.meaning_one r r' (a.answer ∙ sym b.answer), a.leaves ∙ sym b.leaves);
  deciding = decided_one;
  checking = λ m hs ts r r' e e'. recheck.meaning_one r r' (e ∙ sym e');
  tracing = outcome_one;
  replaying = λ m steps stack stack' stack'' r r' a b. one_outcome m steps stack a b;
}
