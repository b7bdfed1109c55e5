-- `line::read_line` meets its contract (Found). Assumes nothing.
use Rattle.std.proofs.Common.{rules, ◌∙◌}
use borrow.Author.Tests.{tests}
use Rattle.std.proofs.lemmas.Iterator.{YieldsList-from_slice}
use Rattle.std.proofs.lemmas.Iterator.Search.{find_from_yields_List}
use Rattle.line.specs.Line.{spells}
use Rattle.line.proofs.Found.{found, none_found}
use Rattle.line.proofs.words.read_line.Goals as goal

pub returns-in-Some : goal.returns-in-Some
returns-in-Some g c =
    let s = c.args.s.now in
    let vs = c.words.result.now in
    let it = find_from_yields_List (λ v. spells s v.0.now) _ _ _ c.find.ensures.ran (YieldsList-from_slice vs cc) (λ x b q k. search (rules, tests)) in
    c.line_from.ensures ∙ found g.W.Words.UNKNOWN s g.met.W.Words.plain vs c.words.ensures _ it _ c.in-Some.is

pub returns-in-None : goal.returns-in-None
returns-in-None g c =
    let s = c.args.s.now in
    let vs = c.words.result.now in
    let it = find_from_yields_List (λ v. spells s v.0.now) _ _ _ c.find.ensures.ran (YieldsList-from_slice vs cc) (λ x b q k. search (rules, tests)) in
    c.line_from-in-None.ensures ∙ rw c.UNKNOWN.ensures (none_found g.W.Words.UNKNOWN s g.met.W.Words.plain vs c.words.ensures _ it c.in-None.is)
