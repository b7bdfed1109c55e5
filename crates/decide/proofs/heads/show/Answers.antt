-- `decide::heads::show` meets its contract. Assumes nothing.
use mathlib.Core.Path.{◌∙◌}
use Rattle.std.proofs.Common.{rules}
use Rattle.decide.proofs.Showing.{other_call, show_exit, show_none, show_direct, show_entered, show_call}
use Rattle.decide.proofs.heads.show.Goals as goal

pub returns-then-eq : goal.returns-then-eq
returns-then-eq c = let a = c.args in show_exit c.row_at-row.ensures a.given.tg.now a.e.now a.hd.now _ (search rules)

pub returns-then-v-eq0 : goal.returns-then-v-eq0
returns-then-v-eq0 c =
    let a = c.args in show_none c.row_at-row.ensures a.given.tg.now a.e.now a.hd.now _ c.land-v.ensures c.if-v-eq0.true

pub returns-then-eq-2 : goal.returns-then-eq-2
returns-then-eq-2 c =
    let a = c.args in show_direct c.row_at-row.ensures a.given.tg.now a.e.now a.hd.now _ c.land-v.ensures c.add_row-t.ensures (search rules)

pub returns-then-back-eq0 : goal.returns-then-back-eq0
returns-then-back-eq0 c =
    let a = c.args in
    show_entered c.row_at-row.ensures a.given.tg.now a.e.now a.hd.now _ c.land-v.ensures c.add_row-t.ensures
    (other_call _ (search rules) (search rules)) c.if-back-eq0.true

pub add_row-requires : goal.add_row-requires
add_row-requires c =
    record { g_bound = c.row_at-row.ensures.under_in; nh_len = c.add_row-t.ensures.as_long ∙ c.requires.nh_len }

pub returns : goal.returns
returns c =
    let a = c.args in
    show_call c.row_at-row.ensures a.given.tg.now a.e.now a.hd.now _ c.land-v.ensures c.add_row-t.ensures
    (other_call _ (search rules) (search rules)) c.through.ensures c.add_row.ensures
