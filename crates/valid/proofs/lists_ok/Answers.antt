-- The part of a seat is that of its place, and its list lies where the rules read it.
use Rattle.std.proofs.Common.{◌*◌, sym, ◌∙◌, arith, below_more}
use Rattle.laws.specs.Overlay.{length_rest, rest_is}
use Rattle.laws.specs.Scan.{each_none, not_all_below, all_end}
use Rattle.kinds.specs.Sizes as sizes
use Rattle.rules.specs.Valid.{gathered_ok, lists_ok}
use Rattle.lent.specs.Layout.{sub_from}
use Rattle.lent.specs.Laws.{live_at}
use Rattle.valid.proofs.lists_ok.Goals as goal

pub loop-i-init : goal.loop-i-init
loop-i-init c = each_none _

pub list_ok-requires : goal.list_ok-requires
list_ok-requires c =
    let p = c.requires in
    let i = c.loop-i.i in
    let low = c.loop-i-test.true in
    let room = length_rest c.args.lists.now (sizes.gathered * i) in
    record { sites_le_sites = p.few_sites; listed_le_cert_entries = (p.few i low, omega (arith, low, p.whole, room)) }

pub returns-then-not-list_ok : goal.returns-then-not-list_ok
unfolding lists_ok gathered_ok sub_from
returns-then-not-list_ok c =
    let i = c.loop-i.i in
    let told = rw (rest_is c.args.lists.now (sizes.gathered * i)) at c.list_ok.ensures in
    not_all_below _ _ i c.loop-i-test.true
    (rw (live_at c.args.seats c.args.w.now i c.loop-i-test.true) (sym told ∙ c.if-not-list_ok.true))

pub loop-i-preserved : goal.loop-i-preserved
unfolding gathered_ok sub_from
loop-i-preserved c =
    let i = c.loop-i.i in
    let told = rw (rest_is c.args.lists.now (sizes.gathered * i)) at c.list_ok.ensures in
    below_more _ _ c.loop-i.invariant
    (rw (live_at c.args.seats c.args.w.now i c.loop-i-test.true) (sym told ∙ c.if-not-list_ok.false))

pub returns : goal.returns
unfolding lists_ok
returns c = all_end _ _ _ c.loop-i-test.false c.loop-i.invariant
