-- Refused, or JOIN sent and the part settled.
use Rattle.std.proofs.Common.{ℕ, ◌≡◌, ◌-◌, ◌<◌, sym, [], get_or}
use borrow.Author.Tests.{leb-false}
use Rattle.laws.specs.Overlay.{overlay_none}
use Rattle.kinds.specs.Sizes as sizes
use Rattle.kinds.specs.declared.Site.{Site}
use Rattle.kinds.specs.declared.Turn.{Turn}
use Rattle.rules.specs.CallLaws.{joiner_clear}
use Rattle.rules.specs.Course.{channel_spent, enlist_step}
use Rattle.rules.specs.Effect.{changed, turn_at, unless}
use Rattle.rules.specs.Enlist.{enlist_at}
use Rattle.lent.specs.Laws.{lent_lengths}
use Rattle.lent.specs.Lent.{site_of}
use Rattle.shell.proofs.Refusals.{refuses, passes}
use Rattle.site.specs.Accessed.{joiner_code_at}
use Rattle.site.proofs.enlist.enlist_at.Goals as goal

-- the rule asks the turn's own course,
by_turn : (s : Site) (place site : ℕ) (t : Turn) → t ≡ turn_at s place
    → enlist_at s place site ≡ unless (joiner_code_at t site) s [] (changed s place (enlist_step t site) [])
unfolding enlist_at turn_at
by_turn s place site t e = rw e

-- and the channel has a number left
low : (t : Turn) (site : ℕ) → joiner_code_at t site ≡ 0 → get_or t.channels.sent (site - 1) 0 < sizes.last
unfolding channel_spent
low t site f = leb-false sizes.last _ (joiner_clear _ _ _ _ f).low

pub turn_at-t-requires : goal.turn_at-t-requires
turn_at-t-requires c = ((lent_lengths _ _ _ c.requires.accessed.possible).live, c.requires.accessed.low)

pub check_joiner-requires : goal.check_joiner-requires
check_joiner-requires c = (c.requires.sendable.first, c.requires.sendable.last)

pub returns-in-Err : goal.returns-in-Err
returns-in-Err c =
    let a = c.args in
    let s = site_of a.p a.live.now a.history.now in
    rw (by_turn s a.place a.site _ (c.turn_at-t.ensures a.history.now), refuses _ _ s [] _ c.in-Err.ensures)
    (record { replied = c.refused_by.ensures _ _ []; out_after = overlay_none a.out.now })

pub enlist_step-requires : goal.enlist_step-requires
enlist_step-requires c =
    let p = c.requires.sendable in
    record { long = p.long; first = p.first; last = p.last; low = low c.turn_at-t.result c.args.site (sym c.in_default.ensures) }

pub settled-requires : goal.settled-requires
settled-requires c = ((lent_lengths _ _ _ c.requires.accessed.possible).live, c.requires.accessed.low)

pub returns : goal.returns
returns c =
    let a = c.args in
    let s = site_of a.p a.live.now a.history.now in
    rw (by_turn s a.place a.site _ (c.turn_at-t.ensures a.history.now), passes _ s [] _ c.in_default.ensures)
    (record {
      replied = c.settled.ensures _ c.enlist_step.ensures.value a.history.now [];
      out_after = c.enlist_step.ensures.out_after;
    })
