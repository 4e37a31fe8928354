-- A CONC of a transaction that is held goes to its handler; for any other only the count is stepped. Its kind bounds its entries.
use native.Mathlib.Omega.{arith}
use Rattle.laws.specs.Overlay.{overlay_none}
use Rattle.kinds.specs.Sizes as sizes
use Rattle.rules.specs.Deliver.{passed}
use Rattle.rules.specs.DispatchLaws.{kind_conc_held, kind_conc_other}
use Rattle.rules.specs.Message.{most_entries}
use Rattle.lent.specs.Lent.{site_of}
use Rattle.handlers.specs.Held.{counts, holds}
use Rattle.deliver.proofs.Takes.{few_entries, reaches, sends}
use Rattle.deliver.proofs.coordinator.on_conc.Goals as goal

pub passed-requires : goal.passed-requires
passed-requires c = counts (reaches _ _ _ c.requires.incoming.0)

pub returns-in-None : goal.returns-in-None
unfolding passed
returns-in-None c =
    let a = c.args in
    let other = kind_conc_other (site_of a.p a.live.now a.history.now) a.h a.es.now a.lists.now sizes.live (omega arith) in
    let r = sends a.lists.now (c.passed.ensures a.live.now a.history.now) a.out.now a.out.now other (overlay_none a.out.now) in
    rw c.in-None.is (record { replied = r.0; lists_after = r.1.0; out_after = r.1.1 })

pub take_conc-requires : goal.take_conc-requires
unfolding most_entries
take_conc-requires c =
    let pre = c.requires in
    let i = pre.incoming.0 in
    let held = holds (reaches _ _ _ i) (rw c.in-Some.is at pre.place) in
    let few = few_entries c.args.h.count pre.incoming.1 i.few in
    record { held = (held, pre.lists_len.0); listing = (record { few = few; long = i.size; other = i.apart }, pre.lists_len.1) }

pub returns-in-Some : goal.returns-in-Some
returns-in-Some c =
    let a = c.args in
    let low = rw c.in-Some.is at c.requires.place in
    rw (c.in-Some.is, kind_conc_held (site_of a.p a.live.now a.history.now) a.h a.es.now a.lists.now c.in-Some.place low)
    c.take_conc.ensures
