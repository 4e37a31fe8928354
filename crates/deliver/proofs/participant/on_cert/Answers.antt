-- A CERT of a transaction that is held goes to its handler; for any other only the count is stepped.
use native.Mathlib.Omega.{arith}
use borrow.Author.Tests.{lt-ltb}
use Rattle.laws.specs.Overlay.{overlay_none}
use Rattle.kinds.specs.Sizes as sizes
use Rattle.rules.specs.Deliver.{passed}
use Rattle.rules.specs.DispatchLaws.{or_passed}
use Rattle.rules.specs.Message.{most_entries}
use Rattle.handlers.specs.Held.{counts, holds}
use Rattle.deliver.proofs.Takes.{few_entries, reaches}
use Rattle.deliver.proofs.participant.on_cert.Goals as goal

pub passed-requires : goal.passed-requires
passed-requires c = counts (reaches _ _ _ c.requires.incoming.0)

pub returns-in-None : goal.returns-in-None
unfolding or_passed passed
returns-in-None c =
    let a = c.args in
    record { replied = rw c.in-None.is (c.passed.ensures a.live.now a.history.now); out_after = rw c.in-None.is (overlay_none a.out.now) }

pub take_cert-requires : goal.take_cert-requires
unfolding most_entries
take_cert-requires c =
    let pre = c.requires in
    let i = pre.incoming.0 in
    let held = holds (reaches _ _ _ i) (rw c.in-Some.is at pre.place) in
    let few = few_entries c.args.h.count pre.incoming.1 i.few in
    record { held = (held, pre.outgoing_in_bounds); count_le_cert_entries = (few, omega (arith, i.size)) }

pub returns-in-Some : goal.returns-in-Some
unfolding or_passed
returns-in-Some c =
    let low = lt-ltb c.in-Some.place sizes.live (rw c.in-Some.is at c.requires.place) in
    rw (c.in-Some.is, low) c.take_cert.ensures
