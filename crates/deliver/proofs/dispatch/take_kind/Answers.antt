-- Each arm is its kind's rule; the kinds beyond 1 to 8 cannot come.
use Prim.Native.Nat.{ℕ}
use mathlib.Core.Path.{◌≡◌, ◌∙◌}
use native.Mathlib.Omega.{arith}
use Rattle.kinds.specs.Kind as kind
use Rattle.rules.specs.Deliver.{take_kind}
use Rattle.rules.specs.DispatchLaws.{given_kind, kind_abort, kind_cert, kind_commit, kind_join, kind_joined, kind_prepare, kind_vote}
use Rattle.rules.specs.DispatchLaws.{quiet_abort, quiet_commit, quiet_joined}
use Rattle.rules.specs.Effect.{Effect}
use Rattle.lent.specs.Lent.{site_of}
use Rattle.handlers.specs.Held.{Reached, place_number}
use Rattle.deliver.proofs.Takes.{quiet, reaches, sends}
use Rattle.deliver.proofs.dispatch.take_kind.Goals.{Start}
use Rattle.deliver.proofs.dispatch.take_kind.Goals as goal

reached : (c : Start) → (let a = c.args in Reached a.p a.live.now a.history.now a.h.from)
reached c = reaches _ _ _ c.requires.incoming

of_kind : (c : Start) (k : ℕ) (e : Effect) → c.args.h.kind ≡ k
    → (let a = c.args in
    take_kind k (site_of a.p a.live.now a.history.now) a.h a.es.now a.lists.now (place_number a.place) ≡ e)
    → (let a = c.args in
    take_kind a.h.kind (site_of a.p a.live.now a.history.now) a.h a.es.now a.lists.now (place_number a.place) ≡ e)
of_kind c k e q t =
    let a = c.args in
    given_kind (site_of a.p a.live.now a.history.now) a.h a.es.now a.lists.now (place_number a.place) q ∙ t

pub take_join-requires : goal.take_join-requires
take_join-requires c =
    let pre = c.requires in
    let reached = reached (goal.at.take_join-requires c).Start in
    (reached, pre.lists_len.1)

pub on_joined-requires : goal.on_joined-requires
on_joined-requires c =
    let pre = c.requires in
    let reached = reached (goal.at.on_joined-requires c).Start in
    record { reached = reached; place = pre.place }

pub on_commit-requires : goal.on_commit-requires
on_commit-requires c =
    let pre = c.requires in
    let reached = reached (goal.at.on_commit-requires c).Start in
    record { reached = reached; place = pre.place }

pub on_abort-requires : goal.on_abort-requires
on_abort-requires c =
    let pre = c.requires in
    let reached = reached (goal.at.on_abort-requires c).Start in
    record { reached = reached; place = pre.place }

pub on_prepare-requires : goal.on_prepare-requires
on_prepare-requires c =
    let pre = c.requires in
    let reached = reached (goal.at.on_prepare-requires c).Start in
    record { reached = (reached, pre.lists_len.1); place = pre.place }

pub on_vote-requires : goal.on_vote-requires
on_vote-requires c =
    let pre = c.requires in
    let reached = reached (goal.at.on_vote-requires c).Start in
    record { reached = (reached, pre.lists_len.1); place = pre.place }

pub on_conc-requires : goal.on_conc-requires
on_conc-requires c =
    let pre = c.requires in
    record { incoming = (pre.incoming, c.in-4.is); place = pre.place; lists_len = pre.lists_len }

pub on_cert-requires : goal.on_cert-requires
on_cert-requires c =
    let pre = c.requires in
    record { incoming = (pre.incoming, c.in-5.is); place = pre.place; outgoing_in_bounds = pre.lists_len.1 }

pub returns-in-1 : goal.returns-in-1
returns-in-1 c =
    let a = c.args in
    let t = of_kind (goal.at.returns-in-1 c).Start kind.join _ c.in-1.is (kind_join _ _ _ _ _) in
    let r = sends a.lists.now c.take_join.ensures.replied a.out.now _ t c.take_join.ensures.out_after in
    record { replied = r.0; lists_after = r.1.0; out_after = r.1.1 }

pub returns-in-3 : goal.returns-in-3
returns-in-3 c =
    let a = c.args in
    let t = of_kind (goal.at.returns-in-3 c).Start kind.prepare _ c.in-3.is (kind_prepare _ _ _ _ _) in
    let r = sends a.lists.now c.on_prepare.ensures.replied a.out.now _ t c.on_prepare.ensures.out_after in
    record { replied = r.0; lists_after = r.1.0; out_after = r.1.1 }

pub returns-in-5 : goal.returns-in-5
returns-in-5 c =
    let a = c.args in
    let t = of_kind (goal.at.returns-in-5 c).Start kind.cert _ c.in-5.is (kind_cert _ _ _ _ _) in
    let r = sends a.lists.now c.on_cert.ensures.replied a.out.now _ t c.on_cert.ensures.out_after in
    record { replied = r.0; lists_after = r.1.0; out_after = r.1.1 }

pub returns-in-6 : goal.returns-in-6
returns-in-6 c =
    let a = c.args in
    let t = of_kind (goal.at.returns-in-6 c).Start kind.vote _ c.in-6.is (kind_vote _ _ _ _ _) in
    let r = sends a.lists.now c.on_vote.ensures.replied a.out.now _ t c.on_vote.ensures.out_after in
    record { replied = r.0; lists_after = r.1.0; out_after = r.1.1 }

pub returns-in-2 : goal.returns-in-2
returns-in-2 c =
    let a = c.args in
    let t = of_kind (goal.at.returns-in-2 c).Start kind.joined _ c.in-2.is (kind_joined _ _ _ _ _) in
    let r = quiet a.lists.now c.on_joined.ensures a.out.now t (quiet_joined (site_of a.p a.live.now a.history.now) a.h _) in
    record { replied = r.0; lists_after = r.1.0; out_after = r.1.1 }

pub returns-in-7 : goal.returns-in-7
returns-in-7 c =
    let a = c.args in
    let t = of_kind (goal.at.returns-in-7 c).Start kind.commit _ c.in-7.is (kind_commit _ _ _ _ _) in
    let r = quiet a.lists.now c.on_commit.ensures a.out.now t (quiet_commit (site_of a.p a.live.now a.history.now) a.h _) in
    record { replied = r.0; lists_after = r.1.0; out_after = r.1.1 }

pub returns-in-8 : goal.returns-in-8
returns-in-8 c =
    let a = c.args in
    let t = of_kind (goal.at.returns-in-8 c).Start kind.abort _ c.in-8.is (kind_abort _ _ _ _ _) in
    let r = quiet a.lists.now c.on_abort.ensures a.out.now t (quiet_abort (site_of a.p a.live.now a.history.now) a.h _) in
    record { replied = r.0; lists_after = r.1.0; out_after = r.1.1 }

pub returns-in-4 : goal.returns-in-4
returns-in-4 c =
    let a = c.args in
    rw (given_kind (site_of a.p a.live.now a.history.now) a.h a.es.now a.lists.now _ c.in-4.is) c.on_conc.ensures

pub returns-in-0 : goal.returns-in-0
returns-in-0 c = absurd (omega (arith, c.requires.incoming.low_kind_lem, c.in-0.is))

pub returns-in-9-to-18446744073709551615 : goal.returns-in-9-to-18446744073709551615
returns-in-9-to-18446744073709551615 c =
    let i = c.requires.incoming in
    absurd (omega (arith, i.low_kind_lem, i.high_kind_lem))
