-- Refused where the transaction is held; answered 12 where no place is free; else the part begins at the free place.
use Prim.Native.Nat.{ℕ}
use mathlib.Core.Path.{◌≡◌, refl, sym, ap, ◌∙◌}
use mathlib.Core.Bool.{Bool}
use Rattle.std.specs.Prelude.{Option}
use mathlib.Core.List.{[]}
use borrow.Author.Tests.{lt-ltb}
use lib.Dec.{leb}
use lib.ListN.{length}
use Rattle.laws.specs.Overlay.{overlay, overlay_none}
use Rattle.kinds.specs.Kind as kind
use Rattle.kinds.specs.Reason as reason
use Rattle.kinds.specs.Sizes as sizes
use Rattle.kinds.specs.declared.MessageHead.{MessageHead}
use Rattle.kinds.specs.declared.Site.{Site}
use Rattle.kinds.specs.declared.Turn.{Turn}
use Rattle.shell.proofs.Refusals.{stopped}
use Rattle.rules.specs.CallLaws.{reply_clear}
use Rattle.rules.specs.Course.{CanSendTo, channel_spent, send_to}
use Rattle.rules.specs.CourseLaws.{no_entries}
use Rattle.rules.specs.Deliver.{join_at, join_turn, reply_code, spoken, take_join}
use Rattle.rules.specs.Effect.{Change, taken_of}
use Rattle.lent.specs.Laws.{lent_lengths}
use Rattle.lent.specs.Lent.{site_of}
use Rattle.shell.specs.Countable.{countable}
use Rattle.handlers.specs.Held.{place_number}
use Rattle.handlers.proofs.Sends.{can_reply}
use Rattle.handlers.proofs.participant.take_join.Goals.{In_default, After-join_turn-t}
use Rattle.handlers.proofs.participant.take_join.Goals as goal

-- the answer, of what the callees hand back
abbrev step : ℕ → ℕ → Turn → Change
step from code t = send_to t kind.joined from 0 code []

same : (from code : ℕ) (t u : Turn) → t ≡ u → step from code t ≡ step from code u
same from code t u e = rw e

-- the first cause against it, and that there is none where it is answered
abbrev against : Site → MessageHead → Option ℕ → ℕ
against s h place = reply_code (leb sizes.live (place_number place)) (channel_spent s.channels h.from)

told : (s : Site) (h : MessageHead) (place : Option ℕ) (at : ℕ) (spent : Bool) (code : ℕ) → at ≡ place_number place
    → spent ≡ channel_spent s.channels h.from → code ≡ reply_code (leb sizes.live at) spent → code ≡ against s h place
told s h place at spent code e f q = rw (← e, ← f) q

none : (c : In_default) → (let a = c.args in 0 ≡ against (site_of a.p a.live.now a.history.now) a.h a.place)
none c =
    let a = c.args in
    told (site_of a.p a.live.now a.history.now) a.h a.place _ _ _ c.unwrap_or.ensures c.channel_spent-spent.ensures c.in_default.ensures

-- so it can be answered
answers : (c : After-join_turn-t) → 0 ≡ against (site_of c.args.p c.args.live.now c.args.history.now) c.args.h c.args.place
    → CanSendTo c.join_turn-t.result c.args.h.from (length c.args.out.now)
unfolding join_turn
answers c z =
    let a = c.args in
    let pre = c.requires in
    let r = reply_clear _ _ (sym z) in
    can_reply (c.join_turn-t.ensures a.live.now a.history.now) refl pre.0.arriving pre.1 r.low

pub channel_spent-spent-requires : goal.channel_spent-spent-requires
channel_spent-spent-requires c =
    let a = c.requires.0.arriving in
    (a.first, a.last)

pub returns-in-Err : goal.returns-in-Err
unfolding take_join
returns-in-Err c =
    let a = c.args in
    let s = site_of a.p a.live.now a.history.now in
    let told = told s a.h a.place _ _ _ c.unwrap_or.ensures c.channel_spent-spent.ensures c.in-Err.ensures in
    let n = stopped c.in-Err.cause _ refl in
    record { replied = rw (← told, n) (c.refused_by.ensures _ _ []); out_after = rw (← told, n) (overlay_none c.args.out.now) }

pub join_turn-t-requires : goal.join_turn-t-requires
join_turn-t-requires c =
    let a = c.args in
    countable (site_of a.p a.live.now a.history.now) a.h.from c.requires.0.arriving

pub send_to-a-requires : goal.send_to-a-requires
send_to-a-requires c =
    let at = goal.at.send_to-a-requires c in
    (answers at.After-join_turn-t (none at.In_default), no_entries)

pub send_to-a-requires-in-Some : goal.send_to-a-requires-in-Some
send_to-a-requires-in-Some c =
    let at = goal.at.send_to-a-requires-in-Some c in
    (answers at.After-join_turn-t (none at.In_default), no_entries)

pub settled-requires : goal.settled-requires
settled-requires c = ((lent_lengths c.args.p c.args.live.now c.args.history.now c.requires.0.possible).live, c.in-Some.ensures.bound)

pub returns-in-None : goal.returns-in-None
unfolding take_join join_at spoken
returns-in-None c =
    let a = c.args in
    let s = site_of a.p a.live.now a.history.now in
    let none = none (goal.at.returns-in-None c).In_default in
    let full = c.in-None.ensures.first a.live.now in
    let change = step a.h.from reason.full (join_turn s a.h a.h.argument) in
    let q = same a.h.from reason.full _ _ (c.join_turn-t.ensures a.live.now a.history.now) in
    record {
      replied = rw (← none, ← full) (c.spoken.ensures change (c.send_to-a.ensures.value ∙ ap taken_of q) a.live.now a.history.now);
      out_after = rw (← none, ← full) (c.send_to-a.ensures.out_after ∙ ap (λ x. overlay a.out.now x.words) q);
    }

pub returns-in-Some : goal.returns-in-Some
unfolding take_join join_at spoken
returns-in-Some c =
    let a = c.args in
    let s = site_of a.p a.live.now a.history.now in
    let none = none (goal.at.returns-in-Some c).In_default in
    let free = c.in-Some.ensures.first a.live.now in
    let low = lt-ltb c.in-Some.free sizes.live c.in-Some.ensures.bound in
    let change = step a.h.from 0 (join_turn s a.h a.h.argument) in
    let q = same a.h.from 0 _ _ (c.join_turn-t.ensures a.live.now a.history.now) in
    let sent = c.send_to-a-in-Some.ensures in
    record {
      replied = rw (← none, ← free, low) (c.settled.ensures change (sent.value ∙ ap taken_of q) a.history.now []);
      out_after = rw (← none, ← free, low) (sent.out_after ∙ ap (λ x. overlay a.out.now x.words) q);
    }
