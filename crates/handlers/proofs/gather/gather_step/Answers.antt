-- The reply is heard with its entries; after the last one the join of the gathered lists is voted on.
use Prim.Native.Nat.{ℕ, ◌+◌, ◌≤◌}
use mathlib.Core.Path.{◌≡◌, sym, ap, ◌∙◌}
use mathlib.Core.Bool.{Bool, true, false}
use mathlib.Core.List.{List}
use native.Mathlib.Omega.{arith}
use Rattle.laws.specs.Overlay.{overlay, overlay_none}
use Rattle.kinds.specs.Sizes as sizes
use Rattle.kinds.specs.State.{sub_at}
use Rattle.kinds.specs.declared.Course.{Course}
use Rattle.kinds.specs.declared.MessageHead.{MessageHead}
use Rattle.kinds.specs.declared.Site.{Site}
use Rattle.kinds.specs.declared.Turn.{Turn}
use Rattle.rules.specs.Course.{CanSendAll, quietly, with_course_of, with_reply}
use Rattle.rules.specs.Deliver.{arrived, gather_change}
use Rattle.rules.specs.DeliverLaws.{gather_last, gather_more}
use Rattle.rules.specs.Effect.{taken_of, turn_at}
use Rattle.rules.specs.Live.{all_heard}
use Rattle.rules.specs.ValidLaws.{valid_own}
use Rattle.lent.specs.Lent.{site_of}
use Rattle.handlers.specs.Cast.{cast_joined}
use Rattle.handlers.specs.Held.{arrives}
use Rattle.handlers.proofs.gather.gather_step.Goals as goal

-- the part's course with its reply heard
abbrev after : Site → MessageHead → ℕ → Course
after s h place = with_reply (sub_at s place).course h.from 0 h.count

-- what is known of it: its course c, its turn u, and whether that was the last reply
record Heard (s : Site) (h : MessageHead) (place : ℕ) (c : Course) (u : Turn) (last : Bool) : Type 0 where
  course : c ≡ after s h place
  turn : u ≡ with_course_of (arrived s place h.from) (after s h place)
  all : last ≡ all_heard s.counters.own (after s h place).heard (after s h place).mask

heard : (s : Site) (h : MessageHead) (place : ℕ) (t u : Turn) (c : Course) (last : Bool) → t ≡ arrived s place h.from
    → c ≡ with_reply t.sub.course h.from 0 h.count → u ≡ with_course_of t c → last ≡ all_heard s.counters.own c.heard c.mask
    → Heard s h place c u last
unfolding arrived
heard s h place t u c last e f g k =
    let q = f ∙ ap (λ (x : Turn). with_reply x.sub.course h.from 0 h.count) e in
    record { course = q; turn = g ∙ rw (e, q); all = k ∙ rw q }

module _ (s : Site) (h : MessageHead) (place : ℕ) (c : Course) (u : Turn) (last : Bool) (k : Heard s h place c u last) where
  more : (lists : List ℕ) → last ≡ false → quietly u ≡ gather_change s h place lists
  more lists e = ap quietly k.turn ∙ sym (gather_more s h place lists (sym k.all ∙ e))

  voted : (lists : List ℕ) → last ≡ true → cast_joined s place lists c.listed u ≡ gather_change s h place lists
  voted lists e = rw (k.turn, k.course) (sym (gather_last s h place lists (sym k.all ∙ e)))

  few : (sub_at s place).course.listed + h.count ≤ sizes.cert_entries → c.listed ≤ sizes.cert_entries
  unfolding with_reply
  few l = rw k.course l

  sends : (room : ℕ) → CanSendAll (turn_at s place) room → CanSendAll u room
  unfolding arrived with_reply turn_at
  sends room q = rw k.turn (record { long = q.long; first = q.first; last = q.last; low = q.low })

pub arrived-t-requires : goal.arrived-t-requires
arrived-t-requires c = arrives c.requires.held.0

pub with_reply-c-requires : goal.with_reply-c-requires
unfolding arrived
with_reply-c-requires c =
    let a = c.requires.held.0.arriving in
    (a.first, (a.last, rw (c.arrived-t.ensures c.args.history.now) (omega (arith, c.requires.count_bound))))

pub all_heard-requires : goal.all_heard-requires
all_heard-requires c =
    let handed : Site = let a = c.args in site_of a.p a.live.now a.history.now in
    valid_own handed c.requires.held.0.possible

pub returns-then-not-all_heard : goal.returns-then-not-all_heard
unfolding quietly
returns-then-not-all_heard c =
    let handed : Site = let a = c.args in site_of a.p a.live.now a.history.now in
    let here : Heard handed c.args.h c.args.place c.with_reply-c.result c.with_course-u.result c.all_heard.result = heard handed c.args.h c.args.place _ _ _ _ (c.arrived-t.ensures c.args.history.now) c.with_reply-c.ensures c.with_course-u.ensures c.all_heard.ensures in
    let a = c.args in
    let q = more _ _ _ _ _ _ here a.lists.now c.if-not-all_heard.true in
    record { value = c.quietly.ensures ∙ ap taken_of q; out_after = overlay_none a.out.now ∙ ap (λ x. overlay a.out.now x.words) q }

pub joined_step-requires : goal.joined_step-requires
unfolding with_reply
joined_step-requires c =
    let handed : Site = let a = c.args in site_of a.p a.live.now a.history.now in
    let here : Heard handed c.args.h c.args.place c.with_reply-c.result c.with_course-u.result c.all_heard.result = heard handed c.args.h c.args.place _ _ _ _ (c.arrived-t.ensures c.args.history.now) c.with_reply-c.ensures c.with_course-u.ensures c.all_heard.ensures in
    let ends : c.all_heard.result ≡ true = c.if-not-all_heard.false in
    let k = here in
    let held = c.requires.held in
    let all = sym k.all ∙ ends in
    record { gathered = (record { possible = held.0.possible; low = held.0.low; whole = held.1 }, few _ _ _ _ _ _ k c.requires.count_bound); can_send_all = sends _ _ _ _ _ _ k _ (c.requires.can_send_all all) }

pub returns : goal.returns
returns c =
    let handed : Site = let a = c.args in site_of a.p a.live.now a.history.now in
    let here : Heard handed c.args.h c.args.place c.with_reply-c.result c.with_course-u.result c.all_heard.result = heard handed c.args.h c.args.place _ _ _ _ (c.arrived-t.ensures c.args.history.now) c.with_reply-c.ensures c.with_course-u.ensures c.all_heard.ensures in
    let ends : c.all_heard.result ≡ true = c.if-not-all_heard.false in
    let a = c.args in
    let q = voted _ _ _ _ _ _ here a.lists.now ends in
    record { value = c.joined_step.ensures.value ∙ ap taken_of q; out_after = c.joined_step.ensures.out_after ∙ ap (λ x. overlay a.out.now x.words) q }
