-- Refused out of turn, or where a decision cannot be sent; else the list is laid behind the others, and the step is settled.
use Prim.Native.Nat.{ℕ, ◌+◌, ◌-◌, ◌*◌, ◌≤◌, ◌<◌}
use mathlib.Core.Path.{◌≡◌, refl, sym, ap, ◌∙◌}
use mathlib.Core.Bool.{Bool, true}
use mathlib.Core.List.{List, [], ◌∷◌, ◌++◌}
use native.Mathlib.Omega.{arith}
use borrow.Author.Tests.{not-false}
use lib.ListN.{drop, length, take}
use Rattle.laws.specs.Choice.{every}
use Rattle.laws.specs.Overlay.{length_rest, overlay, overlay_none, put_part}
use Rattle.kinds.specs.Sizes as sizes
use Rattle.kinds.specs.State.{sub_at}
use Rattle.kinds.specs.declared.Course.{Course}
use Rattle.kinds.specs.declared.MessageHead.{MessageHead}
use Rattle.kinds.specs.declared.Site.{Site}
use Rattle.kinds.specs.declared.Turn.{Turn}
use Rattle.shell.proofs.Refusals.{stopped}
use Rattle.rules.specs.CallLaws.{not_both, reply_clear}
use Rattle.rules.specs.Course.{CanSendAll, with_reply}
use Rattle.rules.specs.Deliver.{Arriving, conc_in_turn, gather_change, gather_lists, reply_code, spent_to_all, take_conc}
use Rattle.rules.specs.DeliverLaws.{conc_room}
use Rattle.rules.specs.Effect.{taken_of, turn_at}
use Rattle.rules.specs.Live.{all_heard}
use Rattle.rules.specs.MergerWords.{length_put}
use Rattle.rules.specs.Send.{counts_low_lem}
use Rattle.rules.specs.Valid.{site_ok}
use Rattle.rules.specs.ValidLaws.{valid_own, valid_site}
use Rattle.lent.specs.Lent.{site_of}
use Rattle.handlers.specs.Held.{settles}
use Rattle.handlers.proofs.gather.take_conc.Goals.{In_default}
use Rattle.handlers.proofs.gather.take_conc.Goals as goal

-- what is against the step, and where the list is laid
abbrev against : Site → MessageHead → ℕ → ℕ
against s h place =
    let b = (sub_at s place).course in
    let c = with_reply b h.from 0 h.count in
    reply_code (conc_in_turn b h.from) (every (all_heard s.counters.own c.heard c.mask ∷ spent_to_all s b.mask ∷ []))

abbrev behind : ℕ → Turn → ℕ
behind place t = sizes.gathered * place + sizes.entry * t.sub.course.listed

abbrev laid : List ℕ → List ℕ → ℕ → List ℕ
laid lists ys at = take at lists ++ (ys ++ drop (length lists - at) (drop at lists))

module _ (s : Site) (h : MessageHead) (place : ℕ) (t : Turn) (e : t ≡ turn_at s place) where
  coded : (ready all full : Bool) (next : Course) → (let b = t.sub.course in
      ready ≡ conc_in_turn b h.from → next ≡ with_reply b h.from 0 0 → all ≡ all_heard s.counters.own next.heard b.mask
      → full ≡ every (all ∷ spent_to_all s b.mask ∷ []) → reply_code ready full ≡ against s h place)
  unfolding turn_at with_reply
  coded ready all full next f g k l = rw (f, l, k, g, e)

  -- where nothing is against it, the list has room
  room : site_ok s ≡ true → Arriving s h.from → place < sizes.live → h.count ≤ sizes.conc_entries → (h.from ≡ s.counters.own → ⊥)
      → against s h place ≡ 0 → t.sub.course.listed + h.count ≤ sizes.cert_entries
  unfolding turn_at
  room v a l few other z =
      let w = valid_site s v in
      let b = (sub_at s place).course in
      rw e
      (conc_room s.house s.counters.own h.from h.count b w.house (w.part place l).course a.first a.last other
      (reply_clear _ _ z).turn few)

  -- laid behind the others, it is gathered
  gathers : (lists ys es : List ℕ) → let o = behind place t in
      ys ≡ overlay (take (length lists - o) (drop o lists)) es → laid lists ys o ≡ gather_lists s place es lists
  unfolding gather_lists turn_at
  gathers lists ys es q = put_part lists ys es (behind place t) q ∙ rw e

-- a vote can be sent to all
sends : (s : Site) (h : MessageHead) (place wide : ℕ) → site_ok s ≡ true → sizes.outgoing ≤ wide → against s h place ≡ 0
    → (let b = (sub_at s place).course in all_heard s.counters.own (with_reply b h.from 0 h.count).heard b.mask ≡ true)
    → CanSendAll (turn_at s place) wide
unfolding turn_at with_reply
sends s h place wide v l z d =
    let o = valid_own s v in
    let low = counts_low_lem _ _ _ (not-false _ (not_both _ _ (reply_clear _ _ z).low d)) in
    record { long = l; first = o.0; last = o.1; low = low }

-- the list lies in the place's part of the lists
record Fits (lists place count : ℕ) (t : Turn) : Type 0 where
  low : place < sizes.live
  few : t.sub.course.listed + count ≤ sizes.cert_entries
  whole : lists ≡ sizes.lists

fits-as : {lists place count : ℕ} {t u : Turn} → t ≡ u → Fits lists place count t → Fits lists place count u
fits-as e f = rw e at f

-- so the lists keep their length
kept : (s : Site) (place count : ℕ) (lists es : List ℕ) → length es ≡ sizes.entry * count → Fits (length lists) place count (turn_at s place)
    → length (gather_lists s place es lists) ≡ sizes.lists
unfolding gather_lists turn_at
kept s place count lists es e f = length_put _ lists es (omega (arith, e, f.low, f.few, f.whole)) ∙ f.whole

-- nothing is against it where the list is laid
clear : (c : In_default) → (let a = c.args in against (site_of a.p a.live.now a.history.now) a.h a.place ≡ 0)
clear c =
    let a = c.args in
    let turned = c.turn_at-part.ensures a.history.now in
    let told = coded (site_of a.p a.live.now a.history.now) a.h a.place _ turned _ _ _ _
    c.conc_in_turn-turn.ensures c.with_heard-next.ensures c.all_heard-due.ensures c.all_spent-spent.ensures in
    sym (c.in_default.ensures ∙ told)

fits : (c : In_default) → (let a = c.args in Fits (length a.lists.now) a.place a.h.count c.turn_at-part.result)
fits c =
    let a = c.args in
    let held = c.requires.held.0 in
    let l = c.requires.listing.0 in
    let few = room (site_of a.p a.live.now a.history.now) a.h a.place _ (c.turn_at-part.ensures a.history.now)
    held.possible held.arriving held.low l.few l.other (clear c) in
    record { low = held.low; few = few; whole = c.requires.held.1 }

pub turn_at-part-requires : goal.turn_at-part-requires
turn_at-part-requires c = settles c.requires.held.0

pub conc_in_turn-turn-requires : goal.conc_in_turn-turn-requires
conc_in_turn-turn-requires c =
    let a = c.requires.held.0.arriving in
    (a.first, a.last)

pub with_heard-next-requires : goal.with_heard-next-requires
with_heard-next-requires c =
    let a = c.requires.held.0.arriving in
    (a.first, a.last)

pub all_heard-due-requires : goal.all_heard-due-requires
all_heard-due-requires c =
    let handed : Site = let a = c.args in site_of a.p a.live.now a.history.now in
    valid_own handed c.requires.held.0.possible

pub returns-in-Err : goal.returns-in-Err
unfolding take_conc
returns-in-Err c =
    let a = c.args in
    let turned = c.turn_at-part.ensures a.history.now in
    let told = c.in-Err.ensures ∙ coded (site_of a.p a.live.now a.history.now) a.h a.place _ turned _ _ _ _
    c.conc_in_turn-turn.ensures c.with_heard-next.ensures c.all_heard-due.ensures c.all_spent-spent.ensures in
    let n = stopped c.in-Err.cause _ refl in
    record {
      replied = rw (← told, n) (c.refused_by.ensures _ _ a.lists.now);
      lists_after = rw (← told, n) refl;
      out_after = rw (← told, n) (overlay_none a.out.now);
    }

pub overflow_mul-at : goal.overflow_mul-at
overflow_mul-at c = let f = fits (goal.at.overflow_mul-at c).In_default in omega (arith, f.low)

pub overflow_mul-at-2 : goal.overflow_mul-at-2
overflow_mul-at-2 c = let f = fits (goal.at.overflow_mul-at-2 c).In_default in omega (arith, f.few)

pub overflow_add-at : goal.overflow_add-at
overflow_add-at c = let f = fits (goal.at.overflow_add-at c).In_default in omega (arith, f.low, f.few)

pub offset_bounds-lists-at : goal.offset_bounds-lists-at
offset_bounds-lists-at c = let f = fits (goal.at.offset_bounds-lists-at c).In_default in omega (arith, f.low, f.few)

pub slice_bounds-copy_words-count : goal.slice_bounds-copy_words-count
slice_bounds-copy_words-count c = let f = fits (goal.at.slice_bounds-copy_words-count c).In_default in omega (arith, f.low, f.few, f.whole)

pub slice_bounds-copy_words-start : goal.slice_bounds-copy_words-start
slice_bounds-copy_words-start c = let f = fits (goal.at.slice_bounds-copy_words-start c).In_default in omega (arith, f.low, f.few, f.whole)

pub copy_words-requires : goal.copy_words-requires
copy_words-requires c =
    let f = fits (goal.at.copy_words-requires c).In_default in
    let rest = length_rest c.args.lists.now (behind c.args.place c.turn_at-part.result) in
    omega (arith, f.low, f.few, f.whole, c.requires.listing.0.long, rest)

pub gather_step-a-requires : goal.gather_step-a-requires
unfolding turn_at with_reply
gather_step-a-requires c =
    let at = goal.at.gather_step-a-requires c in
    let a = c.args in
    let s = site_of a.p a.live.now a.history.now in
    let turned = c.turn_at-part.ensures a.history.now in
    let f = fits-as turned (fits at.In_default) in
    let gathered = gathers s a.h a.place _ turned a.lists.now c.copy_words.new.out a.es.now c.copy_words.ensures in
    let long = kept s a.place a.h.count a.lists.now a.es.now c.requires.listing.0.long f in
    record {
      held = (c.requires.held.0, ap length gathered ∙ long);
      count_bound = f.few;
      can_send_all = sends s a.h a.place _ c.requires.held.0.possible c.requires.listing.1 (clear at.In_default);
    }

pub settled-requires : goal.settled-requires
settled-requires c = settles c.requires.held.0

pub returns : goal.returns
unfolding take_conc
returns c =
    let at = goal.at.returns c in
    let a = c.args in
    let s = site_of a.p a.live.now a.history.now in
    let none = sym (clear at.In_default) in
    let change = gather_change s a.h a.place in
    let lists = gather_lists s a.place a.es.now a.lists.now in
    let turned = c.turn_at-part.ensures a.history.now in
    let gathered = gathers s a.h a.place _ turned a.lists.now c.copy_words.new.out a.es.now c.copy_words.ensures in
    let sent = c.gather_step-a.ensures.out_after in
    let q = ap change gathered in
    record {
      replied = rw (← none) (c.settled.ensures (change lists) (c.gather_step-a.ensures.value ∙ ap taken_of q) a.history.now lists);
      lists_after = rw (← none) gathered;
      out_after = rw (← none) (sent ∙ ap (λ x. overlay a.out.now x.words) q);
    }
