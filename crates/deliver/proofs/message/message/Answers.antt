-- Refused by the first causes, refused by its channel, or taken by its kind's rule.
use Prim.Native.Nat.{ℕ, ◌-◌, ◌≤◌, ◌<◌}
use mathlib.Core.Path.{◌≡◌, refl, sym, ap, ◌∙◌}
use mathlib.Core.Bool.{Bool, true}
use mathlib.Core.List.{List}
use native.Mathlib.Omega.{arith}
use borrow.Author.Rules.{rules}
use lib.ListN.{drop, get_or, length, take}
use Rattle.laws.specs.Overlay.{overlay_none, rest_is}
use Rattle.kinds.specs.Sizes as sizes
use Rattle.kinds.specs.declared.House.{House}
use Rattle.kinds.specs.declared.MessageHead.{MessageHead}
use Rattle.kinds.specs.declared.Site.{Site}
use Rattle.shell.proofs.Refusals.{caused, stopped}
use Rattle.rules.specs.Deliver.{arrival_code, message_of, next_code, take_kind}
use Rattle.rules.specs.DispatchLaws.{Checked, Incoming, arrival_valid, checked, message_refused, message_taken, next_in}
use Rattle.rules.proofs.DispatchLaws.{incoming}
use Rattle.rules.specs.Live.{place_of}
use Rattle.rules.specs.Message.{message_entries, message_head, message_ok}
use Rattle.rules.specs.Valid.{handed_ok}
use Rattle.rules.specs.ValidLaws.{valid_site, handed_site, handed_length}
use Rattle.lent.specs.Lent.{site_of}
use Rattle.deliver.proofs.message.message.Goals.{After-place_of-place, In_default}
use Rattle.deliver.proofs.message.message.Goals as goal

-- a valid site's words are looked at by its house
fine : (o p : House) (ok fine : Bool) (m : List ℕ) → o ≡ p → (ok ≡ true → fine ≡ message_ok o m) → ok ≡ true → fine ≡ message_ok p m
fine o p ok b m e f v = rw e at f v

-- the first cause against it
told : (s : Site) (o : House) (room : ℕ) (lists m : List ℕ) (ok looked : Bool) (code : ℕ) → ok ≡ handed_ok s lists → o ≡ s.house
    → (ok ≡ true → looked ≡ message_ok o m) → code ≡ arrival_code ok room looked
    → code ≡ arrival_code (handed_ok s lists) room (message_ok s.house m)
told s o room lists m ok looked code v e f q =
    q ∙ arrival_valid ok room looked (message_ok s.house m) (fine o s.house ok looked m e f) ∙ rw v

-- past the first causes the state and the words are checked
passed : (c : In_default) → (let a = c.args in Checked (site_of a.p a.live.now a.history.now) (length a.out.now) a.lists.now a.m.now)
passed c =
    let a = c.args in
    let s = site_of a.p a.live.now a.history.now in
    let ok = c.handed_ok-ok in
    let looked = fine c.lent_house-house.result s.house ok.result c.formed-fine.result a.m.now c.lent_house-house.ensures c.formed-fine.ensures in
    checked s (length a.out.now) a.lists.now a.m.now ok.result c.formed-fine.result ok.ensures looked (sym c.in_default.ensures)

-- the code of the channel is the rule's
next-same : (s : Site) (m : List ℕ) (h : MessageHead) (n : ℕ) → h ≡ message_head m
    → n ≡ next_code h.to s.counters.own h.channel (get_or s.channels.taken (h.from - 1) 0) → n ≡ next_in s m
unfolding next_in
next-same s m h n e q = q ∙ rw e

-- what is read of the message, and the effect of its kind
comes : (s : Site) (m : List ℕ) (h : MessageHead) (es : List ℕ) → h ≡ message_head m → es ≡ message_entries m
    → Incoming s (message_head m) (message_entries m) → Incoming s h es
comes s m h es e f i = rw (e, f) i

same : {s : Site} {room : ℕ} {lists m : List ℕ} (h : MessageHead) (es : List ℕ) (place : ℕ) → Checked s room lists m → next_in s m ≡ 0
    → h ≡ message_head m → es ≡ message_entries m → place ≡ place_of s.live h.tx
    → message_of s room lists m ≡ take_kind h.kind s h es lists place
same h es place k z e f g = message_taken k z ∙ sym (rw (g, f, e))

-- nothing is against it on its channel
clear : (c : After-place_of-place) → (let a = c.args in next_in (site_of a.p a.live.now a.history.now) a.m.now ≡ 0)
clear c =
    let a = c.args in
    sym (next-same (site_of a.p a.live.now a.history.now) a.m.now _ _ c.read_head-h.ensures c.in_default-check_next.ensures)

rest : (m : List ℕ) → take (length m - sizes.message_header) (drop sizes.message_header m) ≡ message_entries m
unfolding message_entries
rest m = rest_is m sizes.message_header

pub formed-fine-requires : goal.formed-fine-requires
formed-fine-requires c =
    let a = c.args in
    let s = site_of a.p a.live.now a.history.now in
    λ e. rw c.lent_house-house.ensures (valid_site s (handed_site _ _ (sym c.handed_ok-ok.ensures ∙ e))).house.few_sites

pub returns-in-Err : goal.returns-in-Err
unfolding message_of
returns-in-Err c =
    let a = c.args in
    let s = site_of a.p a.live.now a.history.now in
    let told = told s _ (length a.out.now) a.lists.now a.m.now _ _ _
    c.handed_ok-ok.ensures c.lent_house-house.ensures c.formed-fine.ensures c.in-Err.ensures in
    let n = stopped c.in-Err.cause _ refl in
    record {
      replied = rw (← told, n) (c.refused_by.ensures _ _ a.lists.now);
      lists_after = rw (← told, n) refl;
      out_after = rw (← told, n) (overlay_none a.out.now);
    }

pub read_head-h-requires : goal.read_head-h-requires
read_head-h-requires c = (passed (goal.at.read_head-h-requires c).In_default).header

pub overflow_sub-from : goal.overflow_sub-from
overflow_sub-from c =
    let k = passed (goal.at.overflow_sub-from c).In_default in
    let from = ap (λ (h : MessageHead). h.from) c.read_head-h.ensures in
    omega (arith, k.from_low, from)

pub offset_bounds-p-from : goal.offset_bounds-p-from
offset_bounds-p-from c =
    let k = passed (goal.at.offset_bounds-p-from c).In_default in
    let from = ap (λ (h : MessageHead). h.from) c.read_head-h.ensures in
    omega (arith, k.from_high, from)

pub bounds-p-from : goal.bounds-p-from
bounds-p-from c =
    let k = passed (goal.at.bounds-p-from c).In_default in
    let from = ap (λ (h : MessageHead). h.from) c.read_head-h.ensures in
    omega (arith, k.from_low, k.from_high, from)

pub returns-in-Err-check_next : goal.returns-in-Err-check_next
returns-in-Err-check_next c =
    let a = c.args in
    let s = site_of a.p a.live.now a.history.now in
    let passed = passed (goal.at.returns-in-Err-check_next c).In_default in
    let told = next-same s a.m.now _ _ c.read_head-h.ensures c.in-Err-check_next.ensures in
    let cause = c.in-Err-check_next.cause in
    rw (message_refused passed (λ z. caused cause (told ∙ z)), ← told)
    (record {
      replied = c.refused_by-in-Err-check_next.ensures _ _ a.lists.now;
      lists_after = refl;
      out_after = overlay_none a.out.now;
    })

pub slice_bounds-take_kind-count : goal.slice_bounds-take_kind-count
slice_bounds-take_kind-count c = (passed (goal.at.slice_bounds-take_kind-count c).In_default).header

pub slice_bounds-take_kind-start : goal.slice_bounds-take_kind-start
slice_bounds-take_kind-start c = (passed (goal.at.slice_bounds-take_kind-start c).In_default).header

pub take_kind-requires : goal.take_kind-requires
take_kind-requires c =
    let a = c.args in
    let s = site_of a.p a.live.now a.history.now in
    let at = goal.at.take_kind-requires c in
    let k = passed at.In_default in
    let m = a.m.now in
    let low : c.read_head-h.result.channel < 18446744073709551616 = search rules in
    let channel = ap (λ (h : MessageHead). h.channel) c.read_head-h.ensures in
    let last : (message_head m).channel ≤ sizes.last = omega (arith, low, channel) in
    let next = incoming s m (handed_site _ _ k.handed) k.formed last (clear at.After-place_of-place) in
    record {
      incoming = comes s m _ _ c.read_head-h.ensures (rest m) next;
      place = c.place_of-place.ensures.bound;
      lists_len = (handed_length _ _ k.handed, k.long);
    }

pub returns : goal.returns
returns c =
    let a = c.args in
    let at = goal.at.returns c in
    let read = c.read_head-h.ensures in
    let found = c.place_of-place.ensures.first a.live.now in
    rw (same _ _ _ (passed at.In_default) (clear at.After-place_of-place) read (rest a.m.now) found) c.take_kind.ensures
