-- A message taken leaves its site possible, and what it is answered by passes the check.
use Prim.Native.Nat.{ℕ, ◌+◌, ◌-◌, ◌*◌, ◌≤◌, ◌<◌}
use mathlib.Core.Path.{◌≡◌, refl, sym, ap, ◌∙◌}
use mathlib.Core.Bool.{Bool, true, false}
use mathlib.Core.Logic.{inl, inr}
use mathlib.Core.List.{List, [], ◌∷◌}
use native.Mathlib.Omega.{arith}
use borrow.Author.Tests.{eqb-true, ltb-true}
use lib.Dec.{leb, ltb, eqb}
use lib.ListN.{length, get_or}
use Rattle.laws.specs.Choice.{by_test, every, every_at}
use Rattle.laws.specs.Scan.{all_below_at}
use Rattle.kinds.specs.Sizes as sizes
use Rattle.kinds.specs.Stage as stage
use Rattle.kinds.specs.Kind as kind
use Rattle.kinds.specs.Desk as desk
use Rattle.kinds.specs.Reason as reason
use Rattle.kinds.specs.State.{sub_at, no_sub}
use Rattle.kinds.specs.declared.House.{House}
use Rattle.kinds.specs.declared.Channels.{Channels}
use Rattle.kinds.specs.declared.Counters.{Counters}
use Rattle.kinds.specs.declared.Course.{Course}
use Rattle.kinds.specs.declared.Site.{Site}
use Rattle.kinds.specs.declared.Turn.{Turn}
use Rattle.kinds.specs.declared.MessageHead.{MessageHead}
use Rattle.rules.specs.House.{is_tx, is_mask, in_mask, coordinator_of}
use Rattle.rules.specs.Desk.{is_desk}
use Rattle.rules.specs.Message.{to_coordinator, coordinator_end, argument_ok, most_entries, entry_ok, message_head, message_entries}
use Rattle.rules.specs.Message.{message_ok, GoodMessage}
use Rattle.rules.specs.MessageLaws.{HeadClear, head_clear, passed_good, site_clear}
use Rattle.rules.specs.Live.{place_of, free_place, all_heard}
use Rattle.rules.specs.Certify.{concurrent}
use Rattle.rules.specs.Valid.{list_at, counters_ok, handed_ok}
use Rattle.rules.specs.ValidLaws.{ValidSite}
use Rattle.rules.specs.Effect.{Change, Effect, changed}
use Rattle.rules.specs.Course.{new_sub, raise, with_sub_of, with_course_of, is_outstanding, with_reply, with_decision}
use Rattle.rules.specs.CallLaws.{arrival_clear, next_clear, reply_clear}
use Rattle.rules.specs.Deliver.{arrival_code, next_code, arrived, passed, reply_code, spent_to, spent_to_all, step_unless, join_turn, spoken}
use Rattle.rules.specs.Deliver.{join_at, take_join, take_joined, take_prepare, pass_prepare, conc_in_turn, gather_change, gather_lists}
use Rattle.rules.specs.Deliver.{take_conc, take_cert, take_vote, take_commit, take_abort, keeping, take_held, take_other, take_kind}
use Rattle.rules.specs.Deliver.{message_at, message_of}
use Rattle.rules.specs.DeliverLaws.{conc_room}
use Rattle.rules.specs.MergerWords.{length_put}
use Rattle.rules.proofs.Lists.Masks.{outstanding_unheard}
use Rattle.rules.proofs.Refine.Refines.{IsFree}
use Rattle.rules.proofs.Refine.RefineStep.{by_code}
use Rattle.rules.proofs.Refine.RefineMail.{none}
use Rattle.rules.proofs.Possible.ValidMade.{none_mask, house_desk, site_tests, site_made, handed_made, handed_lists}
use Rattle.rules.proofs.Possible.EntriesMade.{AllPossible, carried_possible, list_carried, join_carried, others_possible}
use Rattle.rules.proofs.Possible.EntriesMade.{more_possible}
use Rattle.rules.proofs.Possible.CourseFits.{decision_fits, reply_fits}
use Rattle.rules.proofs.Possible.StepsFit.{TurnFits, ChangeFits, Leads, Replies, votes_so, may_unknown, raise_fits, quietly_fits}
use Rattle.rules.proofs.Possible.StepsFit.{list_turn}
use Rattle.rules.proofs.Possible.StepsFit.{course_turn, gone_turn, joined_fits, vote_fits, cast_fits, reply_turn, ballot_fits}
use Rattle.rules.proofs.Possible.StepsFit.{prepared_fits}
use Rattle.rules.proofs.Possible.StepsFit.{certified_fits}
use Rattle.rules.proofs.Possible.SitesFit.{Sound, EffectFits, site_ok_lem, site_valid, lists_long, part_at, few_listed, old_possible}
use Rattle.rules.proofs.Possible.SitesFit.{held_there}
use Rattle.rules.proofs.Possible.SitesFit.{tx_there, tx_possible, old_fits, settled_handed, changed_fits, refused_fits, unless_fits}
use Rattle.rules.proofs.Possible.CallsFit.{new_part}

-- the lists stay as they were
keeping_fits : (s : Site) (lists : List ℕ) (e : Effect) → EffectFits s e lists → EffectFits s (keeping lists e) lists
keeping_fits s lists e x = record { handed = x.handed; words = x.words }

module _ {s : Site} {lists : List ℕ} (y : Sound s lists) where
  abbrev o : House
  o = s.house

  abbrev here : ℕ
  here = s.counters.own

  abbrev valid : ValidSite s
  valid = site_valid y

  abbrev counters_ok_lem : counters_ok o s.counters ≡ true
  counters_ok_lem = (site_tests s (site_ok_lem y)).counters

  -- what a message leaves, with the lists that it lends back
  abbrev Left : Effect → Type 0
  Left e = EffectFits s e e.lent

  -- Without a part: other counters and channels.
  counted : (c : Counters) (d : Channels) → c.own ≡ here → c.installs ≡ s.counters.installs → counters_ok o c ≡ true
      → handed_ok (record { house = o; counters = c; channels = d; live = s.live; history = s.history }) lists ≡ true
  counted c d own installs e =
      let old = site_tests s (site_ok_lem y) in
      handed_made _ lists (lists_long y)
      (site_made _ (record { house = old.house; counters = e; live = rw own old.live; history = rw (own, installs) old.history }))
      (handed_lists s lists y.handed)

  spoken_fits : (es : List ℕ) (c : Change) → ChangeFits s es c → EffectFits s (spoken s c) lists
  unfolding spoken
  spoken_fits es c x = let t = x.turn in record { handed = counted _ _ t.own t.installs t.counters; words = x.words }

  passed_fits : (a : ℕ) → EffectFits s (passed s a) lists
  unfolding passed
  passed_fits a = record { handed = counted _ _ refl refl counters_ok_lem; words = none }

  -- A message that passed the check, to this site.
  module _ (h : MessageHead) (es : List ℕ) (good : GoodMessage o h es) (to : h.to ≡ here) where
    clear : HeadClear o h
    clear = head_clear o h good.head

    apart : h.from ≡ here → ⊥
    apart z = clear.ends.apart (z ∙ sym to)

    from_coordinator : {k : ℕ} → h.kind ≡ k → to_coordinator k ≡ false → coordinator_of h.tx ≡ h.from
    unfolding coordinator_end
    from_coordinator k e = rw (k, e) at clear.ends.coordinator

    to_coordinator_lem : {k : ℕ} → h.kind ≡ k → to_coordinator k ≡ true → coordinator_of h.tx ≡ here
    unfolding coordinator_end
    to_coordinator_lem k e = rw (k, e) at clear.ends.coordinator ∙ to

    -- JOIN
    join_turn_lem : (d : ℕ) → is_desk d ≡ true → (es : List ℕ) → TurnFits s es (join_turn s h d)
    unfolding join_turn
    join_turn_lem d k es = new_part s es s.counters h.tx d 0 valid refl refl counters_ok_lem k (none_mask o) clear.ends.tx

    join_replies : (d : ℕ) → coordinator_of h.tx ≡ h.from → Replies s (join_turn s h d) h.from
    unfolding join_turn new_sub
    join_replies d e = record { tx = clear.ends.tx; theirs = e; site = clear.ends.from; apart = λ z. apart (sym z) }

    take_join_lem : (place : ℕ) → h.kind ≡ kind.join → EffectFits s (take_join s h place) lists
    unfolding take_join join_at to_coordinator argument_ok
    take_join_lem place k =
        let free = free_place s.live in
        let d = h.argument in
        let known : is_desk d ≡ true = rw k at clear.argument in
        let r = join_replies d (from_coordinator k refl) in
        unless_fits y (reply_code (leb sizes.live place) (spent_to s h.from)) [] _
        (λ z. by_test (ltb free sizes.live)
        (λ e. rw e (changed_fits y free (ltb-true _ _ e) _ [] (joined_fits valid (join_turn_lem d known (list_at lists free)) r 0 (inl refl))))
        (λ e. rw e (spoken_fits [] _ (joined_fits valid (join_turn_lem d known []) r reason.full (inr refl)))))

    -- A transaction that is not held.
    take_other_lem : Left (take_other h.kind s h lists)
    unfolding take_other pass_prepare raise to_coordinator
    take_other_lem =
        by_test (eqb h.kind kind.prepare)
        (λ e. rw e
        (let t = raise (join_turn s h desk.house) h.clock in
        let r = join_replies desk.house (from_coordinator (eqb-true _ _ e) refl) in
        let on : Replies s t h.from = record { tx = r.tx; theirs = r.theirs; site = r.site; apart = r.apart } in
        keeping_fits s lists _
        (unless_fits y (reply_code true (spent_to s h.from)) [] _
        (λ z. spoken_fits [] _
        (vote_fits valid (raise_fits s [] (join_turn s h desk.house) h.clock (join_turn_lem desk.house house_desk [])) on
        t.counters.clock reason.unknown (may_unknown o))))))
        (λ e. rw e (keeping_fits s lists _ (passed_fits h.from)))

    -- A transaction that is held.
    module _ (low : place_of s.live h.tx < sizes.live) where
      abbrev place : ℕ
      place = place_of s.live h.tx

      abbrev gathered : List ℕ
      gathered = list_at lists place

      abbrev turn : Turn
      turn = arrived s place h.from

      held : IsFree (sub_at s place) → ⊥
      held = held_there y h.tx low

      possible : is_tx o (sub_at s place).tx ≡ true
      possible = tx_possible y h.tx low

      fits : TurnFits s gathered turn
      unfolding arrived
      fits = old_fits y place low held

      leads : coordinator_of h.tx ≡ here → Leads s turn
      unfolding arrived
      leads e = record { tx = possible; mine = ap coordinator_of (tx_there y h.tx low) ∙ e }

      replies : coordinator_of h.tx ≡ h.from → Replies s turn h.from
      unfolding arrived
      replies e =
          record {
            tx = possible;
            theirs = ap coordinator_of (tx_there y h.tx low) ∙ e;
            site = clear.ends.from;
            apart = λ z. apart (sym z);
          }

      -- the turn with its clock raised
      abbrev raised : Turn
      raised = raise turn h.clock

      raised_fits : TurnFits s gathered raised
      raised_fits = raise_fits s gathered turn h.clock fits

      raised_leads : Leads s turn → Leads s raised
      unfolding raise
      raised_leads x = record { tx = x.tx; mine = x.mine }

      raised_replies : Replies s turn h.from → Replies s raised h.from
      unfolding raise
      raised_replies x = record { tx = x.tx; theirs = x.theirs; site = x.site; apart = x.apart }

      -- a step at its place, or its refusal
      step_fits : (in_turn spent : Bool) (c : Change) → ChangeFits s gathered c
          → EffectFits s (keeping lists (step_unless (reply_code in_turn spent) s place c)) lists
      step_fits in_turn spent c x =
          keeping_fits s lists _ (unless_fits y (reply_code in_turn spent) [] _ (λ z. changed_fits y place low c [] x))

      take_joined_lem : h.kind ≡ kind.joined → EffectFits s (keeping lists (take_joined s h place)) lists
      unfolding take_joined to_coordinator
      take_joined_lem k =
          step_fits _ _ _
          (quietly_fits s gathered (with_course_of turn (with_reply turn.sub.course h.from h.argument 0))
          (reply_turn valid fits (leads (to_coordinator_lem k refl)) h.from h.argument clear.ends.from apart))

      take_prepare_lem : h.kind ≡ kind.prepare → EffectFits s (keeping lists (take_prepare s h place)) lists
      unfolding take_prepare to_coordinator argument_ok
      take_prepare_lem k =
          let l = is_mask o h.argument ∷ in_mask h.argument h.from ∷ in_mask h.argument h.to ∷ [] in
          let mask = every_at l 0 (rw k at clear.argument) in
          step_fits _ _ _
          (prepared_fits valid raised_fits (raised_replies (replies (from_coordinator k refl))) h.argument _ (concurrent s place) mask
          (list_carried s (site_ok_lem y) place low))

      take_cert_lem : h.kind ≡ kind.cert → EffectFits s (keeping lists (take_cert s h es place)) lists
      unfolding take_cert to_coordinator
      take_cert_lem k =
          step_fits _ _ _
          (certified_fits valid fits (replies (from_coordinator k refl)) _ (votes_so o s place es h.count))

      take_vote_lem : h.kind ≡ kind.vote → EffectFits s (keeping lists (take_vote s h place)) lists
      unfolding take_vote to_coordinator
      take_vote_lem k =
          step_fits _ _ _
          (ballot_fits valid raised_fits (raised_leads (leads (to_coordinator_lem k refl))) h.from h.argument clear.ends.from apart)

      take_commit_lem : EffectFits s (keeping lists (take_commit s h place)) lists
      unfolding take_commit raise arrived with_decision
      take_commit_lem =
          let c = (sub_at s place).course in
          let decided = decision_fits o here valid.house c fits.course h.clock in
          step_fits _ _ _
          (quietly_fits s gathered (with_course_of raised (with_decision c h.clock))
          (course_turn valid raised raised_fits _ possible decided fits.entries))

      take_abort_lem : EffectFits s (keeping lists (take_abort s h place)) lists
      unfolding take_abort
      take_abort_lem = step_fits _ _ _ (quietly_fits s gathered (with_sub_of turn no_sub) (gone_turn valid turn fits))

      -- CONC: behind what is gathered, and the last brings the vote on their join
      module _ (k : h.kind ≡ kind.conc) (in_turn : conc_in_turn (sub_at s place).course h.from ≡ true) where
        abbrev course : Course
        course = with_reply (sub_at s place).course h.from 0 h.count

        abbrev after : List ℕ
        after = gather_lists s place es lists

        few : h.count ≤ sizes.conc_entries
        unfolding most_entries
        few = rw k at clear.few

        room : (sub_at s place).course.listed + h.count ≤ sizes.cert_entries
        room =
            let b = site_clear o h.from clear.ends.from in
            let v = valid.house in
            conc_room o here h.from h.count (sub_at s place).course v (part_at y place low).course b.low
            (omega (arith, b.high, v.few_sites)) apart in_turn few

        entries : AllPossible o es h.count
        entries i m = carried_possible o es i (all_below_at (entry_ok o es) h.count i good.entries m)

        stands : AllPossible o (list_at after place) ((sub_at s place).course.listed + h.count)
        unfolding gather_lists
        stands =
            let n = (sub_at s place).course.listed in
            more_possible o lists es (sizes.gathered * place + sizes.entry * n) place (lists_long y) low (omega arith)
            (omega (arith, good.size, room)) n h.count refl good.size (old_possible y place low held) entries

        conc_turn : TurnFits s (list_at after place) (with_course_of turn course)
        unfolding arrived with_reply conc_in_turn
        conc_turn =
            let b = (sub_at s place).course in
            let l = eqb b.stage stage.prepared ∷ is_outstanding b h.from ∷ [] in
            let unheard = outstanding_unheard b h.from (every_at l 1 in_turn) in
            list_turn valid turn fits (list_at after place) course possible
            (reply_fits o here valid.house b fits.course h.from 0 h.count clear.ends.from apart (inr (unheard, few))) stands

        conc_change : ChangeFits s (list_at after place) (gather_change s h place after)
        unfolding gather_change to_coordinator with_reply
        conc_change =
            let x = leads (to_coordinator_lem k refl) in
            let on : Leads s (with_course_of turn course) = record { tx = x.tx; mine = x.mine } in
            let joint = join_carried o (list_at after place) course.listed conc_turn.entries sizes.cert_entries room in
            by_test (all_heard here course.heard course.mask)
            (λ e. rw e (cast_fits valid conc_turn on _ _ joint))
            (λ e. rw e (quietly_fits s (list_at after place) _ conc_turn))

        conc_fits : EffectFits s (changed s place (gather_change s h place after) after) after
        unfolding gather_lists
        conc_fits =
            let n = lists_long y in
            let at = sizes.gathered * place + sizes.entry * (sub_at s place).course.listed in
            let fit : at + length es ≤ sizes.gathered * place + sizes.gathered = omega (arith, good.size, room) in
            record {
              handed = settled_handed y place low _ conc_change.turn after refl (length_put at lists es (omega arith) ∙ n)
                  (λ j m a f. others_possible o lists es at place n low (omega arith) fit j _ a (few_listed y j m) (old_possible y j m f));
              words = conc_change.words;
            }

      take_conc_lem : h.kind ≡ kind.conc → Left (take_conc s h es lists place)
      unfolding take_conc
      take_conc_lem k =
          let b = (sub_at s place).course in
          let c = with_reply b h.from 0 h.count in
          let last = all_heard here c.heard c.mask in
          by_code Left (reply_code (conc_in_turn b h.from) (every (last ∷ spent_to_all s b.mask ∷ []))) s lists _
          (λ z. conc_fits k (reply_clear _ _ z).turn) (refused_fits y _ lists)

      take_held_lem : Left (take_held h.kind s h es lists place)
      unfolding take_held
      take_held_lem =
          by_test (eqb h.kind kind.joined)
          (λ a. rw a (take_joined_lem (eqb-true _ _ a)))
          (λ a. by_test (eqb h.kind kind.prepare)
          (λ b. rw (a, b) (take_prepare_lem (eqb-true _ _ b)))
          (λ b. by_test (eqb h.kind kind.conc)
          (λ c. rw (a, b, c) (take_conc_lem (eqb-true _ _ c)))
          (λ c. by_test (eqb h.kind kind.cert)
          (λ d. rw (a, b, c, d) (take_cert_lem (eqb-true _ _ d)))
          (λ d. by_test (eqb h.kind kind.vote)
          (λ e. rw (a, b, c, d, e) (take_vote_lem (eqb-true _ _ e)))
          (λ e. by_test (eqb h.kind kind.commit)
          (λ f. rw (a, b, c, d, e, f) take_commit_lem)
          (λ f. rw (a, b, c, d, e, f) take_abort_lem))))))

    take_kind_lem : Left (take_kind h.kind s h es lists (place_of s.live h.tx))
    unfolding take_kind
    take_kind_lem =
        let place = place_of s.live h.tx in
        by_test (eqb h.kind kind.join)
        (λ a. rw a (keeping_fits s lists _ (take_join_lem place (eqb-true _ _ a))))
        (λ a. by_test (ltb place sizes.live)
        (λ b. rw (a, b) (take_held_lem (ltb-true _ _ b)))
        (λ b. rw (a, b) take_other_lem))

  pub message_call : (room : ℕ) (m : List ℕ) → Left (message_of s room lists m)
  unfolding message_of message_at
  message_call room m =
      let h = message_head m in
      by_code Left (arrival_code (handed_ok s lists) room (message_ok o m)) s lists _
      (λ z.
      by_code Left (next_code h.to here h.channel (get_or s.channels.taken (h.from - 1) 0)) s lists _
      (λ y. take_kind_lem h (message_entries m) (passed_good o m (arrival_clear _ _ _ z).formed) (next_clear _ _ _ _ y).here)
      (refused_fits y _ lists))
      (refused_fits y _ lists)
