-- The coordinator's calls, install and report leave the site possible, and write messages that pass the check.
use Prim.Native.Nat.{ℕ, ◌+◌, ◌*◌, ◌≤◌, ◌<◌}
use mathlib.Core.Path.{◌≡◌, refl, sym, ap, ◌∙◌}
use mathlib.Core.Bool.{true}
use mathlib.Core.List.{List, []}
use native.Mathlib.Nat.{mod-eq_of_lt}
use native.Mathlib.Omega.{arith}
use borrow.Author.Tests.{eqb-true, eqb-false, ltb-true, lt-ltb}
use lib.Dec.{ltb, eqb}
use lib.ListN.{length, get_or, set}
use lib.Seq.{get_or-set_same, get_or-set_other}
use Rattle.laws.specs.Choice.{by_test, by_same}
use Rattle.laws.specs.Overlay.{put_at}
use Rattle.kinds.specs.Sizes as sizes
use Rattle.kinds.specs.Reason as reason
use Rattle.kinds.specs.State.{sub_at, entry_at, past_entry, no_sub, with_installs}
use Rattle.kinds.specs.declared.House.{House}
use Rattle.kinds.specs.declared.Course.{Course}
use Rattle.kinds.specs.declared.Entry.{Entry}
use Rattle.kinds.specs.declared.Site.{Site}
use Rattle.kinds.specs.declared.Turn.{Turn}
use Rattle.rules.specs.House.{is_site, in_mask, coordinator_of}
use Rattle.rules.specs.Message.{entry_count}
use Rattle.rules.specs.Send.{counts_low}
use Rattle.rules.specs.Live.{place_of, all_heard}
use Rattle.rules.specs.History.{remembered, slot_of}
use Rattle.rules.specs.HistoryLaws.{slot_low}
use Rattle.rules.specs.Queue.{least_queued, is_installable}
use Rattle.rules.specs.Join.{joined}
use Rattle.rules.specs.Certify.{concurrent}
use Rattle.rules.specs.Valid.{site_ok, slot_ok, list_at, counters_ok, handed_ok}
use Rattle.rules.specs.Effect.{turn_at, changed}
use Rattle.rules.specs.Course.{channel_spent, with_sub_of, with_course_of, with_request, abort_step}
use Rattle.rules.specs.Enlist.{is_mine, enlist_code, joiner_code, enlist_at, enlist_of}
use Rattle.rules.specs.Commit.{request_code, commit_code, abandon_code, request_change, is_full, is_lost, commit_change, commit_lists}
use Rattle.rules.specs.Commit.{commit_of, abandon_of}
use Rattle.rules.specs.CallLaws.{enlist_clear, joiner_clear, request_clear, install_clear}
use Rattle.rules.specs.Install.{install_code, entry_of, installed_at, install_of, report_code, report_of}
use Rattle.rules.specs.InstallLaws.{due_low, due_decided}
use Rattle.rules.specs.MergerWords.{above, length_put}
use Rattle.rules.specs.KeysLaws.{by_order}
use Rattle.rules.proofs.Refine.Refines.{IsFree}
use Rattle.rules.proofs.Refine.RefineStep.{by_code}
use Rattle.rules.proofs.Possible.ValidMade.{keys_back, entry_made, history_made, site_tests, site_made, handed_made}
use Rattle.rules.proofs.Possible.EntriesMade.{AllPossible, Carried, carried_possible, list_carried, join_carried, others_possible}
use Rattle.rules.proofs.Possible.EntriesMade.{more_possible}
use Rattle.rules.proofs.Possible.CourseFits.{request_fits}
use Rattle.rules.proofs.Possible.StepsFit.{TurnFits, ChangeFits, Leads, list_turn, gone_turn, abort_fits, prepare_fits, enlist_fits}
use Rattle.rules.proofs.Possible.StepsFit.{cast_fits}
use Rattle.rules.proofs.Possible.SitesFit.{Sound, EffectFits, site_ok_lem, site_valid, lists_long, part_at, few_listed, old_possible}
use Rattle.rules.proofs.Possible.SitesFit.{held_there}
use Rattle.rules.proofs.Possible.SitesFit.{tx_there, tx_possible, old_fits, settled_live, settled_lists, settled_handed}
use Rattle.rules.proofs.Possible.SitesFit.{changed_fits}
use Rattle.rules.proofs.Possible.SitesFit.{refused_fits, unless_fits}

module _ {s : Site} {lists : List ℕ} (y : Sound s lists) where
  abbrev o : House
  o = s.house

  abbrev here : ℕ
  here = s.counters.own

  module _ (t : ℕ) (low : place_of s.live t < sizes.live) (mine : is_mine s t ≡ true) where
    abbrev place : ℕ
    place = place_of s.live t

    fits : TurnFits s (list_at lists place) (turn_at s place)
    unfolding turn_at
    fits = old_fits y place low (held_there y t low)

    leads : Leads s (turn_at s place)
    unfolding turn_at
    leads = record { tx = tx_possible y t low; mine = ap coordinator_of (tx_there y t low) ∙ eqb-true (coordinator_of t) here mine }

    abort_call : (r : ℕ) (lent : List ℕ) → EffectFits s (changed s place (abort_step (turn_at s place) r) lent) lists
    abort_call r lent = changed_fits y place low _ lent (abort_fits (site_valid y) fits leads r)

    -- The commit request: the own list stands first in the gathered ones.
    module _ (own : in_mask (sub_at s place).course.mask here ≡ true) where
      list : List ℕ
      list = concurrent s place

      carried : Carried o sizes.conc_entries list
      unfolding list
      carried = list_carried s (site_ok_lem y) place low

      possible : AllPossible o list (entry_count list)
      possible i k = carried_possible o list i (carried.each i k)

      fit : sizes.gathered * place + length list ≤ sizes.gathered * place + sizes.gathered
      fit = omega (arith, carried.whole, carried.few)

      after : List ℕ
      after = put_at (sizes.gathered * place) lists list

      stands : AllPossible o (list_at after place) (entry_count list)
      unfolding after
      stands i k =
          more_possible o lists list (sizes.gathered * place) place (lists_long y) low (omega arith) fit 0 (entry_count list) (omega arith)
          carried.whole (λ j m. absurd (omega arith)) possible i (omega arith)

      abbrev asked : Course
      asked = with_request (sub_at s place).course (entry_count list)

      request_turn : TurnFits s (list_at after place) (with_course_of (turn_at s place) asked)
      unfolding turn_at with_request
      request_turn =
          let v = site_valid y in
          list_turn v (turn_at s place) fits (list_at after place) asked (tx_possible y t low)
          (request_fits o here v.house (sub_at s place).course fits.course (entry_count list) carried.few) stands

      request_leads : Leads s (with_course_of (turn_at s place) asked)
      request_leads = record { tx = leads.tx; mine = leads.mine }

      request_change_lem : ChangeFits s (list_at after place) (request_change s place list)
      unfolding request_change with_request turn_at
      request_change_lem =
          let v = site_valid y in
          let joint = join_carried o list (entry_count list) possible sizes.cert_entries (omega (arith, carried.few)) in
          by_test (all_heard here 0 (sub_at s place).course.mask)
          (λ e. rw e (cast_fits v request_turn request_leads _ (joined list (entry_count list)) joint))
          (λ e. rw e (prepare_fits v request_turn request_leads own))

      request_call : EffectFits s (changed s place (request_change s place list) after) after
      unfolding after
      request_call =
          let x = request_change_lem in
          record {
            handed = settled_handed y place low (request_change s place list).turn x.turn after refl
                (length_put (sizes.gathered * place) lists list (omega (arith, fit, lists_long y)) ∙ lists_long y)
                (λ j k m f. others_possible o lists list (sizes.gathered * place) place (lists_long y) low (omega arith) fit j _ m
                (few_listed y j k) (old_possible y j k f));
            words = x.words;
          }

      commit_change_lem : EffectFits s (changed s place (commit_change s place) (commit_lists s lists place)) (commit_lists s lists place)
      unfolding commit_change commit_lists after list
      commit_change_lem =
          by_test (is_full s place)
          (λ e. rw e (abort_call reason.full lists))
          (λ e. by_test (is_lost s place) (λ f. rw (e, f) (abort_call reason.uncertain lists)) (λ f. rw (e, f) request_call))

  pub enlist_call : (room t a : ℕ) → EffectFits s (enlist_of s room t a) lists
  unfolding enlist_of enlist_at
  enlist_call room t a =
      let place = place_of s.live t in
      let c = (sub_at s place).course in
      unless_fits y (enlist_code (site_ok s) room (is_site o a) place (is_mine s t)) [] _
      (λ z.
      let q = enlist_clear _ _ _ _ _ z in
      unless_fits y (joiner_code c.stage (eqb a here) (in_mask c.mask a) (channel_spent s.channels a)) [] _
      (λ j.
      let other = eqb-false a here (joiner_clear _ _ _ _ j).other in
      changed_fits y place q.held _ []
      (enlist_fits (site_valid y) (fits t q.held q.coordinator) (leads t q.held q.coordinator) a q.site
      (λ e. other (sym e)))))

  pub abandon_call : (room t : ℕ) → EffectFits s (abandon_of s room t) lists
  unfolding abandon_of
  abandon_call room t =
      let place = place_of s.live t in
      let c = (sub_at s place).course in
      unless_fits y (request_code (site_ok s) room place (is_mine s t)) [] _
      (λ z.
      let q = request_clear _ _ _ _ z in
      unless_fits y (abandon_code c.stage (counts_low s.channels.sent c.mask here)) [] _
      (λ a. abort_call t q.held q.coordinator reason.abandoned []))

  -- the commit call, where a part that this site coordinates has this site in its mask
  pub commit_call : (room t : ℕ)
      → (place_of s.live t < sizes.live → is_mine s t ≡ true → in_mask (sub_at s (place_of s.live t)).course.mask here ≡ true)
      → EffectFits s (commit_of s room lists t) (commit_of s room lists t).lent
  unfolding commit_of
  commit_call room t own =
      let place = place_of s.live t in
      let c = (sub_at s place).course in
      let heard = all_heard here c.heard c.mask in
      by_code (λ e. EffectFits s e e.lent) (request_code (handed_ok s lists) room place (is_mine s t)) s lists _
      (λ z.
      let q = request_clear _ _ _ _ z in
      by_code (λ e. EffectFits s e e.lent) (commit_code c.stage heard (counts_low s.channels.sent c.mask here)) s lists _
      (λ a. commit_change_lem t q.held q.coordinator (own q.held q.coordinator)) (refused_fits y _ lists))
      (refused_fits y _ lists)

  -- Install: the part is gone, and stands in its slot of the history.
  installs_fit : (n : ℕ) → counters_ok o (with_installs s.counters n) ≡ true
  unfolding counters_ok
  installs_fit n = (site_tests s (site_ok_lem y)).counters

  -- a slot in use after an install, other than its own, was in use before it
  used_before : (n i : ℕ) → (i ≡ slot_of n → ⊥) → i < remembered (n + 1) → i < remembered n
  unfolding remembered
  used_before n i apart h =
      by_order n sizes.history
      (λ z.
      let e : slot_of n ≡ n = mod-eq_of_lt z in
      let below : i < n = above i n (omega arith) (λ x. apart (x ∙ sym e)) in
      omega arith)
      (λ z. omega arith)

  module _ (place : ℕ) (low : place < sizes.live) (held : IsFree (sub_at s place) → ⊥) where
    abbrev n : ℕ
    n = s.counters.installs

    abbrev entry : Entry
    entry = entry_of (sub_at s place)

    abbrev gone : Turn
    gone = with_sub_of (turn_at s place) no_sub

    slot_fits : (i : ℕ) → i < sizes.history
        → slot_ok o here (ltb i (remembered (n + 1))) (get_or (set s.history (slot_of n) entry) i past_entry) ≡ true
    unfolding entry_of
    slot_fits i k =
        let b = part_at y place low in
        let e = (site_valid y).entry i k in
        by_same i (slot_of n)
        (λ z. rw (z, get_or-set_same s.history (slot_of n) entry past_entry (omega (arith, slot_low n, y.history)))
        (entry_made o here _ entry b.course.mask_house (keys_back o here _ b.keys) (λ u. b.tx held)))
        (λ z. rw (get_or-set_other s.history (slot_of n) i entry past_entry z)
        (entry_made o here _ (entry_at s i) e.mask_house (keys_back o here _ e.keys)
        (λ u. e.tx (lt-ltb i (remembered n) (used_before n i z (ltb-true _ _ u))))))

    gone_fits : TurnFits s (list_at lists place) gone
    unfolding turn_at
    gone_fits = gone_turn (site_valid y) (turn_at s place) (old_fits y place low held)

    installed_fits : (base : List ℕ) → handed_ok (installed_at s base place).site lists ≡ true
    unfolding installed_at turn_at
    installed_fits base =
        let x = gone_fits in
        handed_made (installed_at s base place).site lists (lists_long y)
        (site_made (installed_at s base place).site (record {
          house = (site_tests s (site_ok_lem y)).house;
          counters = installs_fit (n + 1);
          live = settled_live y place low gone x;
          history = history_made o here (n + 1) (set s.history (slot_of n) entry) slot_fits;
        }))
        (settled_lists y place low gone x lists refl (λ j k m f. old_possible y j k f))

  pub install_call : (room : ℕ) (base : List ℕ) → handed_ok (install_of s room base).site lists ≡ true
  unfolding install_of
  install_call room base =
      let place = least_queued s.live sizes.live in
      let code = install_code (site_ok s) room (length base) (is_installable s.live place) s.counters.installs in
      by_code (λ e. handed_ok e.site lists ≡ true) code s base _
      (λ z.
      let due = (install_clear _ _ _ _ _ z).least in
      installed_fits place (due_low s.live place due) (λ f. omega (arith, due_decided s.live place due)) base)
      y.handed

  pub report_call : (room : ℕ) → handed_ok (report_of s room).site lists ≡ true
  unfolding report_of
  report_call room = by_code (λ e. handed_ok e.site lists ≡ true) (report_code (site_ok s) room) s [] _ (λ z. y.handed) y.handed
