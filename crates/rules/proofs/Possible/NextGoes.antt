-- The next message of a channel goes on: past the checks it is refused only out of turn, or with a count of messages at its end.
use Prim.Native.Nat.{ℕ, zero, suc, ◌+◌, ◌-◌, ◌≤◌, ◌<◌}
use mathlib.Core.Path.{◌≡◌, refl}
use mathlib.Core.Bool.{Bool, true, false}
use mathlib.Core.Logic.{◌⊎◌, inl, inr, ⊎_elim}
use mathlib.Core.List.{List, [], ◌∷◌}
use native.Mathlib.Omega.{arith}
use borrow.Author.Tests.{leb-true, ltb-false, ltb-true, le-ltb, eq-eqb, not-true}
use lib.Dec.{eqb, leb, ltb}
use lib.ListN.{get_or}
use Rattle.laws.specs.Choice.{pick, every, every_at, by_test, set_not}
use Rattle.laws.specs.Scan.{all_below}
use Rattle.kinds.specs.Sizes as sizes
use Rattle.kinds.specs.Reason as reason
use Rattle.kinds.specs.Kind as kind
use Rattle.kinds.specs.State.{sub_at}
use Rattle.kinds.specs.declared.House.{House}
use Rattle.kinds.specs.declared.MessageHead.{MessageHead}
use Rattle.kinds.specs.declared.Site.{Site}
use Rattle.rules.specs.House.{is_site, is_mask}
use Rattle.rules.specs.Message.{message_head, message_entries, message_ok}
use Rattle.rules.specs.Send.{is_recipient, counts_low}
use Rattle.rules.specs.Live.{place_of, free_place, all_heard}
use Rattle.rules.specs.Certify.{concurrent}
use Rattle.rules.proofs.CertifyLaws.{concurrent_whole}
use Rattle.rules.specs.Valid.{site_ok, handed_ok}
use Rattle.rules.specs.ValidLaws.{valid_site, handed_site}
use Rattle.rules.specs.MessageLaws.{head_clear, passed_good}
use Rattle.rules.specs.CallLaws.{arrival_clear}
use Rattle.rules.specs.Effect.{Change, Effect}
use Rattle.rules.specs.Course.{send_to, channel_spent, with_reply, raise, vote_decides, vote_step}
use Rattle.rules.specs.Deliver.{arrival_causes, arrival_code, next_causes, next_code, arrived, reply_code, spent_to, spent_to_all, step_unless}
use Rattle.rules.specs.Deliver.{spoken, join_at, take_join, passed, take_joined, take_prepare, pass_prepare, conc_in_turn, gather_lists}
use Rattle.rules.specs.Deliver.{take_conc, take_cert, vote_in_turn, take_vote, take_commit, take_abort, keeping, take_held, take_other}
use Rattle.rules.specs.Deliver.{take_kind, message_at, message_of}
use Rattle.rules.specs.Possible.{CountEnds}
use Rattle.rules.proofs.Messages.Spoken.{Speaks, quietly_speaks, prepared_speaks, certified_speaks, vote_speaks, vote_known}
use Rattle.rules.proofs.Messages.GoesOn.{gather_speaks}
use Rattle.rules.proofs.Possible.Passing.{recipient_site}
use Rattle.rules.proofs.Possible.WhyRefused.{Refuses, Only, accepted_refuses, unless_refuses, fails, other_cause, caused}

-- a test that fails at some index
all_below_not : (t : ℕ → Bool) (n : ℕ) → all_below t n ≡ false → (i : ℕ) × (i < n) × (t i ≡ false)
unfolding all_below
all_below_not t zero e = absurd (set_not true refl e)
all_below_not t (suc n) e =
    by_test (t n)
    (λ h. let (i, l, q) = all_below_not t n (rw h at e) in (i, omega arith, q))
    (λ h. (n, omega arith, h))

module _ (s : Site) (ok : site_ok s ≡ true) (h : MessageHead) (from : is_site s.house h.from ≡ true) where
  abbrev o : House
  o = s.house

  -- Counts at their end.
  to_ends : spent_to s h.from ≡ true → CountEnds o s
  unfolding channel_spent
  to_ends e = (h.from, from, leb-true _ _ e)

  all_ends : (mask : ℕ) → is_mask o mask ≡ true → spent_to_all s mask ≡ true → CountEnds o s
  unfolding counts_low
  all_ends mask house e =
      let own = s.counters.own in
      let test : ℕ → Bool = λ i. pick (is_recipient mask own i) (ltb (get_or s.channels.sent i 0) sizes.last) true in
      let (i, l, q) = all_below_not test sizes.sites (not-true _ e) in
      let z : i + 1 - 1 ≡ i = omega arith in
      by_test (is_recipient mask own i)
      (λ r. (i + 1, recipient_site o mask own i house r, rw z (ltb-false (get_or s.channels.sent i 0) sizes.last (rw r at q))))
      (λ r. absurd (set_not true refl (rw r at q)))

  -- out of turn, or at the end of a count
  abbrev pub Stopped : ℕ → Type 0
  Stopped n = (n ≡ reason.stage) ⊎ ((n ≡ reason.spent) × CountEnds o s)

  reply_stopped : (turn spent : Bool) → (spent ≡ true → CountEnds o s) → (reply_code turn spent ≡ 0 → ⊥) → Stopped (reply_code turn spent)
  unfolding reply_code
  reply_stopped turn spent f =
      by_test turn
      (λ a. by_test spent (λ b. rw (a, b) (λ n. inr (refl, f b))) (λ b. rw (a, b) (λ n. absurd (n refl))))
      (λ a. rw a (λ n. inl refl))

  module _ (lists : List ℕ) where
    abbrev Goes : Effect → Type 0
    Goes e = Refuses Stopped e.answer

    step_goes : (place : ℕ) (turn spent : Bool) (c : Change) → (spent ≡ true → CountEnds o s) → Speaks c
        → Goes (keeping lists (step_unless (reply_code turn spent) s place c))
    step_goes place turn spent c f x =
        unless_refuses Stopped (reply_code turn spent) s [] _ (reply_stopped turn spent f) (λ z. accepted_refuses Stopped _ x.accepts)

    -- no message to send
    quiet : false ≡ true → CountEnds o s
    quiet e = absurd (set_not false e refl)

    join_goes : (place : ℕ) → Goes (keeping lists (take_join s h place))
    unfolding take_join join_at spoken send_to
    join_goes place =
        unless_refuses Stopped (reply_code (leb sizes.live place) (spent_to s h.from)) s [] _ (reply_stopped _ _ to_ends)
        (λ z. by_test (ltb (free_place s.live) sizes.live) (λ e. rw e (accepted_refuses Stopped _ refl))
        (λ e. rw e (accepted_refuses Stopped _ refl)))

    other_goes : Goes (take_other h.kind s h lists)
    unfolding take_other pass_prepare passed spoken send_to
    other_goes =
        by_test (eqb h.kind kind.prepare)
        (λ e. rw e (unless_refuses Stopped (reply_code true (spent_to s h.from)) s [] _ (reply_stopped true _ to_ends)
        (λ z. accepted_refuses Stopped _ refl)))
        (λ e. rw e (accepted_refuses Stopped _ refl))

    module _ (es : List ℕ) (place : ℕ) (low : place < sizes.live) where
      -- where a decision falls, or the last list is here
      others_end : (last : Bool) → every (last ∷ spent_to_all s (sub_at s place).course.mask ∷ []) ≡ true → CountEnds o s
      others_end last e =
          all_ends _ ((valid_site s ok).part place low).course.mask_house
          (every_at (last ∷ spent_to_all s (sub_at s place).course.mask ∷ []) 1 e)

      conc_goes : Goes (take_conc s h es lists place)
      unfolding take_conc
      conc_goes =
          let b = (sub_at s place).course in
          let c = with_reply b h.from 0 h.count in
          let made = gather_lists s place es lists in
          let all = all_heard s.counters.own c.heard c.mask in
          unless_refuses Stopped (reply_code (conc_in_turn b h.from) (every (all ∷ spent_to_all s b.mask ∷ []))) s lists _
          (reply_stopped _ _ (others_end all))
          (λ z. accepted_refuses Stopped _ (gather_speaks s h place made).accepts)

      vote_goes : Goes (keeping lists (take_vote s h place))
      unfolding take_vote arrived raise
      vote_goes =
          let c = (sub_at s place).course in
          step_goes place (vote_in_turn c h.from h.argument) _
          (vote_step (raise (arrived s place h.from) h.clock) h.from h.argument)
          (others_end (vote_decides s.counters.own c h.from h.argument)) (vote_speaks _ h.from h.argument)

      held_goes : Goes (take_held h.kind s h es lists place)
      unfolding take_held take_joined take_prepare take_cert take_commit take_abort
      held_goes =
          by_test (eqb h.kind kind.joined)
          (λ a. rw a (step_goes place _ false _ quiet (quietly_speaks _)))
          (λ a. by_test (eqb h.kind kind.prepare)
          (λ b. rw (a, b) (step_goes place _ _ _ to_ends (prepared_speaks _ h.from h.argument _ (concurrent s place)
          (concurrent_whole s place))))
          (λ b. by_test (eqb h.kind kind.conc)
          (λ c. rw (a, b, c) conc_goes)
          (λ c. by_test (eqb h.kind kind.cert)
          (λ d. rw (a, b, c, d) (step_goes place _ _ _ to_ends (certified_speaks _ h.from _ (vote_known s place es h.count))))
          (λ d. by_test (eqb h.kind kind.vote)
          (λ e. rw (a, b, c, d, e) vote_goes)
          (λ e. by_test (eqb h.kind kind.commit)
          (λ f. rw (a, b, c, d, e, f) (step_goes place _ false _ quiet (quietly_speaks _)))
          (λ f. rw (a, b, c, d, e, f) (step_goes place _ false _ quiet (quietly_speaks _))))))))

    pub kind_goes : (es : List ℕ) (place : ℕ) → Goes (take_kind h.kind s h es lists place)
    unfolding take_kind
    kind_goes es place =
        by_test (eqb h.kind kind.join)
        (λ a. rw a (join_goes place))
        (λ a. by_test (ltb place sizes.live)
        (λ b. rw (a, b) (held_goes es place (ltb-true _ _ b)))
        (λ b. rw (a, b) other_goes))

-- The message call.
module _ (s : Site) (lists : List ℕ) (ok : handed_ok s lists ≡ true) (m : List ℕ) where
  from_site : message_ok s.house m ≡ true → is_site s.house (message_head m).from ≡ true
  from_site e = (head_clear s.house (message_head m) (passed_good s.house m e).head).ends.from

  -- refused 2 only where the message does not pass
  pub message_why : (room : ℕ) → Refuses (Only (message_ok s.house m ≡ false)) (message_of s room lists m).answer
  unfolding message_of message_at arrival_code next_code
  message_why room =
      let h = message_head m in
      let X = message_ok s.house m ≡ false in
      let taken = get_or s.channels.taken (h.from - 1) 0 in
      unless_refuses (Only X) (arrival_code (handed_ok s lists) room (message_ok s.house m)) s lists _
      (λ z e. fails _ (rw ok at (caused (arrival_causes (handed_ok s lists) room (message_ok s.house m)) e)))
      (λ z. unless_refuses (Only X) (next_code h.to s.counters.own h.channel taken) s lists _
      (λ y. other_cause (next_causes h.to s.counters.own h.channel taken) refl)
      (λ y n q e.
      let from = from_site (arrival_clear (handed_ok s lists) room (message_ok s.house m) z).formed in
      ⊎_elim (λ (g : n ≡ reason.stage). absurd (omega arith))
      (λ (g : (n ≡ reason.spent) × CountEnds s.house s). absurd (omega (arith, g.0)))
      (kind_goes s (handed_site s lists ok) h from lists (message_entries m) (place_of s.live h.tx) n q)))

  -- the next message of its channel
  pub next_stopped : (room : ℕ) → sizes.outgoing ≤ room → message_ok s.house m ≡ true → (message_head m).to ≡ s.counters.own
      → (message_head m).channel ≡ get_or s.channels.taken ((message_head m).from - 1) 0 + 1
      → Refuses (λ n. (n ≡ reason.stage) ⊎ ((n ≡ reason.spent) × CountEnds s.house s)) (message_of s room lists m).answer
  unfolding message_of message_at arrival_code next_code
  next_stopped room long formed here next =
      rw (ok, formed, le-ltb room sizes.outgoing long, eq-eqb _ _ here, eq-eqb _ _ next)
      (kind_goes s (handed_site s lists ok) (message_head m) (from_site formed) lists (message_entries m)
      (place_of s.live (message_head m).tx))
