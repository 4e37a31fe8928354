-- A refused call leaves all as it was: whatever is no refusal by a list of causes is accepted, and a refusal is the state as given.
use Prim.Native.Nat.{ℕ, ◌-◌}
use mathlib.Core.Path.{◌≡◌, refl, ap}
use mathlib.Core.Bool.{false, true, Bool}
use mathlib.Core.List.{List, [], ◌∷◌, ◌++◌, append-nil}
use lib.Dec.{eqb, ltb, leb}
use lib.ListN.{length, get_or}
use Rattle.laws.specs.Choice.{by_test, set_not, every}
use Rattle.kinds.specs.Sizes as sizes
use Rattle.kinds.specs.Kind as kind
use Rattle.kinds.specs.State.{sub_at}
use Rattle.kinds.specs.declared.Site.{Site}
use Rattle.kinds.specs.declared.Merger.{Merger}
use Rattle.kinds.specs.declared.MessageHead.{MessageHead}
use Rattle.kinds.specs.declared.Answer.TheVariants.{Refused}
use Rattle.rules.specs.Valid.{site_ok, handed_ok}
use Rattle.rules.specs.Effect.{Change, Effect, changed}
use Rattle.rules.specs.Record.{record_head}
use Rattle.rules.specs.Message.{message_head, message_entries, message_ok}
use Rattle.rules.specs.Live.{place_of, free_place, all_heard}
use Rattle.rules.specs.Queue.{least_queued, is_installable}
use Rattle.rules.specs.Certify.{concurrent}
use Rattle.rules.proofs.CertifyLaws.{concurrent_whole}
use Rattle.rules.specs.Course.{send_to, with_reply}
use Rattle.rules.specs.Deliver.{arrival_code, next_code, reply_code, spent_to, step_unless, keeping, passed, spoken, join_at, take_join}
use Rattle.rules.specs.Deliver.{take_joined, take_prepare, pass_prepare, take_conc, gather_lists, take_cert, take_vote, take_commit}
use Rattle.rules.specs.Deliver.{take_abort, take_held, take_other, take_kind, message_at, message_of, gather_change, conc_in_turn, spent_to_all}
use Rattle.rules.specs.Install.{install_code, installed_at, install_of, report_code, report_of}
use Rattle.rules.specs.Merger.{Merging, unless_merger, source_at, merge_part_code, merge_part, merge_state_code, merge_state, merge_code}
use Rattle.rules.specs.Merger.{merge_of, heads_of, least_site, due_code, emit_due, emit_code, emit_of}
use Rattle.rules.specs.Copy.{replay_code, replay_of}
use Rattle.rules.specs.Answers.{is_refused}
use Rattle.rules.specs.World.{World, upd, step, site_step, log_step, merger_step, merge_step, copy_step, replay_step, step_taken, messages_in}
use Rattle.rules.specs.World.{split_words, record_in}
use Rattle.rules.specs.World as world
use Rattle.rules.specs.Refusals.{RefusedLeaves}
use Rattle.rules.proofs.Lists.Tables.{upd_self}
use Rattle.rules.proofs.Messages.Spoken.{Speaks, quietly_speaks, prepared_speaks, certified_speaks, vote_speaks, vote_known}
use Rattle.rules.proofs.Messages.KnownWords.{Leaves, accepted_leaves, refusal_leaves, begin_writes, read_writes, write_writes}
use Rattle.rules.proofs.Messages.KnownWords.{enlist_writes}
use Rattle.rules.proofs.Messages.KnownWords.{commit_writes, abandon_writes}
use Rattle.rules.proofs.Messages.GoesOn.{gather_speaks}

-- Messages.
keeps_leaves : (s : Site) (lists : List ℕ) (e : Effect) → Leaves s [] e → Leaves s lists (keeping lists e)
keeps_leaves s lists e x n q = let (a, b, c) = x n q in (a, b, refl)

module _ (s : Site) (lists : List ℕ) where
  -- a step at a place, or its refusal
  step_leaves : (turn spent : Bool) (place : ℕ) (c : Change) → Speaks c
      → Leaves s lists (keeping lists (step_unless (reply_code turn spent) s place c))
  step_leaves turn spent place c x =
      keeps_leaves s lists _
      (refusal_leaves (reply_code turn spent) s [] (changed s place c []) (accepted_leaves s [] (changed s place c []) x.accepts))

  join_leaves : (h : MessageHead) (place : ℕ) → Leaves s lists (keeping lists (take_join s h place))
  unfolding take_join join_at spoken send_to
  join_leaves h place =
      keeps_leaves s lists _
      (refusal_leaves (reply_code (leb sizes.live place) (spent_to s h.from)) s [] (join_at s h (free_place s.live))
      (by_test (ltb (free_place s.live) sizes.live) (λ e. rw e (accepted_leaves s [] _ refl)) (λ e. rw e (accepted_leaves s [] _ refl))))

  other_leaves : (k : ℕ) (h : MessageHead) → Leaves s lists (take_other k s h lists)
  unfolding take_other pass_prepare passed spoken send_to
  other_leaves k h =
      by_test (eqb k kind.prepare)
      (λ e. rw e (keeps_leaves s lists _ (refusal_leaves (reply_code true (spent_to s h.from)) s [] _ (accepted_leaves s [] _ refl))))
      (λ e. rw e (accepted_leaves s lists _ refl))

  conc_leaves : (h : MessageHead) (es : List ℕ) (place : ℕ) → Leaves s lists (take_conc s h es lists place)
  unfolding take_conc
  conc_leaves h es place =
      let b = (sub_at s place).course in
      let c = with_reply b h.from 0 h.count in
      let made = gather_lists s place es lists in
      let e = changed s place (gather_change s h place made) made in
      refusal_leaves
      (reply_code (conc_in_turn b h.from) (every (all_heard s.counters.own c.heard c.mask ∷ spent_to_all s b.mask ∷ []))) s
      lists e
      (accepted_leaves s lists e (gather_speaks s h place made).accepts)

  held_leaves : (k : ℕ) (h : MessageHead) (es : List ℕ) (place : ℕ) → Leaves s lists (take_held k s h es lists place)
  unfolding take_held take_joined take_prepare take_cert take_vote take_commit take_abort
  held_leaves k h es place =
      by_test (eqb k kind.joined)
      (λ a. rw a (step_leaves _ _ place _ (quietly_speaks _)))
      (λ a. by_test (eqb k kind.prepare)
      (λ b. rw (a, b)
      (step_leaves _ _ place _ (prepared_speaks _ h.from h.argument _ (concurrent s place) (concurrent_whole s place))))
      (λ b. by_test (eqb k kind.conc)
      (λ c. rw (a, b, c) (conc_leaves h es place))
      (λ c. by_test (eqb k kind.cert)
      (λ d. rw (a, b, c, d) (step_leaves _ _ place _ (certified_speaks _ h.from _ (vote_known s place es h.count))))
      (λ d. by_test (eqb k kind.vote)
      (λ e. rw (a, b, c, d, e) (step_leaves _ _ place _ (vote_speaks _ h.from h.argument)))
      (λ e. by_test (eqb k kind.commit)
      (λ f. rw (a, b, c, d, e, f) (step_leaves _ _ place _ (quietly_speaks _)))
      (λ f. rw (a, b, c, d, e, f) (step_leaves _ _ place _ (quietly_speaks _))))))))

  message_leaves : (room : ℕ) (m : List ℕ) → Leaves s lists (message_of s room lists m)
  unfolding message_of message_at take_kind
  message_leaves room m =
      let h = message_head m in
      let place = place_of s.live h.tx in
      refusal_leaves (arrival_code (handed_ok s lists) room (message_ok s.house m)) s lists _
      (refusal_leaves (next_code h.to s.counters.own h.channel (get_or s.channels.taken (h.from - 1) 0)) s lists _
      (by_test (eqb h.kind kind.join)
      (λ a. rw a (join_leaves h place))
      (λ a. by_test (ltb place sizes.live)
      (λ b. rw (a, b) (held_leaves h.kind h (message_entries m) place))
      (λ b. rw (a, b) (other_leaves h.kind h)))))

-- Install and report.
install_leaves : (s : Site) (room : ℕ) (base : List ℕ) → Leaves s base (install_of s room base)
unfolding install_of installed_at
install_leaves s room base =
    let place = least_queued s.live sizes.live in
    refusal_leaves (install_code (site_ok s) room (length base) (is_installable s.live place) s.counters.installs) s base _
    (accepted_leaves s base _ refl)

report_leaves : (s : Site) (room : ℕ) → Leaves s [] (report_of s room)
unfolding report_of
report_leaves s room = refusal_leaves (report_code (site_ok s) room) s [] _ (accepted_leaves s [] _ refl)

-- The merger, likewise.
abbrev MergerLeaves : Merger → List ℕ → Merging → Type 0
MergerLeaves g queues e = (n : ℕ) → e.answer ≡ Refused n → (e.words ≡ []) × (e.merger ≡ g) × (e.queues ≡ queues)

merger_accepted : (g : Merger) (queues : List ℕ) (e : Merging) → is_refused e.answer ≡ false → MergerLeaves g queues e
merger_accepted g queues e f n q = absurd (set_not _ (ap is_refused q) f)

merger_refusal : (code : ℕ) (g : Merger) (queues : List ℕ) (e : Merging) → MergerLeaves g queues e
    → MergerLeaves g queues (unless_merger code g queues e)
merger_refusal code g queues e x = by_test (eqb code 0) (λ t. rw t x) (λ t. rw t (λ n q. (refl, refl, refl)))

merge_leaves : (g : Merger) (queues m : List ℕ) → MergerLeaves g queues (merge_of g queues m)
unfolding merge_of merge_part merge_state
merge_leaves g queues m =
    let c = source_at g ((record_head m).site - 1) in
    merger_refusal (merge_code g queues m) g queues _
    (by_test (eqb (record_head m).kind kind.part)
    (λ k. rw k (merger_refusal (merge_part_code c (record_head m)) g queues _ (merger_accepted g queues _ refl)))
    (λ k. rw k (merger_refusal (merge_state_code c (record_head m)) g queues _ (merger_accepted g queues _ refl))))

emit_leaves : (g : Merger) (room : ℕ) (queues : List ℕ) → MergerLeaves g queues (emit_of g room queues)
unfolding emit_of emit_due
emit_leaves g room queues =
    merger_refusal (emit_code g queues room) g queues _
    (merger_refusal (due_code g (heads_of queues g.house.sites) (least_site g queues)) g queues _ (merger_accepted g queues _ refl))

-- The world: a table with an entry put where it was is the same table.
same_table : {A : Type 0} (f : ℕ → A) (s : ℕ) (a : A) → a ≡ f s → upd f s a ≡ f
same_table f s a e = rw e (λ i j. upd_self f s j i)

site_same : (w : World) (s : ℕ) (e : Effect) (base : List ℕ) (lists : List ℕ) → e.words ≡ [] → e.site ≡ w.site s → base ≡ w.base s
    → lists ≡ w.lists s
    → (site_step w s e base lists).world ≡ w
unfolding site_step messages_in split_words
site_same w s e base lists a b c d =
    let sent : w.sent ++ messages_in e.words ≡ w.sent = rw (a, append-nil) in
    λ i. record {
      site = same_table w.site s e.site b i;
      base = same_table w.base s base c i;
      lists = same_table w.lists s lists d i;
      merger = w.merger;
      queues = w.queues;
      copy = w.copy;
      sent = sent i;
      log = w.log;
      stream = w.stream;
      merged = w.merged;
      replayed = w.replayed;
    }

log_same : (w : World) (s : ℕ) (e : Effect) (base : List ℕ) → e.words ≡ [] → e.site ≡ w.site s → base ≡ w.base s
    → (log_step w s e base).world ≡ w
unfolding log_step
log_same w s e base a b c =
    let log : w.log s ++ record_in e.words ≡ w.log s = rw (a, append-nil) in
    λ i. record {
      site = same_table w.site s e.site b i;
      base = same_table w.base s base c i;
      lists = w.lists;
      merger = w.merger;
      queues = w.queues;
      copy = w.copy;
      sent = w.sent;
      log = same_table w.log s _ log i;
      stream = w.stream;
      merged = w.merged;
      replayed = w.replayed;
    }

merger_same : (w : World) (e : Merging) (merged : ℕ → ℕ) → e.words ≡ [] → e.merger ≡ w.merger → e.queues ≡ w.queues
    → merged ≡ w.merged
    → (merger_step w e merged).world ≡ w
unfolding merger_step
merger_same w e merged a b c d =
    let stream : w.stream ++ record_in e.words ≡ w.stream = rw (a, append-nil) in
    λ i. record {
      site = w.site;
      base = w.base;
      lists = w.lists;
      merger = b i;
      queues = c i;
      copy = w.copy;
      sent = w.sent;
      log = w.log;
      stream = stream i;
      merged = d i;
      replayed = w.replayed;
    }

-- the words and the world after a call of site s that leaves its tables, or lends one of them
module _ (w : World) (s : ℕ) (e : Effect) (n : ℕ) where
  abbrev Stays : World → Type 0
  Stays x = (e.words ≡ []) × (x ≡ w)

  at_site : Leaves (w.site s) [] e → e.answer ≡ Refused n → Stays (site_step w s e (w.base s) (w.lists s)).world
  at_site x q = let (a, b, c) = x n q in (a, site_same w s e _ _ a b refl refl)

  at_lists : Leaves (w.site s) (w.lists s) e → e.answer ≡ Refused n → Stays (site_step w s e (w.base s) e.lent).world
  at_lists x q = let (a, b, c) = x n q in (a, site_same w s e _ _ a b refl c)

  at_base : Leaves (w.site s) (w.base s) e → e.answer ≡ Refused n → Stays (log_step w s e e.lent).world
  at_base x q = let (a, b, c) = x n q in (a, log_same w s e _ a b c)

  at_log : Leaves (w.site s) [] e → e.answer ≡ Refused n → Stays (log_step w s e (w.base s)).world
  at_log x q = let (a, b, c) = x n q in (a, log_same w s e _ a b refl)

merge_stays : (w : World) (m : List ℕ) (e : Merging) (n : ℕ) → MergerLeaves w.merger w.queues e → e.answer ≡ Refused n
    → ((merge_step w m e).words ≡ []) × ((merge_step w m e).world ≡ w)
unfolding merge_step merger_step step_taken
merge_stays w m e n x q =
    let (a, b, c) = x n q in
    let k = (record_head m).site in
    let d : step_taken e.answer (w.log k) (w.merged k) m ≡ w.merged k = rw q in
    (a, merger_same w e _ a b c (same_table w.merged k _ d))

replay_stays : (w : World) (c : ℕ) (m : List ℕ) (n : ℕ) → (replay_of (w.copy c) m).answer ≡ Refused n
    → (replay_step w c m (replay_of (w.copy c) m)).world ≡ w
unfolding replay_step copy_step replay_of step_taken
replay_stays w c m n =
    by_test (eqb (replay_code (w.copy c) m) 0)
    (λ t. rw t (λ q. absurd (set_not _ (ap is_refused q) refl)))
    (λ t. rw t (λ q i. record {
      site = w.site;
      base = w.base;
      lists = w.lists;
      merger = w.merger;
      queues = w.queues;
      copy = same_table w.copy c (w.copy c) refl i;
      sent = w.sent;
      log = w.log;
      stream = w.stream;
      merged = w.merged;
      replayed = same_table w.replayed c (w.replayed c) refl i;
    }))

pub refused_leaves : RefusedLeaves
unfolding RefusedLeaves step site_step log_step merger_step merge_step replay_step copy_step
refused_leaves w (world.begin s d) n q = at_site w s _ n (begin_writes (w.site s) d).leaves q
refused_leaves w (world.enlist s out t r) n q = at_site w s _ n (enlist_writes (w.site s) (length out) t r).leaves q
refused_leaves w (world.read s t k) n q = at_site w s _ n (read_writes (w.site s) (w.base s) t k).leaves q
refused_leaves w (world.write s t k v) n q = at_site w s _ n (write_writes (w.site s) t k v).leaves q
refused_leaves w (world.search s p k) n q = (refl, refl)
refused_leaves w (world.commit s out t) n q = at_lists w s _ n (commit_writes (w.site s) (length out) (w.lists s) t).leaves q
refused_leaves w (world.abandon s out t) n q = at_site w s _ n (abandon_writes (w.site s) (length out) t).leaves q
refused_leaves w (world.message s out m) n q = at_lists w s _ n (message_leaves (w.site s) (w.lists s) (length out) m) q
refused_leaves w (world.install s out) n q = at_base w s _ n (install_leaves (w.site s) (length out) (w.base s)) q
refused_leaves w (world.report s out) n q = at_log w s _ n (report_leaves (w.site s) (length out)) q
refused_leaves w (world.merge m) n q = merge_stays w m _ n (merge_leaves w.merger w.queues m) q
refused_leaves w (world.emit out) n q =
    let (a, b, c) = emit_leaves w.merger (length out) w.queues n q in
    (a, merger_same w (emit_of w.merger (length out) w.queues) w.merged a b c refl)
refused_leaves w (world.replay c m) n q = (refl, replay_stays w c m n q)
refused_leaves w (world.value c k) n q = (refl, refl)
