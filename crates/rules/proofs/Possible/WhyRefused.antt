-- Why a call is refused 2: some cause of that number holds, and of a possible state none does.
use Prim.Native.Nat.{ℕ, ◌-◌, ◌≤◌}
use mathlib.Core.Path.{◌≡◌, refl, sym, ap, ◌∙◌}
use mathlib.Core.Bool.{Bool, true, false, not}
use mathlib.Core.List.{List, [], ◌∷◌}
use native.Mathlib.Omega.{arith}
use borrow.Author.Tests.{eqb-true, eqb-false, eq-eqb, leb-true}
use lib.Dec.{eqb}
use lib.ListN.{length}
use Rattle.laws.specs.Choice.{pick, pick_self, some, by_test, set_not}
use Rattle.laws.specs.Cause.{Cause, code_of, holds_at, code_holds}
use Rattle.kinds.specs.Sizes as sizes
use Rattle.kinds.specs.Reason as reason
use Rattle.kinds.specs.Kind as kind
use Rattle.kinds.specs.State.{sub_at}
use Rattle.kinds.specs.declared.Value.{Value}
use Rattle.kinds.specs.declared.Site.{Site}
use Rattle.kinds.specs.declared.Snapshot.{Snapshot}
use Rattle.kinds.specs.declared.Merger.{Merger}
use Rattle.kinds.specs.declared.Answer.{Answer}
use Rattle.kinds.specs.declared.Answer.TheVariants.{Refused}
use Rattle.rules.specs.House.{is_site, is_key, in_mask}
use Rattle.rules.specs.Desk.{is_desk, write_limit}
use Rattle.rules.specs.Record.{record_head, part_ok, state_ok, merged_ok}
use Rattle.rules.specs.Send.{counts_low}
use Rattle.rules.specs.Keys.{wrote_key, read_key}
use Rattle.rules.specs.Live.{place_of, free_place, stage_at, key_held, all_heard}
use Rattle.rules.specs.History.{is_forgotten, is_newer}
use Rattle.rules.specs.Queue.{least_queued, is_installable}
use Rattle.rules.specs.Valid.{site_ok, handed_ok}
use Rattle.rules.specs.Answers.{is_refused}
use Rattle.rules.specs.Effect.{Effect, turn_at, unless}
use Rattle.rules.specs.Course.{quietly, channel_spent}
use Rattle.rules.specs.Begin.{begin_causes, begin_code, begun, begin_of}
use Rattle.rules.specs.Access.{key_causes, key_code, access_causes, access_code, read_causes, read_code, read_version, read_at, read_of}
use Rattle.rules.specs.Access.{long_causes, long_code, write_causes, write_code, write_code_at, late_code}
use Rattle.rules.specs.Access.{written, write_at, write_of, search_of}
use Rattle.rules.specs.Enlist.{is_mine, enlist_causes, enlist_code, joiner_causes, joiner_code, enlist_at, enlist_of}
use Rattle.rules.specs.Commit.{request_causes, request_code, commit_causes, commit_code, abandon_causes, abandon_code, commit_of, abandon_of}
use Rattle.rules.specs.Install.{install_causes, install_code, installed_at, install_of, report_causes, report_code, report_of}
use Rattle.rules.specs.Merger.{Merging, unless_merger, merger_ok, source_at, merge_part_causes, merge_part_code, merge_part, merge_state_causes}
use Rattle.rules.specs.Merger.{merge_state_code, merge_state, merge_causes, merge_code, merge_of, heads_of, least_site, due_causes, due_code}
use Rattle.rules.specs.Merger.{emit_due, emit_causes, emit_code, emit_of}
use Rattle.rules.specs.Copy.{replay_causes, replay_code, replay_of, value_causes, value_code, value_of}
use Rattle.rules.proofs.Messages.Spoken.{enlist_speaks, abort_speaks}
use Rattle.rules.proofs.Messages.KnownWords.{commit_speaks}

-- P holds of every number that the answer is a refusal with
abbrev pub Refuses : (ℕ → Type 0) → Answer → Type 0
Refuses P a = (n : ℕ) → a ≡ Refused n → P n

pub accepted_refuses : (P : ℕ → Type 0) (a : Answer) → is_refused a ≡ false → Refuses P a
accepted_refuses P a f n q = absurd (set_not _ (ap is_refused q) f)

refused_refuses : (P : ℕ → Type 0) (n : ℕ) → P n → Refuses P (Refused n)
refused_refuses P n h m q = let e : n ≡ m = cc in rw e at h

pub unless_refuses : (P : ℕ → Type 0) (code : ℕ) (s : Site) (lent : List ℕ) (e : Effect) → ((code ≡ 0 → ⊥) → P code)
    → (code ≡ 0 → Refuses P e.answer) → Refuses P (unless code s lent e).answer
unless_refuses P code s lent e f g =
    by_test (eqb code 0) (λ h. rw h (g (eqb-true code 0 h))) (λ h. rw h (refused_refuses P code (f (eqb-false code 0 h))))

-- refused 2 only where X holds
abbrev pub Only : Type 0 → ℕ → Type 0
Only X n = n ≡ reason.malformed → X

never : {X : Type 0} → false ≡ true → X
never e = absurd (set_not false e refl)

pub fails : (b : Bool) → pick (not b) true false ≡ true → b ≡ false
fails true e = absurd (set_not false e refl)
fails false e = refl

-- causes of which none with number 2 holds give another number
pub other_cause : {X : Type 0} (l : List Cause) → holds_at reason.malformed l ≡ false → Only X (code_of l)
other_cause l n e = absurd (set_not _ (code_holds reason.malformed l (λ z. omega arith) e) n)

pub caused : (l : List Cause) → code_of l ≡ reason.malformed → holds_at reason.malformed l ≡ true
caused l e = code_holds reason.malformed l (λ z. omega arith) e

module _ (s : Site) (ok : site_ok s ≡ true) where
  pub begin_why : (d : ℕ) → Refuses (Only (is_desk d ≡ false)) (begin_of s d).answer
  unfolding begin_of begin_code begun
  begin_why d =
      let place = free_place s.live in
      let X = is_desk d ≡ false in
      unless_refuses (Only X) (begin_code (site_ok s) (is_desk d) s.counters place) s [] _
      (λ z e. fails _ (rw ok at (caused (begin_causes (site_ok s) (is_desk d) s.counters place) e))) (λ z. accepted_refuses (Only X) _ refl)

  pub enlist_why : (room t a : ℕ) → Refuses (Only (is_site s.house a ≡ false)) (enlist_of s room t a).answer
  unfolding enlist_of enlist_at enlist_code joiner_code
  enlist_why room t a =
      let place = place_of s.live t in
      let c = (sub_at s place).course in
      let own = eqb a s.counters.own in
      let spent = channel_spent s.channels a in
      let X = is_site s.house a ≡ false in
      unless_refuses (Only X) (enlist_code (site_ok s) room (is_site s.house a) place (is_mine s t)) s [] _
      (λ z e. fails _ (rw ok at (caused (enlist_causes (site_ok s) room (is_site s.house a) place (is_mine s t)) e)))
      (λ z. unless_refuses (Only X) (joiner_code c.stage own (in_mask c.mask a) spent) s [] _
      (λ y. other_cause (joiner_causes c.stage own (in_mask c.mask a) spent) refl)
      (λ y. accepted_refuses (Only X) _ (enlist_speaks (turn_at s place) a).accepts))

  -- read and write: the key
  access_why : (room k place st : ℕ) → room ≡ sizes.base
      → Only (is_key k ≡ false) (access_code (site_ok s) room s.house s.counters.own k place st)
  unfolding access_code
  access_why room k place st e q =
      fails _ (rw (ok, eq-eqb room sizes.base e) at (caused (access_causes (site_ok s) room s.house s.counters.own k place st) q))

  pub read_why : (base : List ℕ) (t k : ℕ) → length base ≡ sizes.base
      → Refuses (Only (is_key k ≡ false)) (read_of s base t k).answer
  unfolding read_of read_at read_code read_version
  read_why base t k size =
      let place = place_of s.live t in
      let b = sub_at s place in
      let lost = is_forgotten s.counters.installs b.snapshot in
      let X = is_key k ≡ false in
      unless_refuses (Only X) (access_code (site_ok s) (length base) s.house s.counters.own k place (stage_at s.live place)) s [] _
      (λ z. access_why (length base) k place (stage_at s.live place) size)
      (λ z. by_test (wrote_key b.keys k)
      (λ e. rw e (accepted_refuses (Only X) _ refl))
      (λ e. rw e
      (unless_refuses (Only X) (read_code lost (read_key b.keys k) b.keys.read) s [] _
      (λ y. other_cause (read_causes lost (read_key b.keys k) b.keys.read) refl) (λ y. accepted_refuses (Only X) _ refl))))

  pub search_why : (base : List ℕ) (p : Snapshot) (k : ℕ) → length base ≡ sizes.base
      → Refuses (Only (is_key k ≡ false)) (search_of s base p k)
  unfolding search_of key_code
  search_why base p k size =
      let P = Only (is_key k ≡ false) in
      let causes = key_causes (site_ok s) (length base) s.house s.counters.own k in
      by_test (eqb (code_of causes) 0)
      (λ h. rw h (accepted_refuses P _ refl))
      (λ h. rw h
      (refused_refuses P (code_of causes) (λ e. fails _ (rw (ok, eq-eqb (length base) sizes.base size) at (caused causes e)))))

  pub write_why : (t k : ℕ) (v : Value) → Refuses (Only (is_key k ≡ false)) (write_of s t k v).answer
  unfolding write_of write_at late_code long_code write_code_at write_code written quietly
  write_why t k v =
      let place = place_of s.live t in
      let b = sub_at s place in
      let n = s.counters.installs in
      let lost = is_forgotten n b.snapshot in
      let X = is_key k ≡ false in
      unless_refuses (Only X) (access_code (site_ok s) sizes.base s.house s.counters.own k place (stage_at s.live place)) s [] _
      (λ z. access_why sizes.base k place (stage_at s.live place) refl)
      (λ z. unless_refuses (Only X) (late_code s place k v) s [] _
      (λ y. by_test (wrote_key b.keys k)
      (λ e. rw e (other_cause (long_causes v) refl))
      (λ e. rw e
      (other_cause (write_causes lost (key_held s.live place k) (is_newer s.history n b.snapshot k) (write_limit b.desk)
      b.keys.wrote v) refl)))
      (λ y. accepted_refuses (Only X) _ refl))

  request_why : (given : Bool) (room place : ℕ) (mine : Bool) → given ≡ true → Only ⊥ (request_code given room place mine)
  unfolding request_code
  request_why given room place mine e q = never (rw e at (caused (request_causes given room place mine) q))

  pub commit_why : (room : ℕ) (lists : List ℕ) (t : ℕ) → handed_ok s lists ≡ true → Refuses (Only ⊥) (commit_of s room lists t).answer
  unfolding commit_of commit_code
  commit_why room lists t given =
      let place = place_of s.live t in
      let c = (sub_at s place).course in
      let own = s.counters.own in
      let heard = all_heard own c.heard c.mask in
      let low = counts_low s.channels.sent c.mask own in
      unless_refuses (Only ⊥) (request_code (handed_ok s lists) room place (is_mine s t)) s lists _
      (λ z. request_why _ room place (is_mine s t) given)
      (λ z. unless_refuses (Only ⊥) (commit_code c.stage heard low) s lists _ (λ y. other_cause (commit_causes c.stage heard low) refl)
      (λ y. accepted_refuses (Only ⊥) _ (commit_speaks s place).accepts))

  pub abandon_why : (room t : ℕ) → Refuses (Only ⊥) (abandon_of s room t).answer
  unfolding abandon_of abandon_code
  abandon_why room t =
      let place = place_of s.live t in
      let c = (sub_at s place).course in
      let low = counts_low s.channels.sent c.mask s.counters.own in
      unless_refuses (Only ⊥) (request_code (site_ok s) room place (is_mine s t)) s [] _ (λ z. request_why _ room place (is_mine s t) ok)
      (λ z. unless_refuses (Only ⊥) (abandon_code c.stage low) s [] _ (λ y. other_cause (abandon_causes c.stage low) refl)
      (λ y. accepted_refuses (Only ⊥) _ (abort_speaks (turn_at s place) reason.abandoned).accepts))

  pub install_why : (room : ℕ) (base : List ℕ) → length base ≡ sizes.base → Refuses (Only ⊥) (install_of s room base).answer
  unfolding install_of install_code installed_at
  install_why room base size =
      let place = least_queued s.live sizes.live in
      let due = is_installable s.live place in
      let n = s.counters.installs in
      unless_refuses (Only ⊥) (install_code (site_ok s) room (length base) due n) s base _
      (λ z e. never (rw (ok, eq-eqb (length base) sizes.base size) at (caused (install_causes (site_ok s) room (length base) due n) e)))
      (λ z. accepted_refuses (Only ⊥) _ refl)

  pub report_why : (room : ℕ) → Refuses (Only ⊥) (report_of s room).answer
  unfolding report_of report_code
  report_why room =
      unless_refuses (Only ⊥) (report_code (site_ok s) room) s [] _ (λ z e. never (rw ok at (caused (report_causes (site_ok s) room) e)))
      (λ z. accepted_refuses (Only ⊥) _ refl)

-- The merger, likewise.
merger_refuses : (P : ℕ → Type 0) (code : ℕ) (g : Merger) (queues : List ℕ) (e : Merging) → P code → Refuses P e.answer
    → Refuses P (unless_merger code g queues e).answer
merger_refuses P code g queues e f x = by_test (eqb code 0) (λ h. rw h x) (λ h. rw h (refused_refuses P code f))

neither : (a b : Bool) → pick (not (some (a ∷ b ∷ []))) true false ≡ true → (a ≡ false) × (b ≡ false)
neither true b e = absurd (set_not false e refl)
neither false true e = absurd (set_not false e refl)
neither false false e = (refl, refl)

module _ (g : Merger) (queues : List ℕ) (ok : merger_ok g queues ≡ true) where
  pub merge_why : (m : List ℕ)
      → Refuses (Only ((part_ok g.house m ≡ false) × (state_ok g.house m ≡ false))) (merge_of g queues m).answer
  unfolding merge_of merge_code merge_part merge_part_code merge_state merge_state_code
  merge_why m =
      let P = Only ((part_ok g.house m ≡ false) × (state_ok g.house m ≡ false)) in
      let r = record_head m in
      let c = source_at g (r.site - 1) in
      merger_refuses P (merge_code g queues m) g queues _ (λ e. neither _ _ (rw ok at (caused (merge_causes g queues m) e)))
      (by_test (eqb r.kind kind.part)
      (λ k. rw k (merger_refuses P (merge_part_code c r) g queues _ (other_cause (merge_part_causes c r) refl) (accepted_refuses P _ refl)))
      (λ k. rw k (merger_refuses P (merge_state_code c r) g queues _ (other_cause (merge_state_causes c r) refl) (accepted_refuses P _ refl))))

  pub emit_why : (room : ℕ) → Refuses (Only ⊥) (emit_of g room queues).answer
  unfolding emit_of emit_code emit_due due_code
  emit_why room =
      let heads = heads_of queues g.house.sites in
      let least = least_site g queues in
      merger_refuses (Only ⊥) (emit_code g queues room) g queues _ (λ e. never (rw ok at (caused (emit_causes g queues room) e)))
      (merger_refuses (Only ⊥) (due_code g heads least) g queues _ (other_cause (due_causes g heads least) refl)
      (accepted_refuses (Only ⊥) _ refl))

-- The copies.
module _ (copy : List ℕ) (size : length copy ≡ sizes.copy) where
  pub replay_why : (m : List ℕ) → Refuses (Only (merged_ok m ≡ false)) (replay_of copy m).answer
  unfolding replay_of replay_code
  replay_why m =
      let P = Only (merged_ok m ≡ false) in
      by_test (eqb (replay_code copy m) 0)
      (λ h. rw h (accepted_refuses P _ refl))
      (λ h. rw h
      (refused_refuses P (replay_code copy m)
      (λ e. fails _ (rw (eq-eqb (length copy) sizes.copy size) at (caused (replay_causes copy m) e)))))

  pub value_why : (k : ℕ) → Refuses (Only (sizes.keys ≤ k)) (value_of copy k)
  unfolding value_of value_code
  value_why k =
      let P = Only (sizes.keys ≤ k) in
      by_test (eqb (value_code copy k) 0)
      (λ h. rw h (accepted_refuses P _ refl))
      (λ h. rw h
      (refused_refuses P (value_code copy k)
      (λ e. leb-true sizes.keys k (sym (pick_self _) ∙ rw (eq-eqb (length copy) sizes.copy size) at (caused (value_causes copy k) e)))))
