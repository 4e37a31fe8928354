-- What the calls of a site write, but for messages: none can write a VOTE. And what their refusals leave.
use Prim.Native.Nat.{ℕ}
use mathlib.Core.Path.{◌≡◌, refl, ap}
use mathlib.Core.Bool.{false}
use mathlib.Core.List.{List, []}
use lib.Dec.{eqb}
use lib.ListN.{length}
use Rattle.laws.specs.Choice.{by_test, set_not}
use Rattle.kinds.specs.Sizes as sizes
use Rattle.kinds.specs.Reason as reason
use Rattle.kinds.specs.State.{sub_at}
use Rattle.kinds.specs.declared.Value.{Value}
use Rattle.kinds.specs.declared.Site.{Site}
use Rattle.kinds.specs.declared.Answer.TheVariants.{Refused}
use Rattle.rules.proofs.JoinLaws.{join_whole}
use Rattle.rules.specs.House.{coordinator_of, is_site, in_mask}
use Rattle.rules.specs.Desk.{is_desk}
use Rattle.rules.specs.Message.{entry_count}
use Rattle.rules.specs.Send.{counts_low}
use Rattle.rules.specs.Keys.{wrote_key, read_key}
use Rattle.rules.specs.Live.{place_of, free_place, stage_at, all_heard}
use Rattle.rules.specs.History.{is_forgotten}
use Rattle.rules.specs.Join.{joined}
use Rattle.rules.specs.Certify.{concurrent}
use Rattle.rules.specs.Valid.{site_ok, handed_ok}
use Rattle.rules.specs.Answers.{is_refused}
use Rattle.rules.specs.Effect.{Change, Effect, turn_at, changed, unless}
use Rattle.rules.specs.Course.{quietly, channel_spent}
use Rattle.rules.specs.Begin.{begin_code, begun, begin_of}
use Rattle.rules.specs.Access.{access_code, read_code, read_version, read_at, read_of, late_code, written, write_at, write_of}
use Rattle.rules.specs.Enlist.{enlist_code, joiner_code, enlist_at, enlist_of, is_mine}
use Rattle.rules.specs.Commit.{request_code, commit_code, abandon_code, is_full, is_lost, request_change, commit_change, commit_lists}
use Rattle.rules.specs.Commit.{commit_of, abandon_of}
use Rattle.rules.proofs.Refine.RefineStep.{by_code}
use Rattle.rules.proofs.Refine.RefineMail.{Made, none}
use Rattle.rules.proofs.Messages.Spoken.{Known, Speaks, enlist_speaks, abort_speaks, prepare_speaks, cast_speaks}

-- Where e is a refusal, it has the site and the lent table as they were, and wrote nothing.
abbrev pub Leaves : Site → List ℕ → Effect → Type 0
Leaves s lent e = (n : ℕ) → e.answer ≡ Refused n → (e.words ≡ []) × (e.site ≡ s) × (e.lent ≡ lent)

pub accepted_leaves : (s : Site) (lent : List ℕ) (e : Effect) → is_refused e.answer ≡ false → Leaves s lent e
accepted_leaves s lent e f n q = absurd (set_not _ (ap is_refused q) f)

pub refusal_leaves : (code : ℕ) (s : Site) (lent : List ℕ) (e : Effect) → Leaves s lent e → Leaves s lent (unless code s lent e)
refusal_leaves code s lent e x = by_code (Leaves s lent) code s lent e (λ z. x) (λ n q. (refl, refl, refl))

-- what a call of site s writes, and what its refusal leaves
pub record Writes (s : Site) (lent : List ℕ) (e : Effect) : Type 0 where
  pub known : Made Known e.words
  pub leaves : Leaves s lent e

nothing : (s : Site) (lent : List ℕ) (e : Effect) → e.words ≡ [] → is_refused e.answer ≡ false → Writes s lent e
nothing s lent e z f = record { known = rw z none; leaves = accepted_leaves s lent e f }

-- a refusal writes nothing
or_refused : (code : ℕ) (s : Site) (lent : List ℕ) (e : Effect) → Writes s lent e → Writes s lent (unless code s lent e)
or_refused code s lent e x =
    record {
      known = by_code (λ e. Made Known e.words) code s lent e (λ z. x.known) none;
      leaves = refusal_leaves code s lent e x.leaves;
    }

change_writes : (s : Site) (place : ℕ) (c : Change) (given lent : List ℕ) → Speaks c → Writes s lent (changed s place c given)
change_writes s place c given lent x = record { known = x.known; leaves = accepted_leaves s lent (changed s place c given) x.accepts }

pub begin_writes : (s : Site) (d : ℕ) → Writes s [] (begin_of s d)
unfolding begin_of begun
begin_writes s d = or_refused (begin_code (site_ok s) (is_desk d) s.counters (free_place s.live)) s [] _ (nothing s [] _ refl refl)

read_at_lem : (s : Site) (base : List ℕ) (place key : ℕ) → Writes s [] (read_at s base place key)
unfolding read_at read_version
read_at_lem s base place key =
    let b = sub_at s place in
    by_test (wrote_key b.keys key)
    (λ e. rw e (nothing s [] _ refl refl))
    (λ e. rw e (or_refused (read_code (is_forgotten s.counters.installs b.snapshot) (read_key b.keys key) b.keys.read) s [] _
    (nothing s [] _ refl refl)))

pub read_writes : (s : Site) (base : List ℕ) (tx key : ℕ) → Writes s [] (read_of s base tx key)
unfolding read_of
read_writes s base tx key =
    let place = place_of s.live tx in
    or_refused (access_code (site_ok s) (length base) s.house s.counters.own key place (stage_at s.live place)) s [] _
    (read_at_lem s base place key)

write_at_lem : (s : Site) (place key : ℕ) (v : Value) → Writes s [] (write_at s place key v)
unfolding write_at written quietly
write_at_lem s place key v = or_refused (late_code s place key v) s [] _ (nothing s [] _ refl refl)

pub write_writes : (s : Site) (tx key : ℕ) (v : Value) → Writes s [] (write_of s tx key v)
unfolding write_of
write_writes s tx key v =
    let place = place_of s.live tx in
    or_refused (access_code (site_ok s) sizes.base s.house s.counters.own key place (stage_at s.live place)) s [] _
    (write_at_lem s place key v)

pub enlist_writes : (s : Site) (room tx site : ℕ) → Writes s [] (enlist_of s room tx site)
unfolding enlist_of enlist_at
enlist_writes s room tx site =
    let place = place_of s.live tx in
    let c = (sub_at s place).course in
    or_refused (enlist_code (site_ok s) room (is_site s.house site) place (eqb (coordinator_of tx) s.counters.own)) s [] _
    (or_refused (joiner_code c.stage (eqb site s.counters.own) (in_mask c.mask site) (channel_spent s.channels site)) s [] _
    (change_writes s place _ [] [] (enlist_speaks (turn_at s place) site)))

pub abandon_writes : (s : Site) (room tx : ℕ) → Writes s [] (abandon_of s room tx)
unfolding abandon_of
abandon_writes s room tx =
    let place = place_of s.live tx in
    let c = (sub_at s place).course in
    or_refused (request_code (site_ok s) room place (is_mine s tx)) s [] _
    (or_refused (abandon_code c.stage (counts_low s.channels.sent c.mask s.counters.own)) s [] _
    (change_writes s place _ [] [] (abort_speaks (turn_at s place) reason.abandoned)))

-- a commit request: PREPARE, or what a lone participant's vote brings, or ABORT
request_speaks : (s : Site) (place : ℕ) (own : List ℕ) → Speaks (request_change s place own)
unfolding request_change
request_speaks s place own =
    by_test (all_heard s.counters.own 0 (sub_at s place).course.mask)
    (λ e. rw e (cast_speaks _ _ (joined own (entry_count own)) (join_whole own (entry_count own))))
    (λ e. rw e (prepare_speaks _))

pub commit_speaks : (s : Site) (place : ℕ) → Speaks (commit_change s place)
unfolding commit_change
commit_speaks s place =
    by_test (is_full s place)
    (λ e. rw e (abort_speaks (turn_at s place) reason.full))
    (λ e. by_test (is_lost s place)
    (λ f. rw (e, f) (abort_speaks (turn_at s place) reason.uncertain))
    (λ f. rw (e, f) (request_speaks s place (concurrent s place))))

pub commit_writes : (s : Site) (room : ℕ) (lists : List ℕ) (tx : ℕ) → Writes s lists (commit_of s room lists tx)
unfolding commit_of
commit_writes s room lists tx =
    let place = place_of s.live tx in
    let c = (sub_at s place).course in
    or_refused (request_code (handed_ok s lists) room place (is_mine s tx)) s lists _
    (or_refused (commit_code c.stage (all_heard s.counters.own c.heard c.mask)
    (counts_low s.channels.sent c.mask s.counters.own)) s lists _
    (change_writes s place _ (commit_lists s lists place) lists (commit_speaks s place)))
