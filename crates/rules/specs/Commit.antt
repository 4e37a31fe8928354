-- C15 to C20, C34 and C48, at the coordinator: the commit request and abandon.
use Rattle.std.specs.Prelude.{ℕ, ◌*◌, List, [], ◌∷◌, Bool, not, ltb, leb, eqb}
use Rattle.laws.specs.Choice.{pick}
use Rattle.laws.specs.Cause.{Cause, cause, code_of}
use Rattle.laws.specs.Overlay.{put_at}
use Rattle.kinds.specs.Sizes as sizes
use Rattle.kinds.specs.Stage as stage
use Rattle.kinds.specs.Reason as reason
use Rattle.kinds.specs.declared.Site.{Site}
use Rattle.kinds.specs.State.{sub_at}
use Rattle.rules.specs.Enlist.{is_mine}
use Rattle.rules.specs.Message.{entry_count}
use Rattle.rules.specs.Send.{counts_low}
use Rattle.rules.specs.Live.{place_of, all_heard}
use Rattle.rules.specs.History.{is_forgotten}
use Rattle.rules.specs.Join.{joined}
use Rattle.rules.specs.Certify.{concurrent, vote_of}
use Rattle.rules.specs.Valid.{site_ok, handed_ok}
use Rattle.rules.specs.Effect.{Change, Effect, turn_at, changed, unless}
use Rattle.rules.specs.Course.{with_course_of, with_request, abort_step, cast_step, prepare_step}

-- Commit request and abandon: buffer, state (a commit's with its lent lists), part, and that it is the coordinator's.
abbrev pub request_causes : Bool → ℕ → ℕ → Bool → List Cause
request_causes ok room place mine =
    cause (ltb room sizes.outgoing) reason.short
    ∷ cause (not ok) reason.malformed
    ∷ cause (leb sizes.live place) reason.unknown
    ∷ cause (not mine) reason.not_coordinator
    ∷ []

unfoldable pub request_code : Bool → ℕ → ℕ → Bool → ℕ
request_code ok room place mine = code_of (request_causes ok room place mine)

-- Commit: whatever follows, each other participant is sent one message.
abbrev pub commit_causes : ℕ → Bool → Bool → List Cause
commit_causes st heard low =
    cause (not (eqb st stage.active)) reason.stage
    ∷ cause (not heard) reason.outstanding
    ∷ cause (not low) reason.spent
    ∷ []

unfoldable pub commit_code : ℕ → Bool → Bool → ℕ
commit_code st heard low = code_of (commit_causes st heard low)

-- the coordinator makes its list before it sends PREPARE; a lone participant votes on it at once
unfoldable pub request_change : Site → ℕ → List ℕ → Change
request_change s place own =
    let t = with_course_of (turn_at s place) (with_request (sub_at s place).course (entry_count own)) in
    let es = joined own (entry_count own) in
    pick (all_heard s.counters.own 0 (sub_at s place).course.mask) (cast_step t (vote_of s place es (entry_count es)) es) (prepare_step t)

-- where it makes no list: with a JOINED of 12, or where an install after the snapshot is forgotten
unfoldable pub is_full : Site → ℕ → Bool
is_full s place = not (eqb (sub_at s place).course.reason 0)

abbrev pub is_lost : Site → ℕ → Bool
is_lost s place = is_forgotten s.counters.installs (sub_at s place).snapshot

-- it aborts 12, 19, or makes its list
unfoldable pub commit_change : Site → ℕ → Change
commit_change s place =
    pick (is_full s place) (abort_step (turn_at s place) reason.full)
    (pick (is_lost s place) (abort_step (turn_at s place) reason.uncertain) (request_change s place (concurrent s place)))

unfoldable pub commit_lists : Site → List ℕ → ℕ → List ℕ
commit_lists s lists place =
    pick (is_full s place) lists (pick (is_lost s place) lists (put_at (sizes.gathered * place) lists (concurrent s place)))

unfoldable pub commit_of : Site → ℕ → List ℕ → ℕ → Effect
commit_of s room lists tx =
    let place = place_of s.live tx in
    let c = (sub_at s place).course in
    unless (request_code (handed_ok s lists) room place (is_mine s tx)) s lists
    (unless (commit_code c.stage (all_heard s.counters.own c.heard c.mask)
    (counts_low s.channels.sent c.mask s.counters.own)) s lists
    (changed s place (commit_change s place) (commit_lists s lists place)))

-- Abandon, before the decision.
abbrev pub abandon_causes : ℕ → Bool → List Cause
abandon_causes st low = cause (eqb st stage.decided) reason.stage ∷ cause (not low) reason.spent ∷ []

unfoldable pub abandon_code : ℕ → Bool → ℕ
abandon_code st low = code_of (abandon_causes st low)

unfoldable pub abandon_of : Site → ℕ → ℕ → Effect
abandon_of s room tx =
    let place = place_of s.live tx in
    let c = (sub_at s place).course in
    unless (request_code (site_ok s) room place (is_mine s tx)) s []
    (unless (abandon_code c.stage (counts_low s.channels.sent c.mask s.counters.own)) s []
    (changed s place (abort_step (turn_at s place) reason.abandoned) []))
