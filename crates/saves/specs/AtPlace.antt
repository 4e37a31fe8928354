-- C15 to C20, C34 and C48: what a commit request and an abandon do once their part is found at a place.
use Rattle.std.specs.Prelude.{ℕ, Bool, List, []}
use Rattle.kinds.specs.Reason as reason
use Rattle.kinds.specs.State.{sub_at}
use Rattle.kinds.specs.declared.Site.{Site}
use Rattle.kinds.specs.declared.Turn.{Turn}
use Rattle.rules.specs.Commit.{abandon_code, commit_change, commit_code, commit_lists, request_code}
use Rattle.rules.specs.Course.{abort_step}
use Rattle.rules.specs.Effect.{Effect, changed, turn_at, unless}
use Rattle.rules.specs.Enlist.{is_mine}
use Rattle.rules.specs.Live.{all_heard, place_of}
use Rattle.rules.specs.Send.{counts_low}

abbrev pub abandon_at : Site → ℕ → Effect
abandon_at s place =
    let c = (sub_at s place).course in
    unless (abandon_code c.stage (counts_low s.channels.sent c.mask s.counters.own)) s []
    (changed s place (abort_step (turn_at s place) reason.abandoned) [])

abbrev pub commit_at : Site → List ℕ → ℕ → Effect
commit_at s lists place =
    let c = (sub_at s place).course in
    let own = s.counters.own in
    unless (commit_code c.stage (all_heard own c.heard c.mask) (counts_low s.channels.sent c.mask own)) s lists
    (changed s place (commit_change s place) (commit_lists s lists place))

-- the first cause against the request for a transaction's end, and against the part's commit and abandon
abbrev pub request_code_at : Site → Bool → ℕ → ℕ → ℕ
request_code_at s ok room tx = request_code ok room (place_of s.live tx) (is_mine s tx)

abbrev pub commit_code_at : Turn → ℕ
commit_code_at t =
    let c = t.sub.course in
    let own = t.counters.own in
    commit_code c.stage (all_heard own c.heard c.mask) (counts_low t.channels.sent c.mask own)

abbrev pub abandon_code_at : Turn → ℕ
abandon_code_at t =
    let c = t.sub.course in
    abandon_code c.stage (counts_low t.channels.sent c.mask t.counters.own)
