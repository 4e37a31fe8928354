-- C15 to C50: what a commit request and a message say once they are taken. The call in which a decision falls says it: the
-- commit number, or the reason of the abort. Only a commit request, a CONC and a VOTE can bring one.
use Rattle.std.specs.Prelude.{ℕ, ◌+◌, ◌*◌, List, [], ◌∷◌, Bool, drop, ltb, leb, eqb}
use Rattle.laws.specs.Choice.{pick}
use Rattle.kinds.specs.Sizes as sizes
use Rattle.kinds.specs.Reason as reason
use Rattle.kinds.specs.Kind as kind
use Rattle.kinds.specs.State.{sub_at}
use Rattle.kinds.specs.declared.MessageHead.{MessageHead}
use Rattle.kinds.specs.declared.Site.{Site}
use Rattle.kinds.specs.declared.Turn.{Turn}
use Rattle.rules.specs.Message.{message_head, message_entries, entry_count}
use Rattle.rules.specs.Live.{place_of, all_heard}
use Rattle.rules.specs.Join.{joined}
use Rattle.rules.specs.Certify.{concurrent, vote_of}
use Rattle.rules.specs.Effect.{turn_at}
use Rattle.rules.specs.Course.{with_course_of, raise, with_reply}
use Rattle.rules.specs.Commit.{is_full, is_lost}
use Rattle.rules.specs.Deliver.{arrived, gather_lists}
use Rattle.said.specs.Said.{Said, ok, abort}

-- every other participant has replied; there is no other participant
abbrev pub replied : Turn → Bool
replied t = all_heard t.counters.own t.sub.course.heard t.sub.course.mask

abbrev pub alone : Turn → Bool
alone t = all_heard t.counters.own 0 t.sub.course.mask

-- all have voted yes: the clock plus 1 is the commit number; at the last clock, abort 13
unfoldable pub decided_said : Turn → Said
decided_said t = pick (leb sizes.last t.counters.clock) (abort reason.spent) (ok ((t.counters.clock + 1) ∷ []))

-- the coordinator's vote v on the joined lists: a no aborts, and a yes decides where there is no other participant
unfoldable pub cast_said : Turn → ℕ → Said
cast_said t v = pick (eqb v 0) (pick (alone t) (decided_said t) (ok [])) (abort v)

-- Commit: others are asked, or none is there; with a JOINED of 12 it aborts 12, where an install after the snapshot is forgotten 19.
unfoldable pub request_said : Site → ℕ → Said
request_said s place =
    let es = joined (concurrent s place) (entry_count (concurrent s place)) in
    pick (alone (turn_at s place)) (cast_said (turn_at s place) (vote_of s place es (entry_count es))) (ok [])

unfoldable pub commit_said : Site → ℕ → Said
commit_said s tx =
    let place = place_of s.live tx in
    pick (is_full s place) (abort reason.full) (pick (is_lost s place) (abort reason.uncertain) (request_said s place))

-- A message.

-- the part with a list more, and with a vote more
abbrev pub list_heard : Site → MessageHead → ℕ → Turn
list_heard s h place = with_course_of (arrived s place h.from) (with_reply (sub_at s place).course h.from 0 h.count)

abbrev pub vote_heard : Site → MessageHead → ℕ → Turn
vote_heard s h place = with_course_of (raise (arrived s place h.from) h.clock) (with_reply (sub_at s place).course h.from 0 0)

-- the last CONC brings the vote on the join of the gathered lists
unfoldable pub conc_said : Site → MessageHead → List ℕ → ℕ → Said
conc_said s h lists place =
    let t = list_heard s h place in
    let es = joined (drop (sizes.gathered * place) lists) t.sub.course.listed in
    pick (replied t) (cast_said t (vote_of s place es (entry_count es))) (ok [])

-- the first no aborts with its reason, the last yes decides
unfoldable pub vote_said : Site → MessageHead → ℕ → Said
vote_said s h place =
    let t = vote_heard s h place in
    pick (eqb h.argument 0) (pick (replied t) (decided_said t) (ok [])) (abort h.argument)

-- the decision that a taken message brings, if any: of a transaction not held there is none
abbrev pub if_held : ℕ → Said → Said
if_held place said = pick (ltb place sizes.live) said (ok [])

unfoldable pub taken_said : ℕ → Site → MessageHead → List ℕ → List ℕ → ℕ → Said
taken_said k s h es lists place =
    pick (eqb k kind.conc) (if_held place (conc_said s h (gather_lists s place es lists) place))
    (pick (eqb k kind.vote) (if_held place (vote_said s h place)) (ok []))

unfoldable pub message_said : Site → List ℕ → List ℕ → Said
message_said s lists m = let h = message_head m in taken_said h.kind s h (message_entries m) lists (place_of s.live h.tx)
