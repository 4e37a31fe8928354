-- Alone it votes at once; else PREPARE goes out.
use Prim.Native.Nat.{ℕ}
use mathlib.Core.Path.{◌≡◌, sym, ap, ◌∙◌}
use mathlib.Core.Bool.{Bool, true, false}
use mathlib.Core.List.{List}
use Rattle.kinds.specs.State.{sub_at}
use Rattle.kinds.specs.declared.Course.{Course}
use Rattle.kinds.specs.declared.Site.{Site}
use Rattle.kinds.specs.declared.Turn.{Turn}
use Rattle.rules.specs.Certify.{vote_of}
use Rattle.rules.specs.Commit.{request_change}
use Rattle.rules.specs.CommitLaws.{request_lone, request_prepare}
use Rattle.rules.specs.Course.{CanSendAll, cast_step, prepare_step, with_course_of, with_request}
use Rattle.rules.specs.CourseLaws.{all_course, whole_count}
use Rattle.rules.specs.Effect.{turn_at}
use Rattle.rules.specs.Join.{joined}
use Rattle.rules.specs.Live.{all_heard}
use Rattle.rules.specs.Message.{entry_count}
use Rattle.rules.specs.ValidLaws.{valid_own}
use Rattle.lent.specs.Laws.{lent_lengths}
use Rattle.lent.specs.Lent.{site_of}
use Rattle.saves.proofs.commit.request_step.Goals.{After-with_course-u}
use Rattle.saves.proofs.commit.request_step.Goals as goal

-- the turn of the place, with the course of the request
record Asked (s : Site) (place n : ℕ) (t u : Turn) (d : Course) : Type 0 where
  turned : t ≡ turn_at s place
  course : d ≡ with_request t.sub.course n
  asked : u ≡ with_course_of t d

sendable : (s : Site) (place n room : ℕ) (t u : Turn) (d : Course) → Asked s place n t u d → CanSendAll (turn_at s place) room
    → CanSendAll u room
unfolding with_request
sendable s place n room t u d a p = all_course t u d room a.asked (ap (λ (c : Course). c.mask) a.course) (rw a.turned p)

alone : (s : Site) (place n : ℕ) (t u : Turn) (d : Course) (b : Bool) → Asked s place n t u d → b ≡ all_heard s.counters.own 0 d.mask
    → all_heard s.counters.own 0 (sub_at s place).course.mask ≡ b
unfolding turn_at with_request
alone s place n t u d b a e = sym (rw (a.course, a.turned) at e)

-- what the rule does
votes : (s : Site) (place n : ℕ) (own : List ℕ) (t u : Turn) (d : Course) → Asked s place n t u d → entry_count own ≡ n
    → all_heard s.counters.own 0 (sub_at s place).course.mask ≡ true
    → request_change s place own ≡ cast_step u (vote_of s place (joined own n) (entry_count (joined own n))) (joined own n)
unfolding turn_at
votes s place n own t u d a k h = rw (request_lone s place own n k h, a.asked, a.course, a.turned)

prepares : (s : Site) (place n : ℕ) (own : List ℕ) (t u : Turn) (d : Course) → Asked s place n t u d → entry_count own ≡ n
    → all_heard s.counters.own 0 (sub_at s place).course.mask ≡ false → request_change s place own ≡ prepare_step u
unfolding turn_at
prepares s place n own t u d a k h = rw (request_prepare s place own n k h, a.asked, a.course, a.turned)

asked_by : (c : After-with_course-u)
    → Asked (site_of c.args.p c.args.live.now c.args.history.now) c.args.place c.args.n c.turn_at-t.result c.with_course-u.result
    c.with_request-c.result
asked_by c =
    record {
      turned = c.turn_at-t.ensures c.args.history.now;
      course = c.with_request-c.ensures;
      asked = c.with_course-u.ensures;
    }

pub turn_at-t-requires : goal.turn_at-t-requires
turn_at-t-requires c = ((lent_lengths _ _ _ c.requires.own.possible).live, c.requires.own.low)

pub all_heard-requires : goal.all_heard-requires
all_heard-requires c = let a = c.args in valid_own (site_of a.p a.live.now a.history.now) c.requires.own.possible

pub lone_step-requires : goal.lone_step-requires
lone_step-requires c =
    let asked = asked_by (goal.at.lone_step-requires c).After-with_course-u in
    record { own = c.requires.own; can_send_all = sendable _ _ _ _ _ _ _ asked c.requires.can_send_all }

pub returns-then-all_heard : goal.returns-then-all_heard
returns-then-all_heard c =
    let a = c.args in
    let asked = asked_by (goal.at.returns-then-all_heard c).After-with_course-u in
    let count = whole_count a.own.now a.n c.requires.own.long in
    let lone = alone _ _ _ _ _ _ _ asked c.all_heard.ensures in
    rw (votes _ _ _ a.own.now _ _ _ asked count (lone ∙ c.if-all_heard.true)) c.lone_step.ensures

pub prepare_step-requires : goal.prepare_step-requires
prepare_step-requires c =
    let asked = asked_by (goal.at.prepare_step-requires c).After-with_course-u in
    sendable _ _ _ _ _ _ _ asked c.requires.can_send_all

pub returns : goal.returns
returns c =
    let a = c.args in
    let asked = asked_by (goal.at.returns c).After-with_course-u in
    let count = whole_count a.own.now a.n c.requires.own.long in
    let lone = alone _ _ _ _ _ _ _ asked c.all_heard.ensures in
    rw (prepares _ _ _ a.own.now _ _ _ asked count (lone ∙ c.if-all_heard.false)) c.prepare_step.ensures
