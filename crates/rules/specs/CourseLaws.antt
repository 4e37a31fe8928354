-- What a step keeps of what it may send.
use Rattle.std.specs.Prelude.{ℕ, ◌*◌, ◌≡◌, refl, List, [], length}
use Rattle.std.proofs.Common.{arith}
use Rattle.kinds.specs.Sizes as sizes
use Rattle.kinds.specs.declared.Course.{Course}
use Rattle.kinds.specs.declared.Turn.{Turn}
use Rattle.rules.specs.Message.{entry_count}
use Rattle.rules.specs.Course.{Entries, CanSendTo, CanSendAll, with_course_of}

pub no_entries : Entries []
unfolding entry_count
no_entries = (refl, omega arith)

-- another course: the same channels, and the same recipients where the participants are the same
pub to_course : (t u : Turn) (c : Course) (to room : ℕ) → u ≡ with_course_of t c → CanSendTo t to room → CanSendTo u to room
to_course t u c to room e p = rw e (record { long = p.long; first = p.first; last = p.last; low = p.low })

pub all_course : (t u : Turn) (c : Course) (room : ℕ) → u ≡ with_course_of t c → c.mask ≡ t.sub.course.mask → CanSendAll t room
    → CanSendAll u room
all_course t u c room e m p = rw e (record { long = p.long; first = p.first; last = p.last; low = rw m p.low })

-- n whole entries are n entries
pub whole_count : (es : List ℕ) (n : ℕ) → length es ≡ sizes.entry * n → entry_count es ≡ n
unfolding entry_count
whole_count es n e = omega arith
