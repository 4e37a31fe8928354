-- The causes of refusal (N3) and their numbers, and the number in what a check answers: 0 where nothing is refused.
use Rattle.std.specs.Prelude.{ℕ, Result, Ok, Err}
use Rattle.kinds.specs.Reason as reason
use Rattle.kinds.specs.declared.refusal.Refusal.{Refusal}
use Rattle.kinds.specs.declared.refusal.Refusal.TheVariants.{Short, Malformed, BadTable, Elsewhere, NotNext, Unknown, NotCoordinator, Stage, Outstanding, Forgotten, Held, Newer, TooMany, TooLong, Full, Spent, Behind, QueueFull, NotWhole, Nothing, NoPage}

abbrev pub number_of : Refusal → ℕ
number_of Short = reason.short
number_of Malformed = reason.malformed
number_of BadTable = reason.bad_table
number_of Elsewhere = reason.elsewhere
number_of NotNext = reason.not_next
number_of Unknown = reason.unknown
number_of NotCoordinator = reason.not_coordinator
number_of Stage = reason.stage
number_of Outstanding = reason.outstanding
number_of Forgotten = reason.forgotten
number_of Held = reason.held
number_of Newer = reason.newer
number_of TooMany = reason.too_many
number_of TooLong = reason.too_long
number_of Full = reason.full
number_of Spent = reason.spent
number_of Behind = reason.behind
number_of QueueFull = reason.queue_full
number_of NotWhole = reason.not_whole
number_of Nothing = reason.nothing
number_of NoPage = reason.no_page

abbrev pub refusal_in : {A : Type 0} → Result A Refusal → ℕ
refusal_in (Ok _) = 0
refusal_in (Err cause) = number_of cause
