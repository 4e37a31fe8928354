-- What each move tells the book.
use Prim.Native.Nat.{◌+◌}
use mathlib.Core.List.{List, [], ◌∷◌, ◌++◌}
use Rattle.kinds.specs.declared.House.{House}
use Rattle.rules.specs.House.{coordinator_of}
use Rattle.rules.specs.Book as book
use Rattle.rules.specs.Book.{Fact}
use Rattle.rules.proofs.Protocol.ProtocolTables.{Protocol}
use Rattle.rules.proofs.Protocol.Protocol.{Move, Moves, course_at, begin, enlist, access, request, abort, cast, decide, install}
use Rattle.rules.proofs.Protocol.Protocol.{report, joins, full, joined, prepared, lost, unknown, gathers, certified, rejects, votes}
use Rattle.rules.proofs.Protocol.Protocol.{commits}
use Rattle.rules.proofs.Protocol.Protocol.{aborts, passes, stop, more}
use Rattle.rules.proofs.Stream.Stream as stream
use Rattle.rules.proofs.Stream.Stream.{Stream, Step, Steps}

abbrev pub told : {house : House} {p q : Protocol} → Move house p q → List Fact
told (begin s t d a b c e) = book.began s t ∷ []
told (enlist s t r a b c d e f) = []
told (access s t b fs a w c d m) = fs
told (request s t es a b c d e) = []
told (abort s t a b c) = []
told (cast s t es a b c d e) = []
told {p = p} (decide s t a b c) = book.committed t (p.clock s + 1) (coordinator_of t) ∷ []
told {p = p} (install s t a b) = book.installed s (course_at p s t).number (coordinator_of t) ∷ []
told (report s n a) = []
told (joins a s t d n f) = book.began s t ∷ []
told (full a s t d r n f) = []
told (joined a s t r n f g) = []
told (prepared a s t n m es f g h) = []
told (lost a s t n m r f g h) = []
told (unknown a s t n m r f g h) = []
told (gathers a s t es n f g) = []
told (certified a s t es n f g) = []
told (rejects a s t r es n f g) = []
told (votes a s t n f g h) = []
told (commits a s t n f g) = []
told (aborts a s t n f) = []
told (passes a s n m f) = []

abbrev pub told_all : {house : House} {p q : Protocol} → Moves house p q → List Fact
told_all stop = []
told_all (more ms m) = told_all ms ++ told m

-- the merger and the copies tell nothing of the sites
abbrev pub told_step : {house : House} {v w : Stream} → Step house v w → List Fact
told_step (stream.moves q m) = told m
told_step (stream.merges n m) = []
told_step (stream.replays c h) = []

abbrev pub told_steps : {house : House} {v w : Stream} → Steps house v w → List Fact
told_steps stream.stop = []
told_steps (stream.more ss s) = told_steps ss ++ told_step s
