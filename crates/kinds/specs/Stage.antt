-- Stages of a subtransaction: the numbers of src/stage.rt.
use Rattle.std.specs.Prelude.{ℕ}

abbrev pub free : ℕ
free = 0

abbrev pub active : ℕ
active = 1

abbrev pub prepared : ℕ
prepared = 2

abbrev pub queued : ℕ
queued = 3

abbrev pub decided : ℕ
decided = 4

abbrev pub rejected : ℕ
rejected = 5
