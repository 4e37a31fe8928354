-- The numbers of src/lib.rt: words of a block, of the longest item and of the store, and where its parts begin.
use Rattle.std.specs.Prelude.{ℕ, ◌+◌, ◌*◌}

abbrev pub block : ℕ
block = 256

abbrev pub slots : ℕ
slots = 256

abbrev pub queues : ℕ
queues = 81

abbrev pub item : ℕ
item = 1138

abbrev pub table : ℕ
table = 2

abbrev pub row : ℕ
row = 3

abbrev pub tags : ℕ
tags = table + row * queues

abbrev pub cells : ℕ
cells = tags + slots

abbrev pub store : ℕ
store = cells + slots * block

-- bytes of a block, and of a word
abbrev pub bytes : ℕ
bytes = 8 * block

-- two and four bytes hold numbers below these
abbrev pub two : ℕ
two = 65536

abbrev pub four : ℕ
four = 4294967296
