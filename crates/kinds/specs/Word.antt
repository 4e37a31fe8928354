-- Positions of the words of a message, of an entry, of a record, of a write, of a value, of a copy, of a part's keys, of a place of the
-- live table and of a slot of the history: the numbers of src/word.rt.
use Rattle.std.specs.Prelude.{ℕ, ◌+◌}
use Rattle.kinds.specs.Sizes as sizes

abbrev pub length : ℕ
length = 0

abbrev pub kind : ℕ
kind = 1

abbrev pub from : ℕ
from = 2

abbrev pub to : ℕ
to = 3

abbrev pub channel : ℕ
channel = 4

abbrev pub message_tx : ℕ
message_tx = 5

abbrev pub clock : ℕ
clock = 6

abbrev pub argument : ℕ
argument = 7

abbrev pub entry_count : ℕ
entry_count = 8

abbrev pub entry_offset : ℕ
entry_offset = 9

abbrev pub entry_tx : ℕ
entry_tx = 0

abbrev pub entry_mask : ℕ
entry_mask = 1

abbrev pub entry_mark : ℕ
entry_mark = 2

abbrev pub site : ℕ
site = 2

abbrev pub number : ℕ
number = 3

abbrev pub coordinator : ℕ
coordinator = 4

abbrev pub record_tx : ℕ
record_tx = 5

abbrev pub record_mask : ℕ
record_mask = 6

abbrev pub write_count : ℕ
write_count = 7

abbrev pub write_offset : ℕ
write_offset = 8

abbrev pub write_key : ℕ
write_key = 0

abbrev pub write_value : ℕ
write_value = 1

abbrev pub value_start : ℕ
value_start = 0

abbrev pub value_length : ℕ
value_length = 1

abbrev pub last_number : ℕ
last_number = 0

abbrev pub last_coordinator : ℕ
last_coordinator = 1

abbrev pub keys_read : ℕ
keys_read = 0

abbrev pub keys_wrote : ℕ
keys_wrote = 1

abbrev pub keys_reads : ℕ
keys_reads = 2

abbrev pub keys_writes : ℕ
keys_writes = keys_reads + sizes.reads

abbrev pub keys_values : ℕ
keys_values = keys_writes + sizes.writes

abbrev pub place_snapshot : ℕ
place_snapshot = 0

abbrev pub place_mask : ℕ
place_mask = 1

abbrev pub place_number : ℕ
place_number = 2

abbrev pub place_heard : ℕ
place_heard = 3

abbrev pub place_reason : ℕ
place_reason = 4

abbrev pub place_listed : ℕ
place_listed = 5

abbrev pub place_desk : ℕ
place_desk = 6

abbrev pub place_keys : ℕ
place_keys = 7

abbrev pub slot_tx : ℕ
slot_tx = 0

abbrev pub slot_mask : ℕ
slot_mask = 1

abbrev pub slot_number : ℕ
slot_number = 2

abbrev pub slot_keys : ℕ
slot_keys = 3
