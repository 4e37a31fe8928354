-- S1 to S18, and what follows from them: the numbers of src/sizes.rt.
use Rattle.std.specs.Prelude.{ℕ, ◌+◌, ◌-◌, ◌*◌}

abbrev pub sites : ℕ
sites = 8

abbrev pub keys : ℕ
keys = 2048

abbrev pub site_keys : ℕ
site_keys = 256

abbrev pub serials : ℕ
serials = 4294967296

abbrev pub last_serial : ℕ
last_serial = serials - 1

abbrev pub last : ℕ
last = 18446744073709551615

abbrev pub live : ℕ
live = 16

abbrev pub reads : ℕ
reads = 16

abbrev pub writes : ℕ
writes = 16

abbrev pub proofing_writes : ℕ
proofing_writes = 4

abbrev pub history : ℕ
history = 32

abbrev pub queue : ℕ
queue = 16

abbrev pub message_header : ℕ
message_header = 10

abbrev pub entry : ℕ
entry = 3

abbrev pub conc_entries : ℕ
conc_entries = live - 1 + history

abbrev pub cert_entries : ℕ
cert_entries = conc_entries * sites

abbrev pub outgoing : ℕ
outgoing = (sites - 1) * (message_header + entry * cert_entries)

abbrev pub gathered : ℕ
gathered = entry * cert_entries

abbrev pub lists : ℕ
lists = live * gathered

abbrev pub record_header : ℕ
record_header = 9

abbrev pub value : ℕ
value = 2

abbrev pub write : ℕ
write = 1 + value

abbrev pub part : ℕ
part = record_header + write * writes

abbrev pub merged_writes : ℕ
merged_writes = writes * sites

abbrev pub merged : ℕ
merged = record_header + write * merged_writes

abbrev pub site_queue : ℕ
site_queue = queue * part

abbrev pub queues : ℕ
queues = sites * site_queue

abbrev pub base : ℕ
base = value * keys

abbrev pub copy_header : ℕ
copy_header = 2

abbrev pub copy : ℕ
copy = copy_header + base

abbrev pub answer : ℕ
answer = value + copy_header

abbrev pub keyset : ℕ
keyset = 2 + reads + writes + value * writes

abbrev pub place : ℕ
place = 7 + keyset

abbrev pub live_words : ℕ
live_words = live * place

abbrev pub slot : ℕ
slot = 3 + keyset

abbrev pub history_words : ℕ
history_words = history * slot
