-- A state with one of its parts changed, what is empty, and what lies past the end of a table.
use Rattle.std.specs.Prelude.{ℕ, [], replicate, set, get_or}
use Rattle.kinds.specs.declared.Value.{Value}
use Rattle.kinds.specs.declared.Snapshot.{Snapshot}
use Rattle.kinds.specs.declared.Keys.{Keys}
use Rattle.kinds.specs.declared.Course.{Course}
use Rattle.kinds.specs.declared.Sub.{Sub}
use Rattle.kinds.specs.declared.Entry.{Entry}
use Rattle.kinds.specs.declared.Channels.{Channels}
use Rattle.kinds.specs.declared.Counters.{Counters}
use Rattle.kinds.specs.declared.Seat.{Seat}
use Rattle.kinds.specs.declared.Site.{Site}
use Rattle.kinds.specs.Sizes as sizes
use Rattle.kinds.specs.Stage as stage
use Rattle.kinds.specs.Desk as desk

-- S11 and Q12.2: what every key holds at the start
abbrev pub fresh : Value
fresh = record { start = 0; length = 0 }

-- past the end
abbrev pub past_keys : Keys
past_keys = record { read = 0; wrote = 0; reads = []; writes = []; values = [] }

abbrev pub no_course : Course
no_course = record { stage = stage.free; mask = 0; number = 0; heard = 0; reason = 0; listed = 0 }

abbrev pub no_snapshot : Snapshot
no_snapshot = record { installs = 0 }

abbrev pub past_sub : Sub
past_sub = record { tx = 0; desk = desk.house; snapshot = no_snapshot; course = no_course; keys = past_keys }

abbrev pub past_entry : Entry
past_entry = record { tx = 0; mask = 0; number = 0; keys = past_keys }

abbrev pub past_seat : Seat
past_seat = record { tx = 0; stage = stage.free }

-- empty: a free place is all zeros
unfoldable pub no_keys : Keys
no_keys = record {
  read = 0;
  wrote = 0;
  reads = replicate sizes.reads 0;
  writes = replicate sizes.writes 0;
  values = replicate sizes.writes fresh;
}

unfoldable pub no_sub : Sub
no_sub = record { tx = 0; desk = desk.house; snapshot = no_snapshot; course = no_course; keys = no_keys }

unfoldable pub no_entry : Entry
no_entry = record { tx = 0; mask = 0; number = 0; keys = no_keys }

-- the part at a place of the live table, the entry in a slot of the history
abbrev pub sub_at : Site → ℕ → Sub
sub_at s i = get_or s.live i past_sub

abbrev pub entry_at : Site → ℕ → Entry
entry_at s i = get_or s.history i past_entry

-- one part changed
abbrev pub with_counters : Site → Counters → Site
with_counters s c = record { house = s.house; counters = c; channels = s.channels; live = s.live; history = s.history }

abbrev pub with_channels : Site → Channels → Site
with_channels s c = record { house = s.house; counters = s.counters; channels = c; live = s.live; history = s.history }

abbrev pub with_sub : Site → ℕ → Sub → Site
with_sub s i b = record { house = s.house; counters = s.counters; channels = s.channels; live = set s.live i b; history = s.history }

abbrev pub with_clock : Counters → ℕ → Counters
with_clock c n = record { own = c.own; clock = n; serial = c.serial; installs = c.installs }

abbrev pub with_serial : Counters → ℕ → Counters
with_serial c n = record { own = c.own; clock = c.clock; serial = n; installs = c.installs }

abbrev pub with_installs : Counters → ℕ → Counters
with_installs c n = record { own = c.own; clock = c.clock; serial = c.serial; installs = n }

abbrev pub with_course : Sub → Course → Sub
with_course b c = record { tx = b.tx; desk = b.desk; snapshot = b.snapshot; course = c; keys = b.keys }

abbrev pub with_keys : Sub → Keys → Sub
with_keys b k = record { tx = b.tx; desk = b.desk; snapshot = b.snapshot; course = b.course; keys = k }
