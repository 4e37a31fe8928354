-- The states that the fixed points speak of.
use Rattle.std.specs.Prelude.{ℕ, List, [], ◌∷◌, replicate, set}
use Rattle.kinds.specs.Sizes as sizes
use Rattle.kinds.specs.Stage as stage
use Rattle.kinds.specs.Desk as desk
use Rattle.kinds.specs.Kind as kind
use Rattle.kinds.specs.declared.House.{House}
use Rattle.kinds.specs.declared.Keys.{Keys}
use Rattle.kinds.specs.declared.Sub.{Sub}
use Rattle.kinds.specs.declared.Entry.{Entry}
use Rattle.kinds.specs.declared.Site.{Site}
use Rattle.kinds.specs.declared.Merger.{Merger}
use Rattle.kinds.specs.declared.Value.{Value}
use Rattle.kinds.specs.State.{fresh, no_sub, no_keys, no_entry}
use Rattle.rules.specs.House.{house_of, even_table, tx_of}
use Rattle.rules.specs.Record.{record_words}
use Rattle.rules.specs.Merger.{past_source}

-- a house of n sites with the even table
abbrev pub even_house : ℕ → House
even_house n = house_of n (even_table n)

-- a queue entry of coordinator c, open at a mark or decided with a number
unfoldable pub queued : ℕ → ℕ → ℕ → Sub
queued c st number =
    record {
      tx = tx_of c 1;
      desk = desk.house;
      snapshot = record { installs = 0 };
      course = record { stage = st; mask = 3; number = number; heard = 0; reason = 0; listed = 0 };
      keys = no_keys;
    }

-- a live table with two entries
unfoldable pub queue_of : Sub → Sub → List Sub
queue_of a b = set (set (replicate sizes.live no_sub) 0 a) 1 b

-- site 1 of two with such a table, and nothing installed
unfoldable pub queueing : List Sub → Site
queueing live =
    record {
      house = even_house 2;
      counters = record { own = 1; clock = 9; serial = 1; installs = 0 };
      channels = record { sent = replicate sizes.sites 0; taken = replicate sizes.sites 0 };
      live = live;
      history = replicate sizes.history no_entry;
    }

-- the value of a start and a length
abbrev pub value : ℕ → ℕ → Value
value start n = record { start = start; length = n }

-- one key written
unfoldable pub wrote : ℕ → Value → Keys
wrote k v = record {
  read = 0;
  wrote = 1;
  reads = replicate sizes.reads 0;
  writes = set (replicate sizes.writes 0) 0 k;
  values = set (replicate sizes.writes fresh) 0 v;
}

unfoldable pub read : ℕ → Keys
read k = record {
  read = 1;
  wrote = 0;
  reads = set (replicate sizes.reads 0) 0 k;
  writes = replicate sizes.writes 0;
  values = replicate sizes.writes fresh;
}

unfoldable pub installed : ℕ → Keys → Entry
installed n b = record { tx = tx_of 1 n; mask = 1; number = n; keys = b }

-- four installs, of which the second and the fourth wrote key 5, and a part with snapshot 3
unfoldable pub versions : Site
versions =
    record {
      house = even_house 1;
      counters = record { own = 1; clock = 4; serial = 5; installs = 4 };
      channels = record { sent = replicate sizes.sites 0; taken = replicate sizes.sites 0 };
      live =
          set (replicate sizes.live no_sub) 0
          (record {
            tx = tx_of 1 5;
            desk = desk.house;
            snapshot = record { installs = 3 };
            course = record { stage = stage.active; mask = 1; number = 0; heard = 0; reason = 0; listed = 0 };
            keys = no_keys;
          });
      history =
          set
          (set (set (set (replicate sizes.history no_entry) 0 (installed 1 no_keys)) 1 (installed 2 (wrote 5 (value 70 0)))) 2
          (installed 3 no_keys))
          3 (installed 4 (wrote 5 (value 80 0)));
    }

-- a merger of two sites: site 1's head is (5, 1) of mask 1, site 2's queue is empty and its state is n
unfoldable pub merging : ℕ → Merger
merging n =
    record {
      house = even_house 2;
      sources =
          set (set (replicate sizes.sites past_source) 0 (record { state = 0; number = 5; coordinator = 1; queued = 1 })) 1
          (record { state = n; number = 0; coordinator = 0; queued = 0 });
    }

unfoldable pub head_words : List ℕ
head_words = record_words (record { kind = kind.part; site = 1; number = 5; coordinator = 1; tx = tx_of 1 1; mask = 1; count = 0 }) []

-- Q1.11: the merged record of H2's save, start 700 and length 0 under key 5, with that word 0
unfoldable pub first_record : ℕ → List ℕ
first_record n = n ∷ 3 ∷ 0 ∷ 1 ∷ 1 ∷ 4294967297 ∷ 1 ∷ 1 ∷ 9 ∷ 5 ∷ 700 ∷ 0 ∷ []
