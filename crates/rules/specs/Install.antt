-- C51 to C59: install and report, which write the site's log. And a fresh site.
use Rattle.std.specs.Prelude.{ℕ, ◌+◌, List, [], ◌∷◌, Bool, not, length, set, replicate, ltb, leb, eqb}
use Rattle.laws.specs.Choice.{pick, every}
use Rattle.laws.specs.Cause.{Cause, cause, code_of}
use Rattle.kinds.specs.Sizes as sizes
use Rattle.kinds.specs.Reason as reason
use Rattle.kinds.specs.Kind as kind
use Rattle.kinds.specs.declared.Sub.{Sub}
use Rattle.kinds.specs.declared.Entry.{Entry}
use Rattle.kinds.specs.declared.RecordHead.{RecordHead}
use Rattle.kinds.specs.declared.House.{House}
use Rattle.kinds.specs.declared.Site.{Site}
use Rattle.kinds.specs.declared.Answer.TheVariants.{Done, Installed, Reported}
use Rattle.kinds.specs.State.{no_sub, no_entry, sub_at, entry_at, with_installs}
use Rattle.rules.specs.House.{count_ok, table_ok, house_of, no_house, is_site, coordinator_of}
use Rattle.rules.specs.Record.{record_words}
use Rattle.rules.specs.Keys.{sorted_count, sorted_words}
use Rattle.rules.specs.History.{slot_of, forget_into}
use Rattle.rules.specs.Queue.{least_queued, is_installable, state_number}
use Rattle.rules.specs.Valid.{site_ok}
use Rattle.rules.specs.Effect.{Effect, refused, unless}

-- Install: the queue's least, if decided.
abbrev pub install_causes : Bool → ℕ → ℕ → Bool → ℕ → List Cause
install_causes ok room given due installs =
    cause (ltb room sizes.part) reason.short
    ∷ cause (not (eqb given sizes.base)) reason.malformed
    ∷ cause (not ok) reason.malformed
    ∷ cause (every (due ∷ leb sizes.last installs ∷ [])) reason.spent
    ∷ cause (not due) reason.nothing
    ∷ []

unfoldable pub install_code : Bool → ℕ → ℕ → Bool → ℕ → ℕ
install_code ok room given due installs = code_of (install_causes ok room given due installs)

-- what the history keeps of a part
unfoldable pub entry_of : Sub → Entry
entry_of b = record { tx = b.tx; mask = b.course.mask; number = b.course.number; keys = b.keys }

-- the part record
unfoldable pub part_head : ℕ → Sub → RecordHead
part_head own b =
    record {
      kind = kind.part;
      site = own;
      number = b.course.number;
      coordinator = coordinator_of b.tx;
      tx = b.tx;
      mask = b.course.mask;
      count = sorted_count b.keys;
    }

unfoldable pub part_words : ℕ → Sub → List ℕ
part_words own b = record_words (part_head own b) (sorted_words b.keys (sorted_count b.keys))

-- the oldest entry beyond 32 stands where the new one goes, and is forgotten into the base values
unfoldable pub base_after : Site → List ℕ → List ℕ
base_after s base =
    let n = s.counters.installs in
    pick (leb sizes.history n) (forget_into base (entry_at s (slot_of n)).keys) base

unfoldable pub installed_at : Site → List ℕ → ℕ → Effect
installed_at s base place =
    let b = sub_at s place in
    let n = s.counters.installs in
    record {
      answer = Installed b.course.number (coordinator_of b.tx);
      words = part_words s.counters.own b;
      site =
          record {
            house = s.house;
            counters = with_installs s.counters (n + 1);
            channels = s.channels;
            live = set s.live place no_sub;
            history = set s.history (slot_of n) (entry_of b);
          };
      lent = base_after s base;
    }

unfoldable pub install_of : Site → ℕ → List ℕ → Effect
install_of s room base =
    let place = least_queued s.live sizes.live in
    unless (install_code (site_ok s) room (length base) (is_installable s.live place) s.counters.installs) s base
    (installed_at s base place)

-- Report: the state number as a state record.
abbrev pub report_causes : Bool → ℕ → List Cause
report_causes ok room = cause (ltb room sizes.part) reason.short ∷ cause (not ok) reason.malformed ∷ []

unfoldable pub report_code : Bool → ℕ → ℕ
report_code ok room = code_of (report_causes ok room)

unfoldable pub state_words : ℕ → ℕ → List ℕ
state_words own n = record_words (record { kind = kind.state; site = own; number = n; coordinator = 0; tx = 0; mask = 0; count = 0 }) []

unfoldable pub report_of : Site → ℕ → Effect
report_of s room =
    let n = state_number s.live s.counters.clock sizes.live in
    unless (report_code (site_ok s) room) s [] (record { answer = Reported n; words = state_words s.counters.own n; site = s; lent = [] })

-- Start: a fresh site; a refused start hands back one that no call accepts.
unfoldable pub fresh_site : House → ℕ → Site
fresh_site o own =
    record {
      house = o;
      counters = record { own = own; clock = 0; serial = 0; installs = 0 };
      channels = record { sent = replicate sizes.sites 0; taken = replicate sizes.sites 0 };
      live = replicate sizes.live no_sub;
      history = replicate sizes.history no_entry;
    }

abbrev pub start_causes : ℕ → List ℕ → ℕ → ℕ → ℕ → List Cause
start_causes sites table own base lists =
    cause (not (count_ok sites)) reason.malformed
    ∷ cause (not (eqb (length table) sites)) reason.malformed
    ∷ cause (not (is_site (house_of sites table) own)) reason.malformed
    ∷ cause (not (eqb base sizes.base)) reason.malformed
    ∷ cause (not (eqb lists sizes.lists)) reason.malformed
    ∷ cause (not (table_ok sites table)) reason.bad_table
    ∷ []

unfoldable pub start_code : ℕ → List ℕ → ℕ → ℕ → ℕ → ℕ
start_code sites table own base lists = code_of (start_causes sites table own base lists)

unfoldable pub start_of : ℕ → List ℕ → ℕ → ℕ → ℕ → Effect
start_of sites table own base lists =
    let code = start_code sites table own base lists in
    pick (eqb code 0)
    (record { answer = Done; words = []; site = fresh_site (house_of sites table) own; lent = [] })
    (refused code (fresh_site no_house 0) [])

-- a lent table after it: 0 everywhere, or as it was
unfoldable pub start_table : ℕ → List ℕ → List ℕ
start_table code d = pick (eqb code 0) (replicate (length d) 0) d
