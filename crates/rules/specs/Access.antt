-- C8 to C14, Q5.1, Q5.4, Q5.5, Q10.4, Q10.5 and Q12.5: read, write and search. Nobody waits: the first writer of a key wins.
use Rattle.std.specs.Prelude.{ℕ, List, [], ◌∷◌, ◌++◌, Bool, not, length, leb, eqb}
use Rattle.laws.specs.Choice.{pick, every}
use Rattle.laws.specs.Cause.{Cause, cause, code_of}
use Rattle.kinds.specs.Sizes as sizes
use Rattle.kinds.specs.Stage as stage
use Rattle.kinds.specs.Reason as reason
use Rattle.kinds.specs.declared.House.{House}
use Rattle.kinds.specs.declared.Site.{Site}
use Rattle.kinds.specs.declared.Answer.{Answer}
use Rattle.kinds.specs.declared.Answer.TheVariants.{Refused, Found, Searched}
use Rattle.kinds.specs.declared.Snapshot.{Snapshot}
use Rattle.kinds.specs.State.{sub_at, with_keys}
use Rattle.kinds.specs.declared.Value.{Value}
use Rattle.rules.specs.House.{home_of, is_key}
use Rattle.rules.specs.Desk.{write_limit}
use Rattle.rules.specs.Value.{fits}
use Rattle.rules.specs.Keys.{wrote_key, read_key, wrote_value, with_read, with_write}
use Rattle.rules.specs.Live.{place_of, key_held, stage_at}
use Rattle.rules.specs.History.{is_forgotten, is_newer, search_in}
use Rattle.rules.specs.Valid.{site_ok}
use Rattle.rules.specs.Effect.{Effect, turn_at, changed, unless}
use Rattle.rules.specs.Course.{with_sub_of, quietly}

-- Causes that read, write and search have: the state and the key;
abbrev pub key_causes : Bool → ℕ → House → ℕ → ℕ → List Cause
key_causes ok room o own k =
    cause (not (eqb room sizes.base)) reason.malformed
    ∷ cause (not ok) reason.malformed
    ∷ cause (not (is_key k)) reason.malformed
    ∷ cause (not (eqb (home_of o k) own)) reason.elsewhere
    ∷ []

unfoldable pub key_code : Bool → ℕ → House → ℕ → ℕ → ℕ
key_code ok room o own k = code_of (key_causes ok room o own k)

-- then, of read and write, the part that is found at `place`.
abbrev pub part_causes : ℕ → ℕ → List Cause
part_causes place st = cause (leb sizes.live place) reason.unknown ∷ cause (not (eqb st stage.active)) reason.stage ∷ []

abbrev pub access_causes : Bool → ℕ → House → ℕ → ℕ → ℕ → ℕ → List Cause
access_causes ok room o own k place st = key_causes ok room o own k ++ part_causes place st

unfoldable pub access_code : Bool → ℕ → House → ℕ → ℕ → ℕ → ℕ → ℕ
access_code ok room o own k place st = code_of (access_causes ok room o own k place st)

-- Read: the own write, which enters no set; else the version that the search finds.
abbrev pub read_causes : Bool → Bool → ℕ → List Cause
read_causes lost has read =
    cause lost reason.forgotten
    ∷ cause (every (not has ∷ leb sizes.reads read ∷ [])) reason.too_many
    ∷ []

unfoldable pub read_code : Bool → Bool → ℕ → ℕ
read_code lost has read = code_of (read_causes lost has read)

unfoldable pub read_version : Site → List ℕ → ℕ → ℕ → Effect
read_version s base place k =
    let b = sub_at s place in
    changed s place
    (record {
      answer = Found (search_in s.history s.counters.installs base b.snapshot k).value;
      words = [];
      turn = with_sub_of (turn_at s place) (with_keys b (with_read b.keys k));
    })
    []

unfoldable pub read_at : Site → List ℕ → ℕ → ℕ → Effect
read_at s base place k =
    let b = sub_at s place in
    pick (wrote_key b.keys k)
    (record { answer = Found (wrote_value b.keys k); words = []; site = s; lent = [] })
    (unless (read_code (is_forgotten s.counters.installs b.snapshot) (read_key b.keys k) b.keys.read) s []
    (read_version s base place k))

unfoldable pub read_of : Site → List ℕ → ℕ → ℕ → Effect
read_of s base tx k =
    let place = place_of s.live tx in
    unless (access_code (site_ok s) (length base) s.house s.counters.own k place (stage_at s.live place)) s []
    (read_at s base place k)

-- Search: the version that any snapshot sees, and how many entries were looked at. It leaves all as it was.
unfoldable pub search_of : Site → List ℕ → Snapshot → ℕ → Answer
search_of s base p k =
    let code = key_code (site_ok s) (length base) s.house s.counters.own k in
    let found = search_in s.history s.counters.installs base p k in
    pick (eqb code 0) (Searched found.value found.looked) (Refused code)

-- Write: kept privately; the key is held until install or abort. A value that does not fit is the last cause of any write, and the only
-- one of a key that the part already wrote (N4).
abbrev pub long_causes : Value → List Cause
long_causes v = cause (not (fits v)) reason.too_long ∷ []

unfoldable pub long_code : Value → ℕ
long_code v = code_of (long_causes v)

-- Another key has causes 8 to 11 before it. `most` is how many keys the part's desk lets it write.
abbrev pub write_causes : Bool → Bool → Bool → ℕ → ℕ → Value → List Cause
write_causes lost held newer most wrote v =
    cause lost reason.forgotten
    ∷ cause held reason.held
    ∷ cause newer reason.newer
    ∷ cause (leb most wrote) reason.too_many
    ∷ long_causes v

unfoldable pub write_code : Bool → Bool → Bool → ℕ → ℕ → Value → ℕ
write_code lost held newer most wrote v = code_of (write_causes lost held newer most wrote v)

unfoldable pub write_code_at : Site → ℕ → ℕ → Value → ℕ
write_code_at s place k v =
    let b = sub_at s place in
    write_code (is_forgotten s.counters.installs b.snapshot) (key_held s.live place k)
    (is_newer s.history s.counters.installs b.snapshot k) (write_limit b.desk) b.keys.wrote v

unfoldable pub late_code : Site → ℕ → ℕ → Value → ℕ
late_code s place k v = pick (wrote_key (sub_at s place).keys k) (long_code v) (write_code_at s place k v)

unfoldable pub written : Site → ℕ → ℕ → Value → Effect
written s place k v =
    let b = sub_at s place in
    changed s place (quietly (with_sub_of (turn_at s place) (with_keys b (with_write b.keys k v)))) []

unfoldable pub write_at : Site → ℕ → ℕ → Value → Effect
write_at s place k v = unless (late_code s place k v) s [] (written s place k v)

unfoldable pub write_of : Site → ℕ → ℕ → Value → Effect
write_of s tx k v =
    let place = place_of s.live tx in
    unless (access_code (site_ok s) sizes.base s.house s.counters.own k place (stage_at s.live place)) s [] (write_at s place k v)
