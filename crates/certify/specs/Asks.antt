-- What the functions of this crate ask for and write, where a site's tables lie in words.
use Rattle.std.specs.Prelude.{ℕ, ◌+◌, ◌*◌, ◌≤◌, ◌<◌, ◌≡◌, Bool, true, List, length, get_or}
use Rattle.std.proofs.Common.{sym, ap, ◌∙◌, arith}
use Rattle.laws.specs.Overlay.{overlay}
use Rattle.laws.specs.Scan.{any_below}
use Rattle.kinds.specs.Sizes as sizes
use Rattle.kinds.specs.Word as word
use Rattle.kinds.specs.declared.Core.{Core}
use Rattle.kinds.specs.declared.Entry.{Entry}
use Rattle.kinds.specs.declared.Keys.{Keys}
use Rattle.kinds.specs.declared.Seat.{Seat}
use Rattle.kinds.specs.declared.Site.{Site}
use Rattle.rules.specs.Certify.{prepared_words, conflicts_at, conflicts_with}
use Rattle.rules.specs.History.{recall, remembered, forgotten, within, slot_of}
use Rattle.rules.specs.HistoryLaws.{slot_low}
use Rattle.rules.specs.Live.{part_at, is_held, place_of, is_part_of}
use Rattle.rules.specs.Valid.{site_ok}
use Rattle.rules.specs.ValidLaws.{valid_site}
use Rattle.lent.specs.Layout.{keys_from, sub_from, entry_from, live_of, history_of}
use Rattle.lent.specs.Lent.{site_of}
use Rattle.lent.specs.Laws.{live_at, history_at, lent_lengths}
use Rattle.lent.specs.Read.{slot_keys_lem}
use Rattle.lent.specs.Seats.{seat_at, is_seat_of, seat_part, place_snapshot_lem, place_keys_lem}
use Rattle.certify.specs.Leaves.{FewKeys, any_same, first_any, part_few, conflicts_by_install}

-- the keys from word o on lie in the words, and their counts are within the sizes
pub record KeysIn (w : List ℕ) (o : ℕ) : Type 0 where
  pub lie : o + sizes.keyset ≤ length w
  pub few : FewKeys (keys_from w o)

-- The list: room for an entry, and two key sets to compare, the second by value or in words.
pub record Compared (out : List ℕ) (own other : Keys) : Type 0 where
  pub room : sizes.entry ≤ length out
  pub few_own : FewKeys own
  pub few_other : FewKeys other

pub record ComparedIn (out : List ℕ) (own : Keys) (w : List ℕ) (o : ℕ) : Type 0 where
  pub room : sizes.entry ≤ length out
  pub few_own : FewKeys own
  pub other : KeysIn w o

-- room for an entry of every place
pub record Preparing (out w : List ℕ) (place : ℕ) : Type 0 where
  pub low : place < sizes.live
  pub room : sizes.entry * sizes.live ≤ length out
  pub parts : (i : ℕ) → i < sizes.live → KeysIn w (sizes.place * i + word.place_keys)

-- room for an entry of every slot
pub record Installing (out h : List ℕ) (installs : ℕ) (own : Keys) (seen : ℕ) : Type 0 where
  pub early : seen ≤ remembered installs
  pub room : sizes.entry * sizes.history ≤ length out
  pub few_own : FewKeys own
  pub slots : (i : ℕ) → i < sizes.history → KeysIn h (sizes.slot * i + word.slot_keys)

-- room for the list of the part at `place`
pub record Listing (s : Site) (place : ℕ) (out : List ℕ) : Type 0 where
  pub valid : site_ok s ≡ true
  pub low : place < sizes.live
  pub room : sizes.entry * sizes.conc_entries ≤ length out

-- n entries, whose words are ws, written over the first words of `before`
pub record Entered (before ws : List ℕ) (n : ℕ) (after : List ℕ) : Type 0 where
  pub long : length ws ≡ sizes.entry * n
  pub are : after ≡ overlay before ws

-- The vote: n entries of a list, and the keys that they are compared with.
pub record Entries (es : List ℕ) (n : ℕ) : Type 0 where
  pub few : n ≤ sizes.cert_entries
  pub lie : sizes.entry * n ≤ length es

pub record Against (es : List ℕ) (n : ℕ) (w : List ℕ) (own : ℕ) (h : List ℕ) : Type 0 where
  pub entries : Entries es n
  pub part : KeysIn w own
  pub slots : (i : ℕ) → i < sizes.history → KeysIn h (sizes.slot * i + word.slot_keys)

-- room for every transaction on record
pub record Gathering (txs h : List ℕ) : Type 0 where
  pub room : sizes.live + sizes.history ≤ length txs
  pub long : length h ≡ sizes.history_words

pub record Doubting (es : List ℕ) (n : ℕ) (txs : List ℕ) (m own : ℕ) : Type 0 where
  pub entries : Entries es n
  pub recorded : m ≤ length txs
  pub own_low : 1 ≤ own
  pub own_high : own ≤ sizes.sites

-- of the part at `place`
pub record Voting (s : Site) (place : ℕ) (es : List ℕ) (n : ℕ) : Type 0 where
  pub valid : site_ok s ≡ true
  pub low : place < sizes.live
  pub entries : Entries es n

-- an entry of the list conflicts with the install e
abbrev pub any_conflicts : Keys → List ℕ → ℕ → Entry → Bool
any_conflicts own es n e = any_below (λ i. conflicts_at own es i e) n

-- A possible site has all its keys in its words.
pub part_in : (p : Core) (w h : List ℕ) → site_ok (site_of p w h) ≡ true → (i : ℕ) → i < sizes.live
    → KeysIn w (sizes.place * i + word.place_keys)
part_in p w h t i l =
    record {
      lie = omega (arith, (lent_lengths p w h t).live);
      few = rw (← place_keys_lem p.seats w i l) (part_few (site_of p w h) t i l);
    }

pub slot_in : (p : Core) (w h : List ℕ) → site_ok (site_of p w h) ≡ true → (i : ℕ) → i < sizes.history
    → KeysIn h (sizes.slot * i + word.slot_keys)
slot_in p w h t i l =
    let v = ((valid_site (site_of p w h) t).entry i l).keys in
    let few : FewKeys (get_or (history_of h) i _).keys = record { few_read = v.few_read; few_wrote = v.few_wrote } in
    record { lie = omega (arith, (lent_lengths p w h t).history); few = rw (← slot_keys_lem h i l) few }

-- the install in a slot is the one recalled from it
pub recalled : (h : List ℕ) (installs i slot : ℕ) → slot ≡ slot_of (forgotten installs + i)
    → entry_from h (sizes.slot * slot) ≡ recall (history_of h) installs i
recalled h installs i slot e = rw e (sym (history_at h (slot_of (forgotten installs + i)) (slot_low (forgotten installs + i))))

pub recalled_tx : (h : List ℕ) (installs i slot : ℕ) → slot ≡ slot_of (forgotten installs + i)
    → get_or h (sizes.slot * slot + word.slot_tx) 0 ≡ (recall (history_of h) installs i).tx
unfolding entry_from
recalled_tx h installs i slot e = ap (λ (x : Entry). x.tx) (recalled h installs i slot e)

-- the words of a place's entry, by its seat and its words
pub prepared_at : (seats : List Seat) (w : List ℕ) (place i : ℕ) (own : Keys) → own ≡ keys_from w (sizes.place * place + word.place_keys)
    → place < sizes.live → i < sizes.live
    → prepared_words place own i (sub_from (seat_at seats i) w (sizes.place * i))
    ≡ prepared_words place (part_at (live_of seats w) place).keys i (part_at (live_of seats w) i)
prepared_at seats w place i own e p l = rw (e, place_keys_lem seats w place p, live_at seats w i l)

-- a transaction is held where a seat is of it
pub seats_hold : (seats : List Seat) (w : List ℕ) (tx : ℕ)
    → is_held (live_of seats w) tx ≡ any_below (λ i. is_seat_of (seat_at seats i) tx) sizes.live
unfolding is_held place_of
seats_hold seats w tx =
    first_any (λ i. is_part_of (part_at (live_of seats w) i) tx) sizes.live
    ∙ any_same _ _ sizes.live (λ i h. sym (seat_part seats w tx i h))

-- the installs that conflict, sought with the keys and the snapshot of a place in words
pub conflicts_in : (p : Core) (w h : List ℕ) (place : ℕ) (es : List ℕ) (n : ℕ) → place < sizes.live
    → (let installs = p.counters.installs in
    let own = keys_from w (sizes.place * place + word.place_keys) in
    let seen = within installs (record { installs = get_or w (sizes.place * place + word.place_snapshot) 0 }) in
    any_below (conflicts_with (site_of p w h) place es) n ≡ any_below (λ k. any_conflicts own es n (recall (history_of h) installs k)) seen)
conflicts_in p w h place es n l =
    rw (← place_keys_lem p.seats w place l, ← place_snapshot_lem p.seats w place l) (conflicts_by_install (site_of p w h) place es n)
