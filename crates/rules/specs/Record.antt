-- R1 to R6, Q12.3 and Q12.6: records. Part and state records are the sites' logs, merged ones the stream.
use Rattle.std.specs.Prelude.{ℕ, ◌+◌, ◌-◌, ◌*◌, ◌≡◌, List, [], ◌∷◌, ◌++◌, Bool, true, length, get_or, drop, ltb, leb, eqb}
use Rattle.laws.specs.Choice.{pick, every}
use Rattle.laws.specs.Scan.{all_below}
use Rattle.kinds.specs.Sizes as sizes
use Rattle.kinds.specs.Kind as kind
use Rattle.kinds.specs.Word as word
use Rattle.kinds.specs.declared.Value.{Value}
use Rattle.kinds.specs.declared.House.{House}
use Rattle.kinds.specs.declared.RecordHead.{RecordHead}
use Rattle.rules.specs.Value.{value_at, fits}
use Rattle.rules.specs.House.{is_site, is_tx, coordinator_of, in_mask, is_mask, home_of, whole_house}

-- The layout.

-- the offset of the writes: 9, or 0 for none
unfoldable pub write_offset : ℕ → ℕ
write_offset n = pick (eqb n 0) 0 sizes.record_header

abbrev pub record_length : ℕ → ℕ
record_length n = sizes.record_header + sizes.write * n

abbrev pub record_head_words : RecordHead → List ℕ
record_head_words r =
    record_length r.count
    ∷ r.kind ∷ r.site ∷ r.number ∷ r.coordinator ∷ r.tx ∷ r.mask
    ∷ r.count ∷ write_offset r.count ∷ []

-- header, then the words of the writes
unfoldable pub record_words : RecordHead → List ℕ → List ℕ
record_words r ws = record_head_words r ++ ws

-- write i: its key, and its value behind it
abbrev pub write_key : List ℕ → ℕ → ℕ
write_key ws i = get_or ws (sizes.write * i + word.write_key) 0

abbrev pub write_value : List ℕ → ℕ → Value
write_value ws i = value_at ws (sizes.write * i + word.write_value)

-- what is read
unfoldable pub record_head : List ℕ → RecordHead
record_head m =
    record {
      kind = get_or m word.kind 0;
      site = get_or m word.site 0;
      number = get_or m word.number 0;
      coordinator = get_or m word.coordinator 0;
      tx = get_or m word.record_tx 0;
      mask = get_or m word.record_mask 0;
      count = get_or m word.write_count 0;
    }

unfoldable pub record_writes : List ℕ → List ℕ
record_writes m = drop sizes.record_header m

-- What a header must be, by kind.

-- a transaction's pair: the coordinator is the transaction's
abbrev pub pair_tests : House → RecordHead → List Bool
pair_tests o r = is_tx o r.tx ∷ eqb r.coordinator (coordinator_of r.tx) ∷ is_mask o r.mask ∷ []

unfoldable pub pair_ok : House → RecordHead → Bool
pair_ok o r = every (pair_tests o r)

abbrev pub part_head_tests : House → RecordHead → List Bool
part_head_tests o r =
    eqb r.kind kind.part
    ∷ is_site o r.site
    ∷ pair_ok o r
    ∷ in_mask r.mask r.site
    ∷ leb r.count sizes.writes
    ∷ []

unfoldable pub part_head_ok : House → RecordHead → Bool
part_head_ok o r = every (part_head_tests o r)

-- words 4 to 8 are 0
abbrev pub state_head_tests : House → RecordHead → List Bool
state_head_tests o r =
    eqb r.kind kind.state
    ∷ is_site o r.site
    ∷ eqb r.coordinator 0
    ∷ eqb r.tx 0
    ∷ eqb r.mask 0
    ∷ eqb r.count 0
    ∷ []

unfoldable pub state_head_ok : House → RecordHead → Bool
state_head_ok o r = every (state_head_tests o r)

-- site 0
abbrev pub merged_head_tests : RecordHead → List Bool
merged_head_tests r =
    eqb r.kind kind.merged
    ∷ eqb r.site 0
    ∷ pair_ok whole_house r
    ∷ leb r.count sizes.merged_writes
    ∷ []

unfoldable pub merged_head_ok : RecordHead → Bool
merged_head_ok r = every (merged_head_tests r)

-- What the writes must be: ascending by key, and keys of the site; in a merged record, of any. Every value fits (Q12.6).

-- write i is above the one before it
unfoldable pub key_ascends : List ℕ → ℕ → Bool
key_ascends ws i = pick (eqb i 0) true (ltb (write_key ws (i - 1)) (write_key ws i))

unfoldable pub part_write_ok : House → ℕ → List ℕ → ℕ → Bool
part_write_ok o site ws i = every (key_ascends ws i ∷ eqb (home_of o (write_key ws i)) site ∷ fits (write_value ws i) ∷ [])

unfoldable pub merged_write_ok : List ℕ → ℕ → Bool
merged_write_ok ws i = every (key_ascends ws i ∷ ltb (write_key ws i) sizes.keys ∷ fits (write_value ws i) ∷ [])

-- The checks.
abbrev pub shape_tests : List ℕ → List Bool
shape_tests m =
    leb sizes.record_header (length m)
    ∷ eqb (get_or m word.length 0) (length m)
    ∷ eqb (length m) (record_length (get_or m word.write_count 0))
    ∷ eqb (get_or m word.write_offset 0) (write_offset (get_or m word.write_count 0))
    ∷ []

unfoldable pub record_shape : List ℕ → Bool
record_shape m = every (shape_tests m)

abbrev pub part_tests : House → List ℕ → List Bool
part_tests o m =
    record_shape m
    ∷ part_head_ok o (record_head m)
    ∷ all_below (part_write_ok o (record_head m).site (record_writes m)) (record_head m).count
    ∷ []

unfoldable pub part_ok : House → List ℕ → Bool
part_ok o m = every (part_tests o m)

abbrev pub state_tests : House → List ℕ → List Bool
state_tests o m = record_shape m ∷ state_head_ok o (record_head m) ∷ []

unfoldable pub state_ok : House → List ℕ → Bool
state_ok o m = every (state_tests o m)

abbrev pub merged_tests : List ℕ → List Bool
merged_tests m =
    record_shape m
    ∷ merged_head_ok (record_head m)
    ∷ all_below (merged_write_ok (record_writes m)) (record_head m).count
    ∷ []

unfoldable pub merged_ok : List ℕ → Bool
merged_ok m = every (merged_tests m)

-- a value of the layout, of each kind
pub record GoodPart (o : House) (r : RecordHead) (ws : List ℕ) : Type 0 where
  pub size : length ws ≡ sizes.write * r.count
  pub head : part_head_ok o r ≡ true
  pub writes : all_below (part_write_ok o r.site ws) r.count ≡ true

pub record GoodState (o : House) (r : RecordHead) (ws : List ℕ) : Type 0 where
  pub size : length ws ≡ sizes.write * r.count
  pub head : state_head_ok o r ≡ true

pub record GoodMerged (r : RecordHead) (ws : List ℕ) : Type 0 where
  pub size : length ws ≡ sizes.write * r.count
  pub head : merged_head_ok r ≡ true
  pub writes : all_below (merged_write_ok ws) r.count ≡ true
