-- Q10.4, in any state: what a part's desk lets it write. And beyond demand 3 Q10.2 to Q10.4, in any list: a transaction has one desk.
use Rattle.std.specs.Prelude.{ℕ, ◌≤◌, ◌<◌, ◌≡◌, true, false, List, ◌∷◌, ◌++◌, length, get_or}
use Rattle.kinds.specs.Sizes as sizes
use Rattle.kinds.specs.State.{sub_at}
use Rattle.kinds.specs.declared.Value.{Value}
use Rattle.kinds.specs.declared.House.{House}
use Rattle.kinds.specs.declared.Site.{Site}
use Rattle.kinds.specs.declared.Sub.{Sub}
use Rattle.kinds.specs.declared.Answer.{Answer}
use Rattle.kinds.specs.declared.Answer.TheVariants.{Refused, Done, Begun}
use Rattle.rules.specs.House.{home_of, is_site, GoodHouse}
use Rattle.rules.specs.Desk.{is_desk, write_limit}
use Rattle.rules.specs.Value.{Fits}
use Rattle.rules.specs.Keys.{wrote_key}
use Rattle.rules.specs.Live.{is_part_of, place_of, key_held, stage_at}
use Rattle.rules.specs.History.{is_forgotten, is_newer}
use Rattle.rules.specs.Valid.{site_ok}
use Rattle.rules.specs.Access.{access_code, write_of}
use Rattle.rules.specs.World as world
use Rattle.rules.specs.World.{Call, World, Lawful, fresh_world, step, run}
use Rattle.rules.specs.Book.{Fact, book_from}
use Rattle.rules.specs.Claim.{Wrote}

-- A write of key k for tx, in any state. Where the site holds no part of tx a cause before 8 holds.
module _ (s : Site) (tx k : ℕ) (v : Value) where
  abbrev place : ℕ
  place = place_of s.live tx

  abbrev part : Sub
  part = sub_at s place

  abbrev answer : Answer
  answer = (write_of s tx k v).answer

  -- the part after it
  abbrev left : Sub
  left = sub_at (write_of s tx k v).site place

  -- no cause before 8 holds
  abbrev pub Reaches : Type 0
  Reaches = access_code (site_ok s) sizes.base s.house s.counters.own k place (stage_at s.live place) ≡ 0

  -- and none of 8, 9 and 10 does, for a key that the part has not written
  pub record OneMore : Type 0 where
    pub reaches : Reaches
    pub new : wrote_key part.keys k ≡ false
    pub kept : is_forgotten s.counters.installs part.snapshot ≡ false
    pub free : key_held s.live place k ≡ false
    pub latest : is_newer s.history s.counters.installs part.snapshot k ≡ false

  pub record Limited : Type 0 where
    -- one key more is taken below the desk's limit, where its value fits, and refused 11 at it
    pub below : OneMore → part.keys.wrote < write_limit part.desk → Fits v → answer ≡ Done
    pub full : OneMore → write_limit part.desk ≤ part.keys.wrote → answer ≡ Refused 11
    -- a key already written is taken, at the limit too
    pub again : Reaches → wrote_key part.keys k ≡ true → Fits v → answer ≡ Done
    -- nothing else is refused 11
    pub only : answer ≡ Refused 11 → (wrote_key part.keys k ≡ false) × (write_limit part.desk ≤ part.keys.wrote)
    -- so a part never passes its limit, and a write leaves it its desk
    pub most : answer ≡ Done → left.keys.wrote ≤ write_limit part.desk
    pub desk : left.desk ≡ part.desk

-- the claim: in any state
unfoldable pub WritesLimited : Type 0
WritesLimited = (s : Site) (tx k : ℕ) (v : Value) → Limited s tx k v

-- In the list a begin for desk d answers tx.
pub record BegunFor (o : House) (list : List Call) (tx d : ℕ) : Type 0 where
  pub calls : List Call
  pub more : List Call
  pub at : ℕ
  pub split : list ≡ calls ++ (world.begin at d ∷ more)
  pub answers : (step (run (fresh_world o) calls) (world.begin at d)).answer ≡ Begun tx

-- no key stands twice
abbrev pub Different : List ℕ → Type 0
Different keys = (i j : ℕ) → i < length keys → j < length keys → get_or keys i 0 ≡ get_or keys j 0 → i ≡ j

-- The desk is one, each part of tx has it, and at no site did tx write more different keys than it allows, in the words of the book.
pub record DeskKept (o : House) (b : List Fact) (w : World) (tx d : ℕ) : Type 0 where
  pub known : is_desk d ≡ true
  pub parts : (s i : ℕ) → is_site o s ≡ true → i < sizes.live → is_part_of (sub_at (w.site s) i) tx ≡ true → (sub_at (w.site s) i).desk ≡ d
  pub writes : (s : ℕ) (keys : List ℕ) → Different keys
      → ((i : ℕ) → i < length keys → (home_of o (get_or keys i 0) ≡ s) × Wrote b tx (get_or keys i 0)) → length keys ≤ write_limit d

-- the claim: any list of the fourteen calls, from a fresh house that is good
unfoldable pub DesksKept : Type 0
DesksKept =
    (o : House) (list : List Call) → GoodHouse o → Lawful (fresh_world o) list
    → (tx d : ℕ) → BegunFor o list tx d
    → DeskKept o (book_from (fresh_world o) list) (run (fresh_world o) list) tx d
