-- The protocol's tables: messages and records without their words, what each site holds, and the account that the proofs keep.
use Prim.Native.Nat.{ℕ}
use mathlib.Core.Path.{◌≡◌}
use mathlib.Core.Bool.{Bool}
use mathlib.Core.List.{List, [], ◌∷◌}
use Rattle.kinds.specs.declared.Keys.{Keys}
use Rattle.kinds.specs.declared.Sub.{Sub}
use Rattle.kinds.specs.declared.Entry.{Entry}

-- A message from one site to another, without its channel number.
pub data Msg : Type 0 where
  m_join : (tx desk : ℕ) → Msg
  m_joined : (tx reason : ℕ) → Msg
  m_prepare : (tx clock mask : ℕ) → Msg
  m_conc : (tx : ℕ) (es : List ℕ) → Msg
  m_cert : (tx : ℕ) (es : List ℕ) → Msg
  m_vote : (tx clock reason : ℕ) → Msg
  m_commit : (tx number : ℕ) → Msg
  m_abort : (tx : ℕ) → Msg

-- m is a JOIN of t, for a desk
abbrev pub IsJoin : ℕ → Msg → Type 0
IsJoin t m = (d : ℕ) × (m ≡ m_join t d)

-- A record of a site's log.
pub data Rec : Type 0 where
  r_part : Entry → Rec
  r_state : ℕ → Rec

abbrev pub parts_of : List Rec → List Entry
parts_of [] = []
parts_of (r_part e ∷ l) = e ∷ parts_of l
parts_of (r_state n ∷ l) = parts_of l

-- The tables. The first group is the sites': `live s t` is the part of transaction t at site s, free where it is not held;
-- `gathered t` the entries that t's coordinator holds; `post a b` every message ever written from a to b, of which b has taken
-- `taken a b`. The second group is the account that the proofs keep: `has s t` where t's part began at s, with the snapshot
-- `snap s t` and the keys `keys s t`; `mask t` the participants once the commit is requested; `list s t` the list that s made;
-- `cert t` the joined list; `yes s t` with its mark; `num t` the commit number; `dead t` where its coordinator aborted it.
pub record Protocol : Type 0 where
  pub clock : ℕ → ℕ
  pub serial : ℕ → ℕ
  pub live : ℕ → ℕ → Sub
  pub gathered : ℕ → List ℕ
  pub post : ℕ → ℕ → List Msg
  pub taken : ℕ → ℕ → ℕ
  pub log : ℕ → List Rec
  pub has : ℕ → ℕ → Bool
  pub snap : ℕ → ℕ → ℕ
  pub keys : ℕ → ℕ → Keys
  pub asked : ℕ → Bool
  pub mask : ℕ → ℕ
  pub made : ℕ → ℕ → Bool
  pub list : ℕ → ℕ → List ℕ
  pub certed : ℕ → Bool
  pub cert : ℕ → List ℕ
  pub yes : ℕ → ℕ → Bool
  pub queue_mark : ℕ → ℕ → ℕ
  pub num : ℕ → ℕ
  pub dead : ℕ → Bool

abbrev pub inst : Protocol → ℕ → List Entry
inst p s = parts_of (p.log s)

-- a protocol by its tables
abbrev pub tables_of : (clock : ℕ → ℕ) (serial : ℕ → ℕ) (live : ℕ → ℕ → Sub) (gathered : ℕ → List ℕ) (post : ℕ → ℕ → List Msg)
    (taken : ℕ → ℕ → ℕ) (log : ℕ → List Rec) (has : ℕ → ℕ → Bool) (snap : ℕ → ℕ → ℕ) (keys : ℕ → ℕ → Keys) (asked : ℕ → Bool)
    (mask : ℕ → ℕ) (made : ℕ → ℕ → Bool) (list : ℕ → ℕ → List ℕ) (certed : ℕ → Bool) (cert : ℕ → List ℕ) (yes : ℕ → ℕ → Bool)
    (queue_mark : ℕ → ℕ → ℕ) (num : ℕ → ℕ) (dead : ℕ → Bool) → Protocol
tables_of clock serial live gathered post taken log has snap keys asked mask made list certed cert voted queue_mark num dead =
    record {
      clock = clock;
      serial = serial;
      live = live;
      gathered = gathered;
      post = post;
      taken = taken;
      log = log;
      has = has;
      snap = snap;
      keys = keys;
      asked = asked;
      mask = mask;
      made = made;
      list = list;
      certed = certed;
      cert = cert;
      yes = voted;
      queue_mark = queue_mark;
      num = num;
      dead = dead;
    }

-- One table changed.
abbrev pub set_clock : (ℕ → ℕ) → Protocol → Protocol
set_clock x p =
    tables_of x p.serial p.live p.gathered p.post p.taken p.log p.has p.snap p.keys p.asked p.mask
    p.made p.list p.certed p.cert p.yes p.queue_mark p.num p.dead

abbrev pub set_serial : (ℕ → ℕ) → Protocol → Protocol
set_serial x p =
    tables_of p.clock x p.live p.gathered p.post p.taken p.log p.has p.snap p.keys p.asked p.mask
    p.made p.list p.certed p.cert p.yes p.queue_mark p.num p.dead

abbrev pub set_live : (ℕ → ℕ → Sub) → Protocol → Protocol
set_live x p =
    tables_of p.clock p.serial x p.gathered p.post p.taken p.log p.has p.snap p.keys p.asked p.mask
    p.made p.list p.certed p.cert p.yes p.queue_mark p.num p.dead

abbrev pub set_gathered : (ℕ → List ℕ) → Protocol → Protocol
set_gathered x p =
    tables_of p.clock p.serial p.live x p.post p.taken p.log p.has p.snap p.keys p.asked p.mask
    p.made p.list p.certed p.cert p.yes p.queue_mark p.num p.dead

abbrev pub set_post : (ℕ → ℕ → List Msg) → Protocol → Protocol
set_post x p =
    tables_of p.clock p.serial p.live p.gathered x p.taken p.log p.has p.snap p.keys p.asked p.mask
    p.made p.list p.certed p.cert p.yes p.queue_mark p.num p.dead

abbrev pub set_taken : (ℕ → ℕ → ℕ) → Protocol → Protocol
set_taken x p =
    tables_of p.clock p.serial p.live p.gathered p.post x p.log p.has p.snap p.keys p.asked p.mask
    p.made p.list p.certed p.cert p.yes p.queue_mark p.num p.dead

abbrev pub set_log : (ℕ → List Rec) → Protocol → Protocol
set_log x p =
    tables_of p.clock p.serial p.live p.gathered p.post p.taken x p.has p.snap p.keys p.asked p.mask
    p.made p.list p.certed p.cert p.yes p.queue_mark p.num p.dead

abbrev pub set_has : (ℕ → ℕ → Bool) → Protocol → Protocol
set_has x p =
    tables_of p.clock p.serial p.live p.gathered p.post p.taken p.log x p.snap p.keys p.asked p.mask
    p.made p.list p.certed p.cert p.yes p.queue_mark p.num p.dead

abbrev pub set_snap : (ℕ → ℕ → ℕ) → Protocol → Protocol
set_snap x p =
    tables_of p.clock p.serial p.live p.gathered p.post p.taken p.log p.has x p.keys p.asked p.mask
    p.made p.list p.certed p.cert p.yes p.queue_mark p.num p.dead

abbrev pub set_keys : (ℕ → ℕ → Keys) → Protocol → Protocol
set_keys x p =
    tables_of p.clock p.serial p.live p.gathered p.post p.taken p.log p.has p.snap x p.asked p.mask
    p.made p.list p.certed p.cert p.yes p.queue_mark p.num p.dead

abbrev pub set_asked : (ℕ → Bool) → Protocol → Protocol
set_asked x p =
    tables_of p.clock p.serial p.live p.gathered p.post p.taken p.log p.has p.snap p.keys x p.mask
    p.made p.list p.certed p.cert p.yes p.queue_mark p.num p.dead

abbrev pub set_mask : (ℕ → ℕ) → Protocol → Protocol
set_mask x p =
    tables_of p.clock p.serial p.live p.gathered p.post p.taken p.log p.has p.snap p.keys p.asked x
    p.made p.list p.certed p.cert p.yes p.queue_mark p.num p.dead

abbrev pub set_made : (ℕ → ℕ → Bool) → Protocol → Protocol
set_made x p =
    tables_of p.clock p.serial p.live p.gathered p.post p.taken p.log p.has p.snap p.keys p.asked
    p.mask x p.list p.certed p.cert p.yes p.queue_mark p.num p.dead

abbrev pub set_list : (ℕ → ℕ → List ℕ) → Protocol → Protocol
set_list x p =
    tables_of p.clock p.serial p.live p.gathered p.post p.taken p.log p.has p.snap p.keys p.asked
    p.mask p.made x p.certed p.cert p.yes p.queue_mark p.num p.dead

abbrev pub set_certed : (ℕ → Bool) → Protocol → Protocol
set_certed x p =
    tables_of p.clock p.serial p.live p.gathered p.post p.taken p.log p.has p.snap p.keys p.asked
    p.mask p.made p.list x p.cert p.yes p.queue_mark p.num p.dead

abbrev pub set_cert : (ℕ → List ℕ) → Protocol → Protocol
set_cert x p =
    tables_of p.clock p.serial p.live p.gathered p.post p.taken p.log p.has p.snap p.keys p.asked
    p.mask p.made p.list p.certed x p.yes p.queue_mark p.num p.dead

abbrev pub set_yes : (ℕ → ℕ → Bool) → Protocol → Protocol
set_yes x p =
    tables_of p.clock p.serial p.live p.gathered p.post p.taken p.log p.has p.snap p.keys p.asked
    p.mask p.made p.list p.certed p.cert x p.queue_mark p.num p.dead

abbrev pub set_queue_mark : (ℕ → ℕ → ℕ) → Protocol → Protocol
set_queue_mark x p =
    tables_of p.clock p.serial p.live p.gathered p.post p.taken p.log p.has p.snap p.keys p.asked
    p.mask p.made p.list p.certed p.cert p.yes x p.num p.dead

abbrev pub set_num : (ℕ → ℕ) → Protocol → Protocol
set_num x p =
    tables_of p.clock p.serial p.live p.gathered p.post p.taken p.log p.has p.snap p.keys p.asked
    p.mask p.made p.list p.certed p.cert p.yes p.queue_mark x p.dead

abbrev pub set_dead : (ℕ → Bool) → Protocol → Protocol
set_dead x p =
    tables_of p.clock p.serial p.live p.gathered p.post p.taken p.log p.has p.snap p.keys p.asked
    p.mask p.made p.list p.certed p.cert p.yes p.queue_mark p.num x
