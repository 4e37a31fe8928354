-- Q7.1 to Q7.4 and Q7.6: two kinds of wrong moment, in any state. What belongs to the coordinator is refused 26 at another site. At the
-- coordinator, and for reads, writes and messages anywhere, 27 says that the stage, the mask or the turn forbids the call. No call is
-- refused 6.
use Rattle.std.specs.Prelude.{ℕ, ◌+◌, ◌-◌, ◌≤◌, ◌<◌, ◌≡◌, Bool, true, false, not, List, [], ◌∷◌, eqb, length, get_or}
use Rattle.laws.specs.Choice.{some}
use Rattle.kinds.specs.Sizes as sizes
use Rattle.kinds.specs.Stage as stage
use Rattle.kinds.specs.State.{sub_at}
use Rattle.kinds.specs.declared.Value.{Value}
use Rattle.kinds.specs.declared.Answer.{Answer}
use Rattle.kinds.specs.declared.Answer.TheVariants.{Refused}
use Rattle.kinds.specs.declared.Course.{Course}
use Rattle.kinds.specs.declared.Site.{Site}
use Rattle.rules.specs.House.{is_site, is_key, home_of, in_mask}
use Rattle.rules.specs.Message.{message_head, message_ok}
use Rattle.rules.specs.Live.{place_of}
use Rattle.rules.specs.Valid.{site_ok, handed_ok}
use Rattle.rules.specs.Enlist.{is_mine}
use Rattle.rules.specs.Install.{start_of}
use Rattle.rules.specs.Merger.{merger_start_of}
use Rattle.rules.specs.Copy.{copy_start_of}
use Rattle.rules.specs.Page.{page_of, offset_of, pages_of}
use Rattle.rules.specs.Reader.{reader_start_of, reader_replay_of, reader_value_of, record_bytes_of}
use Rattle.rules.specs.Refusals.{is_in_turn}
use Rattle.rules.specs.World as world
use Rattle.rules.specs.World.{World, Call, step}

-- The course of the part that a site holds for a transaction.
abbrev pub course_of : Site → ℕ → Course
course_of s tx = (sub_at s (place_of s.live tx)).course

-- What forbids a call: to read, write or commit, a stage past active;
abbrev pub is_past : Site → ℕ → Bool
is_past s tx = not (eqb (course_of s tx).stage stage.active)

-- to enlist, that too, or that the site is the own one or in the mask;
abbrev pub no_enlist : Site → ℕ → ℕ → Bool
no_enlist s tx site = some (is_past s tx ∷ eqb site s.counters.own ∷ in_mask (course_of s tx).mask site ∷ [])

-- to abandon, the decision;
abbrev pub is_decided : Site → ℕ → Bool
is_decided s tx = eqb (course_of s tx).stage stage.decided

-- to take a message, that it is out of turn.
abbrev pub out_of_turn : Site → List ℕ → Bool
out_of_turn s m = let h = message_head m in not (is_in_turn h.kind s h (place_of s.live h.tx))

-- A coordinator's call past 1, 2 and 5: the buffer is long enough, what is handed in is possible, and the part is held.
pub record AtPart (s : Site) (possible : Bool) (out : List ℕ) (tx : ℕ) : Type 0 where
  pub long : sizes.outgoing ≤ length out
  pub is_possible : possible ≡ true
  pub held : place_of s.live tx < sizes.live

-- A read or write past 2, 3 and 5: what is handed in is possible, the key lives here, and the part is held.
pub record AtKey (s : Site) (room tx key : ℕ) : Type 0 where
  pub whole : room ≡ sizes.base
  pub is_possible : site_ok s ≡ true
  pub known : is_key key ≡ true
  pub here : home_of s.house key ≡ s.counters.own
  pub held : place_of s.live tx < sizes.live

-- A message past 1 to 4: what is handed in is possible, and the message is for this site and the next on its channel.
pub record AtMessage (s : Site) (lists out m : List ℕ) : Type 0 where
  pub long : sizes.outgoing ≤ length out
  pub is_possible : handed_ok s lists ≡ true
  pub formed : message_ok s.house m ≡ true
  pub here : (message_head m).to ≡ s.counters.own
  pub next : (message_head m).channel ≡ get_or s.channels.taken ((message_head m).from - 1) 0 + 1

-- 26 exactly where the site is not the coordinator, 27 exactly where it is and the call is forbidden
pub record ByMoment (a : Answer) (mine forbidden : Bool) : Type 0 where
  pub elsewhere : mine ≡ false → a ≡ Refused 26
  pub only_elsewhere : a ≡ Refused 26 → mine ≡ false
  pub late : mine ≡ true → forbidden ≡ true → a ≡ Refused 27
  pub only_late : a ≡ Refused 27 → (mine ≡ true) × (forbidden ≡ true)

-- No call is refused n.
pub record Never (n : ℕ) : Type 0 where
  pub call : (w : World) (c : Call) → (step w c).answer ≡ Refused n → ⊥
  pub start : (sites : ℕ) (table : List ℕ) (own base lists : ℕ) → (start_of sites table own base lists).answer ≡ Refused n → ⊥
  pub merger_start : (sites : ℕ) (table queues : List ℕ) → (merger_start_of sites table queues).answer ≡ Refused n → ⊥
  pub copy_start : (copy : List ℕ) → (copy_start_of copy).answer ≡ Refused n → ⊥
  pub page : (size offset : ℕ) → page_of size offset ≡ Refused n → ⊥
  pub offset : (size page rest : ℕ) → offset_of size page rest ≡ Refused n → ⊥
  pub pages : (size : ℕ) (offsets out : List ℕ) → (pages_of size offsets out).answer ≡ Refused n → ⊥
  pub reader_start : (b : List ℕ) → (reader_start_of b).answer ≡ Refused n → ⊥
  pub reader_replay : (b m : List ℕ) → (reader_replay_of b m).answer ≡ Refused n → ⊥
  pub reader_value : (b : List ℕ) (k : ℕ) (out : List ℕ) → (reader_value_of b k out).answer ≡ Refused n → ⊥
  pub record_bytes : (m out : List ℕ) → (record_bytes_of m out).answer ≡ Refused n → ⊥

-- the claim; a read, a write and a message belong to no coordinator, so they are never 26
pub record WrongMoments : Type 0 where
  pub enlist : (w : World) (s : ℕ) (out : List ℕ) (tx site : ℕ) → is_site (w.site s).house site ≡ true
      → AtPart (w.site s) (site_ok (w.site s)) out tx
      → ByMoment (step w (world.enlist s out tx site)).answer (is_mine (w.site s) tx) (no_enlist (w.site s) tx site)
  pub commit : (w : World) (s : ℕ) (out : List ℕ) (tx : ℕ) → AtPart (w.site s) (handed_ok (w.site s) (w.lists s)) out tx
      → ByMoment (step w (world.commit s out tx)).answer (is_mine (w.site s) tx) (is_past (w.site s) tx)
  pub abandon : (w : World) (s : ℕ) (out : List ℕ) (tx : ℕ) → AtPart (w.site s) (site_ok (w.site s)) out tx
      → ByMoment (step w (world.abandon s out tx)).answer (is_mine (w.site s) tx) (is_decided (w.site s) tx)
  pub read : (w : World) (s tx key : ℕ) → AtKey (w.site s) (length (w.base s)) tx key
      → ByMoment (step w (world.read s tx key)).answer true (is_past (w.site s) tx)
  pub write : (w : World) (s tx key : ℕ) (v : Value) → AtKey (w.site s) sizes.base tx key
      → ByMoment (step w (world.write s tx key v)).answer true (is_past (w.site s) tx)
  pub message : (w : World) (s : ℕ) (out m : List ℕ) → AtMessage (w.site s) (w.lists s) out m
      → ByMoment (step w (world.message s out m)).answer true (out_of_turn (w.site s) m)
  pub retired : Never 6
