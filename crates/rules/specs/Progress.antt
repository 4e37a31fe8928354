-- Beyond demand 3: in the same lists the messages go on, none refused for its stage and none voted 5, and so do the records of the logs.
use Rattle.std.specs.Prelude.{ℕ, ◌≤◌, ◌<◌, ◌≡◌, true, ◌⊎◌, List, [], length, get_or, replicate}
use Rattle.laws.specs.Pair.{precedes}
use Rattle.kinds.specs.Sizes as sizes
use Rattle.kinds.specs.declared.House.{House}
use Rattle.kinds.specs.Kind as kind
use Rattle.kinds.specs.Reason as reason
use Rattle.kinds.specs.declared.RecordHead.{RecordHead}
use Rattle.kinds.specs.declared.Answer.TheVariants.{Refused, Done}
use Rattle.rules.specs.House.{GoodHouse}
use Rattle.rules.specs.Message.{message_head}
use Rattle.rules.specs.Record.{record_head}
use Rattle.rules.specs.World as world
use Rattle.rules.specs.World.{Call, World, Member, Handed, Lawful, fresh_world, step, run}
use Rattle.rules.specs.Book.{Fact, book_from}
use Rattle.rules.specs.Claim.{Committed}

-- a message that is handed in never comes at a wrong moment: whatever else it is refused for, it is refused neither 26 nor 27
abbrev pub NoneOutOfTurn : World → Type 0
NoneOutOfTurn w =
    (s : ℕ) (out m : List ℕ) → Handed w (world.message s out m)
    → (let a = (step w (world.message s out m)).answer in (a ≡ Refused reason.not_coordinator → ⊥) × (a ≡ Refused reason.stage → ⊥))

-- a PREPARE finds its transaction held: no VOTE that was written is 5
abbrev pub NoneUnknown : World → Type 0
NoneUnknown w = (m : List ℕ) → Member m w.sent → (message_head m).kind ≡ kind.vote → (message_head m).argument ≡ reason.unknown → ⊥

-- the claim: any list of the fourteen calls, from a fresh house that is good
unfoldable pub MessagesProgress : Type 0
MessagesProgress =
    (o : House) (calls : List Call) → GoodHouse o → Lawful (fresh_world o) calls
    → NoneOutOfTurn (run (fresh_world o) calls) × NoneUnknown (run (fresh_world o) calls)

-- the i-th record of the log of s
abbrev pub record_at : World → ℕ → ℕ → RecordHead
record_at w s i = record_head (get_or (w.log s) i [])

-- b may follow a in a log: a part is above a part by pair, and above a state by number; a state is not below a state
pub record Follows (a b : RecordHead) : Type 0 where
  pub part_part : a.kind ≡ kind.part → b.kind ≡ kind.part → precedes a.number a.coordinator b.number b.coordinator ≡ true
  pub state_part : a.kind ≡ kind.state → b.kind ≡ kind.part → a.number < b.number
  pub state_state : a.kind ≡ kind.state → b.kind ≡ kind.state → a.number ≤ b.number

-- every log ascends, at every site
abbrev pub LogsAscend : World → Type 0
LogsAscend w = (s i j : ℕ) → i < j → j < length (w.log s) → Follows (record_at w s i) (record_at w s j)

-- so the next record of a log is taken: never refused 14, nor for anything but a queue that is full
abbrev pub NextTaken : World → Type 0
NextTaken w =
    (s : ℕ) → w.merged s < length (w.log s)
    → (let x = step w (world.merge (get_or (w.log s) (w.merged s) [])) in (x.answer ≡ Done) ⊎ (x.answer ≡ Refused reason.queue_full))

-- a due record lacks no part, and its parts agree: emit is never refused 16
abbrev pub DueIsWhole : World → Type 0
DueIsWhole w = (out : List ℕ) → (step w (world.emit out)).answer ≡ Refused reason.not_whole → ⊥

-- the merger has taken all of every log, and each has a state at or above n
abbrev pub Drained : House → World → ℕ → Type 0
Drained o w n =
    (s : ℕ) → 1 ≤ s → s ≤ o.sites
    → (w.merged s ≡ length (w.log s))
    × ((i : ℕ) × (i < length (w.log s)) × ((record_at w s i).kind ≡ kind.state) × (n ≤ (record_at w s i).number))

-- tx was emitted
abbrev pub InStream : World → ℕ → Type 0
InStream w tx = (i : ℕ) × (i < length w.stream) × ((record_head (get_or w.stream i [])).tx ≡ tx)

-- then emits, as many as it takes, bring out every committed transaction with a number up to n
abbrev pub Drains : House → List Fact → World → Type 0
Drains o b w =
    (n tx m c : ℕ) (out : List ℕ) → Drained o w n → Committed b tx m c → m ≤ n → sizes.merged ≤ length out
    → (k : ℕ) × InStream (run w (replicate k (world.emit out))) tx

-- the claim, of the same lists
unfoldable pub RecordsProgress : Type 0
RecordsProgress =
    (o : House) (calls : List Call) → GoodHouse o → Lawful (fresh_world o) calls
    → (let w = run (fresh_world o) calls in
    LogsAscend w × NextTaken w × DueIsWhole w × Drains o (book_from (fresh_world o) calls) w)
