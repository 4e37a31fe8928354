-- Demand 3, the claims: what holds after any list of calls, in the words of the book.
use Rattle.std.specs.Prelude.{ℕ, ◌<◌, ◌≡◌, true, false, List, ◌∷◌, ◌++◌}
use Rattle.laws.specs.Pair.{precedes}
use Rattle.kinds.specs.Sizes as sizes
use Rattle.kinds.specs.State.{fresh}
use Rattle.kinds.specs.declared.Value.{Value}
use Rattle.kinds.specs.declared.House.{House}
use Rattle.kinds.specs.declared.Answer.TheVariants.{Standing}
use Rattle.rules.specs.House.{home_of, GoodHouse}
use Rattle.rules.specs.Copy.{value_of}
use Rattle.rules.specs.World.{Call, World, Member, Lawful, fresh_world, run}
use Rattle.rules.specs.Book as book
use Rattle.rules.specs.Book.{Fact, began, used, wrote, committed, installed, replayed, book_from}

-- f stands in the book before g
pub record Before (f g : Fact) (b : List Fact) : Type 0 where
  pub front : List Fact
  pub rest : List Fact
  pub split : b ≡ front ++ rest
  pub first : Member f front
  pub second : Member g rest

-- the last value that tx wrote to a key: none is written behind it
pub record LastWrite (b : List Fact) (tx key : ℕ) (v : Value) : Type 0 where
  pub front : List Fact
  pub rest : List Fact
  pub split : b ≡ front ++ (wrote tx key v ∷ rest)
  pub last : (u : Value) → Member (wrote tx key u) rest → ⊥

abbrev pub Wrote : List Fact → ℕ → ℕ → Type 0
Wrote b tx key = (v : Value) × Member (wrote tx key v) b

abbrev pub Used : List Fact → ℕ → ℕ → Type 0
Used b tx key = Member (used tx key) b

abbrev pub Committed : List Fact → ℕ → ℕ → ℕ → Type 0
Committed b tx n c = Member (committed tx n c) b

-- the pair of a copy's last replay, (0, 0) before the first
pub data LastReplay (copy : ℕ) (b : List Fact) (n c : ℕ) : Type 0 where
  behind : (front rest : List Fact) (split : b ≡ front ++ (replayed copy n c ∷ rest))
      (last : (m d : ℕ) → Member (replayed copy m d) rest → ⊥) → LastReplay copy b n c
  none : (never : (m d : ℕ) → Member (replayed copy m d) b → ⊥) (number : n ≡ 0) (coordinator : c ≡ 0) → LastReplay copy b n c

-- (m, d) is not above (n, c)
abbrev pub UpTo : ℕ → ℕ → ℕ → ℕ → Type 0
UpTo n c m d = precedes n c m d ≡ false

-- the greatest by pair of the committed up to (n, c) that wrote a key, whose last write is v
pub record LastWriter (b : List Fact) (n c key : ℕ) (v : Value) : Type 0 where
  pub tx : ℕ
  pub number : ℕ
  pub coordinator : ℕ
  pub committed : Committed b tx number coordinator
  pub up_to : UpTo n c number coordinator
  pub wrote : LastWrite b tx key v
  pub greatest : (ux m d : ℕ) → Committed b ux m d → UpTo n c m d → Wrote b ux key → UpTo number coordinator m d

-- v is what the writes of the committed up to (n, c), by pair, leave at a key, over zeros
pub data LeftBy (b : List Fact) (n c key : ℕ) (v : Value) : Type 0 where
  unwritten : (none : (tx m d : ℕ) → Committed b tx m d → UpTo n c m d → Wrote b tx key → ⊥) (zero : v ≡ fresh) → LeftBy b n c key v
  written : LastWriter b n c key v → LeftBy b n c key v

-- (n, c) is (0, 0), or the pair of a committed transaction
pub data Reaches (b : List Fact) (n c : ℕ) : Type 0 where
  start : (number : n ≡ 0) (coordinator : c ≡ 0) → Reaches b n c
  commit : (tx : ℕ) → Committed b tx n c → Reaches b n c

-- (A) each copy holds the values left by the writes of the first so many committed transactions, each whole
pub record CopyHolds (b : List Fact) (w : World) (copy key : ℕ) : Type 0 where
  pub value : Value
  pub number : ℕ
  pub coordinator : ℕ
  pub answers : value_of (w.copy copy) key ≡ Standing value number coordinator
  pub last : LastReplay copy b number coordinator
  pub up_to : Reaches b number coordinator
  pub left : LeftBy b number coordinator key value

-- a part begins once at a site, and a pair is installed once there, so that before and after have one meaning
pub record Once (b : List Fact) : Type 0 where
  pub began : (s tx : ℕ) → Before (book.began s tx) (book.began s tx) b → ⊥
  pub installed : (s n c : ℕ) → Before (book.installed s n c) (book.installed s n c) b → ⊥

-- commit order: a pair is one transaction's, and a transaction has one pair
pub record Ordered (b : List Fact) : Type 0 where
  pub one : (tx ux n c : ℕ) → Committed b tx n c → Committed b ux n c → tx ≡ ux
  pub once : (tx n c m d : ℕ) → Committed b tx n c → Committed b tx m d → (n ≡ m) × (c ≡ d)

-- (B) of two committed writers of one key, the later began its part at that key's site after the earlier was installed there
abbrev pub WritersInOrder : House → List Fact → Type 0
WritersInOrder o b =
    (tx ux key n c m d : ℕ) → Committed b tx n c → Committed b ux m d → Wrote b tx key → Wrote b ux key → precedes n c m d ≡ true
    → Before (installed (home_of o key) n c) (began (home_of o key) ux) b

-- both have parts at site s
pub record Parts (b : List Fact) (s tx ux : ℕ) : Type 0 where
  pub one : Member (began s tx) b
  pub other : Member (began s ux) b

-- tx saw ux at s if ux was installed there before tx's part began; where both have parts, it else missed it
pub record Saw (b : List Fact) (s tx ux : ℕ) : Type 0 where
  pub number : ℕ
  pub coordinator : ℕ
  pub committed : Committed b ux number coordinator
  pub before : Before (installed s number coordinator) (began s tx) b

-- one of them wrote a key that the other used
pub data Dependent (b : List Fact) (tx ux : ℕ) : Type 0 where
  on_write_of_other : (key : ℕ) → Used b tx key → Wrote b ux key → Dependent b tx ux
  on_own_write : (key : ℕ) → Wrote b tx key → Used b ux key → Dependent b tx ux

-- (C) no committed transaction saw, at one site, another that wrote a key it used, or used a key it wrote, and missed it at a second
abbrev pub NoneHalfSeen : List Fact → Type 0
NoneHalfSeen b =
    (tx ux n c s r : ℕ) → (tx ≡ ux → ⊥) → Committed b tx n c → Dependent b tx ux
    → Parts b s tx ux → Saw b s tx ux → Parts b r tx ux → (Saw b r tx ux → ⊥) → ⊥

pub record Holds (o : House) (b : List Fact) (w : World) : Type 0 where
  pub copies : (copy key : ℕ) → key < sizes.keys → CopyHolds b w copy key
  pub once : Once b
  pub ordered : Ordered b
  pub writers : WritersInOrder o b
  pub half_seen : NoneHalfSeen b

-- the claim: any list of the fourteen calls, from a fresh house that is good
unfoldable pub Demand3 : Type 0
Demand3 =
    (o : House) (calls : List Call) → GoodHouse o → Lawful (fresh_world o) calls
    → Holds o (book_from (fresh_world o) calls) (run (fresh_world o) calls)
