-- What the book has of the protocol's tables, by groups: commits, parts begun, writes with their last values and uses, installs, and
-- installs in their order against the begins.
use Prim.Native.Nat.{ℕ, ◌<◌}
use mathlib.Core.Path.{◌≡◌}
use mathlib.Core.Bool.{true}
use mathlib.Core.Logic.{◌⊎◌}
use mathlib.Core.List.{List}
use lib.ListN.{length}
use Rattle.kinds.specs.declared.House.{House}
use Rattle.kinds.specs.declared.Value.{Value}
use Rattle.kinds.specs.declared.Keys.{Keys}
use Rattle.rules.specs.House.{coordinator_of, home_of}
use Rattle.rules.specs.Keys.{wrote_key, wrote_value, read_key}
use Rattle.rules.specs.World.{Member}
use Rattle.rules.specs.Book as book
use Rattle.rules.specs.Book.{Fact}
use Rattle.rules.specs.Claim.{Before, LastWrite}
use Rattle.rules.specs.Snapshots.{installs_in}
use Rattle.rules.proofs.Protocol.ProtocolTables.{Protocol, inst}
use Rattle.rules.proofs.Protocol.Invariants.{at}

-- the site that holds key k
abbrev pub home : House → ℕ → ℕ
home house k = home_of house k

-- the i-th install at s has this pair
abbrev pub PairAt : Protocol → ℕ → ℕ → ℕ → ℕ → Type 0
PairAt p s i n c = ((at p s i).number ≡ n) × (coordinator_of (at p s i).tx ≡ c)

-- a part with these keys used k
abbrev pub UsedIn : Keys → ℕ → Type 0
UsedIn a k = (read_key a k ≡ true) ⊎ (wrote_key a k ≡ true)

pub record Commits (b : List Fact) (p : Protocol) : Type 0 where
  pub commit : (t n c : ℕ) → Member (book.committed t n c) b → (0 < p.num t) × (p.num t ≡ n) × (coordinator_of t ≡ c)
  pub committed : (t : ℕ) → 0 < p.num t → Member (book.committed t (p.num t) (coordinator_of t)) b

pub record Begins (b : List Fact) (p : Protocol) : Type 0 where
  pub began : (s t : ℕ) → Member (book.began s t) b → p.has s t ≡ true
  pub begun : (s t : ℕ) → p.has s t ≡ true → Member (book.began s t) b
  pub once : (s t : ℕ) → Before (book.began s t) (book.began s t) b → ⊥

pub record Writes (house : House) (b : List Fact) (p : Protocol) : Type 0 where
  pub wrote : (t k : ℕ) (v : Value) → Member (book.wrote t k v) b
      → (p.has (home house k) t ≡ true) × (wrote_key (p.keys (home house k) t) k ≡ true)
  pub last : (s t k : ℕ) → p.has s t ≡ true → wrote_key (p.keys s t) k ≡ true
      → (home house k ≡ s) × LastWrite b t k (wrote_value (p.keys s t) k)
  pub used : (t k : ℕ) → Member (book.used t k) b → (p.has (home house k) t ≡ true) × UsedIn (p.keys (home house k) t) k

pub record Installs (b : List Fact) (p : Protocol) : Type 0 where
  pub installed : (s n c : ℕ) → Member (book.installed s n c) b → (i : ℕ) × (i < length (inst p s)) × PairAt p s i n c
  pub installs : (s i n c : ℕ) → i < length (inst p s) → PairAt p s i n c → Member (book.installed s n c) b
  pub once : (s n c : ℕ) → Before (book.installed s n c) (book.installed s n c) b → ⊥
  pub many : (s : ℕ) → installs_in s b ≡ length (inst p s)

pub record Sees (b : List Fact) (p : Protocol) : Type 0 where
  pub seen : (s t n c : ℕ) → Before (book.installed s n c) (book.began s t) b → (i : ℕ) × (i < p.snap s t) × PairAt p s i n c
  pub before : (s t i n c : ℕ) → p.has s t ≡ true → i < p.snap s t → PairAt p s i n c → Before (book.installed s n c) (book.began s t) b

pub record Booked (house : House) (b : List Fact) (p : Protocol) : Type 0 where
  pub commits : Commits b p
  pub begins : Begins b p
  pub writes : Writes house b p
  pub installs : Installs b p
  pub sees : Sees b p
