-- Demand 3, the book: fed the list's calls, their answers and the words they wrote; it never looks into a state.
use Rattle.std.specs.Prelude.{ℕ, List, [], ◌∷◌, ◌++◌, get_or, eqb}
use Rattle.laws.specs.Choice.{pick, every}
use Rattle.kinds.specs.Kind as kind
use Rattle.kinds.specs.Reason as reason
use Rattle.kinds.specs.Word as word
use Rattle.kinds.specs.declared.Value.{Value}
use Rattle.kinds.specs.declared.Answer.{Answer}
use Rattle.rules.specs.House.{coordinator_of}
use Rattle.rules.specs.Message.{message_head}
use Rattle.rules.specs.Answers.{on_begun, on_found, on_done, on_committed, on_installed, on_replayed}
use Rattle.rules.specs.World as world
use Rattle.rules.specs.World.{Call, World, step}

-- What the book writes down, in order.
pub data Fact : Type 0 where
  began : (s tx : ℕ) → Fact
  used : (tx key : ℕ) → Fact
  wrote : (tx key : ℕ) (value : Value) → Fact
  committed : (tx number coordinator : ℕ) → Fact
  installed : (s number coordinator : ℕ) → Fact
  replayed : (copy number coordinator : ℕ) → Fact

-- a commit or taken VOTE that returns a commit number, and no reason of abort, commits its transaction
abbrev pub commits : ℕ → Answer → List Fact
commits tx = on_committed [] (λ n. committed tx n (coordinator_of tx) ∷ [])

-- begin, or taking a JOIN answered 0, begins the transaction's part at that site
abbrev pub begins : ℕ → Answer → List Fact
begins s = on_begun [] (λ tx. began s tx ∷ [])

abbrev pub joins : ℕ → List ℕ → List ℕ → Answer → List Fact
joins s m words =
    on_done []
    (pick (every (eqb (message_head m).kind kind.join ∷ eqb (get_or words word.argument reason.full) 0 ∷ []))
    (began s (message_head m).tx ∷ []) [])

-- reads and writes use their key; a write sets its transaction's value for it
abbrev pub uses : ℕ → ℕ → Answer → List Fact
uses tx key = on_found [] (λ v. used tx key ∷ [])

abbrev pub writes : ℕ → ℕ → Value → Answer → List Fact
writes tx key v = on_done [] (used tx key ∷ wrote tx key v ∷ [])

-- An install that answers a pair installs that transaction at site s. A replay that answers a pair moves its copy to that pair.
abbrev pub installs : ℕ → Answer → List Fact
installs s = on_installed [] (λ n c. installed s n c ∷ [])

abbrev pub replays : ℕ → Answer → List Fact
replays copy = on_replayed [] (λ n c. replayed copy n c ∷ [])

-- what one call adds; refused calls leave it
abbrev pub facts_of : Call → Answer → List ℕ → List Fact
facts_of (world.begin s d) a words = begins s a
facts_of (world.read s tx key) a words = uses tx key a
facts_of (world.write s tx key v) a words = writes tx key v a
facts_of (world.commit s out tx) a words = commits tx a
facts_of (world.message s out m) a words = joins s m words a ++ commits (message_head m).tx a
facts_of (world.install s out) a words = installs s a
facts_of (world.replay copy m) a words = replays copy a
facts_of (world.enlist s out tx site) a words = []
facts_of (world.abandon s out tx) a words = []
facts_of (world.search s p key) a words = []
facts_of (world.report s out) a words = []
facts_of (world.merge m) a words = []
facts_of (world.emit out) a words = []
facts_of (world.value copy key) a words = []

-- the book of a list of calls, from a world on
unfoldable pub book_from : World → List Call → List Fact
book_from w [] = []
book_from w (c ∷ cs) = facts_of c (step w c).answer (step w c).words ++ book_from (step w c).world cs
