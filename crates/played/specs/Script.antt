-- Scripts as `house` has them (H1 to H20): a line is a call. Where it hands in words they are named: a message by its channel and its
-- number there, a record by its place in its site's log, a merged one by its place in the stream, all from 1. `commit_at` asks any site;
-- no line of `house` does that, or is a search.
use Rattle.std.specs.Prelude.{ℕ, ◌-◌, Bool, List, [], ◌∷◌, map, length, replicate, get_or, eqb}
use Rattle.laws.specs.Choice.{every}
use Rattle.laws.specs.Scan.{first_below}
use Rattle.kinds.specs.Sizes as sizes
use Rattle.kinds.specs.declared.Value.{Value}
use Rattle.kinds.specs.declared.Answer.{Answer}
use Rattle.kinds.specs.declared.House.{House}
use Rattle.rules.specs.House.{house_of, even_table, coordinator_of}
use Rattle.rules.specs.Message.{message_head}
use Rattle.rules.specs.World.{World, Call, step, fresh_world}
use Rattle.rules.specs.World as world

pub data Line : Type 0 where
  begin : (s desk : ℕ) → Line
  enlist : (tx site : ℕ) → Line
  read : (s tx key : ℕ) → Line
  write : (s tx key start length : ℕ) → Line
  search : (s snapshot key : ℕ) → Line
  commit : (tx : ℕ) → Line
  commit_at : (s tx : ℕ) → Line
  abandon : (tx : ℕ) → Line
  take : (from to number : ℕ) → Line
  install : (s : ℕ) → Line
  report : (s : ℕ) → Line
  merge : (s place : ℕ) → Line
  emit : Line
  replay : (copy place : ℕ) → Line
  value : (copy key : ℕ) → Line

-- the value of a start and a length
abbrev pub highlight : ℕ → ℕ → Value
highlight start n = record { start = start; length = n }

-- a buffer of n words
abbrev pub room : ℕ → List ℕ
room n = replicate n 0

-- m is message number n from one site to another
unfoldable pub is_numbered : ℕ → ℕ → ℕ → List ℕ → Bool
is_numbered from to n m = every (eqb (message_head m).from from ∷ eqb (message_head m).to to ∷ eqb (message_head m).channel n ∷ [])

-- where it stands among all that were sent, or behind them
unfoldable pub sent_at : List (List ℕ) → ℕ → ℕ → ℕ → ℕ
sent_at sent from to n = first_below (λ i. is_numbered from to n (get_or sent i [])) (length sent)

-- the call of a line, in the world that it meets
unfoldable pub call_of : World → Line → Call
call_of w (begin s d) = world.begin s d
call_of w (enlist tx site) = world.enlist (coordinator_of tx) (room sizes.outgoing) tx site
call_of w (read s tx key) = world.read s tx key
call_of w (write s tx key start n) = world.write s tx key (highlight start n)
call_of w (search s snapshot key) = world.search s snapshot key
call_of w (commit tx) = world.commit (coordinator_of tx) (room sizes.outgoing) tx
call_of w (commit_at s tx) = world.commit s (room sizes.outgoing) tx
call_of w (abandon tx) = world.abandon (coordinator_of tx) (room sizes.outgoing) tx
call_of w (take from to n) = world.message to (room sizes.outgoing) (get_or w.sent (sent_at w.sent from to n) [])
call_of w (install s) = world.install s (room sizes.part)
call_of w (report s) = world.report s (room sizes.part)
call_of w (merge s place) = world.merge (get_or (w.log s) (place - 1) [])
call_of w emit = world.emit (room sizes.merged)
call_of w (replay copy place) = world.replay copy (get_or w.stream (place - 1) [])
call_of w (value copy key) = world.value copy key

unfoldable pub calls_from : World → List Line → List Call
calls_from w [] = []
calls_from w (l ∷ ls) = call_of w l ∷ calls_from (step w (call_of w l)).world ls

-- what each call of a list answers
unfoldable pub answers_from : World → List Call → List Answer
answers_from w [] = []
answers_from w (c ∷ cs) = (step w c).answer ∷ answers_from (step w c).world cs

-- A line with its answer.
pub record Told : Type 0 where
  pub line : Line
  pub answer : Answer

infix 70 ◌⟶◌
abbrev pub ◌⟶◌ : Line → Answer → Told
l ⟶ a = record { line = l; answer = a }

unfoldable pub lines_of : List Told → List Line
lines_of script = map (λ (t : Told). t.line) script

unfoldable pub answers_of : List Told → List Answer
answers_of script = map (λ (t : Told). t.answer) script

-- a house of n sites with the table 0, 256 and so on
abbrev pub even : ℕ → House
even n = house_of n (even_table n)

-- the calls that a script makes in a fresh house
unfoldable pub calls_of : House → List Told → List Call
calls_of o script = calls_from (fresh_world o) (lines_of script)
