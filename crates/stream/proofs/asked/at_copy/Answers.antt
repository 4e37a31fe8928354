-- The part that is lent is the copy's own words, and what the call leaves of them is laid back there.
use Rattle.std.proofs.Common.{◌≡◌, ℕ, ◌<◌, List, length, refl, ◌∙◌}
use Rattle.kinds.specs.Reason as reason
use Rattle.kinds.specs.Sizes as sizes
use Rattle.kinds.specs.declared.Answer.{Answer}
use Rattle.kinds.specs.declared.Answer.TheVariants.{Refused}
use Rattle.rules.specs.Copy.{replay_of, value_of}
use Rattle.lines.specs.declared.Command.{Command}
use Rattle.lines.specs.declared.Command.TheVariants as command
use Rattle.pieces.specs.Own.{own, Only, lent, relaid, lent_own, laid}
use Rattle.routing.specs.Route.{copies}
use Rattle.stream.specs.Asked.{all_copies, copying_of}
use Rattle.stream.proofs.asked.at_copy.Goals as goal

-- what a call of a copy with these words promises
abbrev Made : Command → (copy m : List ℕ) → Answer → List ℕ → Type 0
Made c copy m a v = (a ≡ (copying_of c copy m).answer) × (v ≡ (copying_of c copy m).copy)

record Leaves (c : Command) (i : ℕ) (tables m : List ℕ) (a : Answer) (left : List ℕ) : Type 0 where
  value : a ≡ (copying_of c (own sizes.copy i tables) m).answer
  tables_after : own sizes.copy i left ≡ (copying_of c (own sizes.copy i tables) m).copy
  only : Only sizes.copy i tables left

leaves : (c : Command) (i : ℕ) (tables m : List ℕ) (a : Answer) (v : List ℕ) → i < copies → length tables ≡ all_copies
    → length v ≡ length (lent sizes.copy i tables) → Made c (lent sizes.copy i tables) m a v → Leaves c i tables m a
    (relaid sizes.copy i tables v)
leaves c i tables m a v low many kept promised =
    let w = laid sizes.copy i copies tables v low many kept in
    let made = rw (lent_own sizes.copy i tables) at promised in
    record { value = made.0; tables_after = w.here ∙ made.1; only = w.only }

-- the lines `replay` and `value`
replay_made : (c : Command) (number : ℕ) (copy m : List ℕ) (a : Answer) (v : List ℕ) → c ≡ command.Replay number
    → a ≡ (replay_of copy m).answer → v ≡ (replay_of copy m).copy → Made c copy m a v
unfolding copying_of
replay_made c number copy m a v e p q = rw e (p, q)

value_made : (c : Command) (number key : ℕ) (copy m : List ℕ) (a : Answer) → c ≡ command.Value number key → a ≡ value_of copy key
    → Made c copy m a copy
unfolding copying_of
value_made c number key copy m a e p = rw e (p, refl)

-- a line that is none of a copy's is refused
other : (c : Command) (copy m : List ℕ) → ((x : ℕ) → c ≡ command.Replay x → ⊥) → ((x y : ℕ) → c ≡ command.Value x y → ⊥)
    → Made c copy m (Refused reason.malformed) copy
unfolding copying_of
other (command.Replay a) copy m j k = absurd (j a refl)
other (command.Value a b) copy m j k = absurd (k a b refl)
other (command.Sites a given) copy m j k = (refl, refl)
other (command.Begin a d) copy m j k = (refl, refl)
other (command.Enlist a b) copy m j k = (refl, refl)
other (command.Read a b d) copy m j k = (refl, refl)
other (command.Write a b d e f) copy m j k = (refl, refl)
other (command.Commit a) copy m j k = (refl, refl)
other (command.Abandon a) copy m j k = (refl, refl)
other (command.Take a b) copy m j k = (refl, refl)
other (command.Install a) copy m j k = (refl, refl)
other (command.Report a) copy m j k = (refl, refl)
other (command.Merge a) copy m j k = (refl, refl)
other command.Emit copy m j k = (refl, refl)
other command.Bad copy m j k = (refl, refl)

pub returns-in-Replay : goal.returns-in-Replay
returns-in-Replay c =
    let a = c.args in
    let made = replay_made a.c _ _ _ _ _ c.in-Replay.is c.replay.ensures.value c.replay.ensures.copy_after in
    let l = leaves a.c a.i a.tables.now _ _ _ c.requires.0 c.requires.1 c.replay.auto.copy made in
    rw (← c.front.ensures) (record { value = l.value; tables_after = l.tables_after; only = l.only })

pub returns-in-Value : goal.returns-in-Value
returns-in-Value c =
    let a = c.args in
    let made = value_made a.c _ _ _ _ _ c.in-Value.is c.value.ensures in
    let l = leaves a.c a.i a.tables.now _ _ _ c.requires.0 c.requires.1 refl made in
    record { value = l.value; tables_after = l.tables_after; only = l.only }

pub returns-in_default : goal.returns-in_default
returns-in_default c =
    let a = c.args in
    let l = leaves a.c a.i a.tables.now _ _ _ c.requires.0 c.requires.1 refl (other a.c _ _ c.in_default.not-Replay c.in_default.not-Value) in
    record { value = l.value; tables_after = l.tables_after; only = l.only }
