-- H3, and G1 to G6: a line as the call of the merger or of a copy, and what that call leaves.
use Rattle.std.specs.Prelude.{ℕ, ◌-◌, ◌*◌, ◌≡◌, refl, Bool, true, false, List, [], eqb, replicate}
use Rattle.laws.specs.Choice.{pick}
use Rattle.kinds.specs.Kind as kind
use Rattle.kinds.specs.Reason as reason
use Rattle.kinds.specs.Sizes as sizes
use Rattle.kinds.specs.declared.Answer.TheVariants.{Refused}
use Rattle.kinds.specs.declared.Merger.{Merger}
use Rattle.rules.specs.Record.{record_head}
use Rattle.rules.specs.Merger.{Merging, source_at, merge_part_code, merge_part, merge_state_code, merge_state, merge_code, merge_of, emit_of}
use Rattle.rules.specs.Copy.{Copying, replay_of, value_of}
use Rattle.routing.specs.Route.{copies}
use Rattle.lines.specs.declared.Command.{Command}
use Rattle.lines.specs.declared.Command.TheVariants as command

-- the words of all copies, one behind the other
abbrev pub all_copies : ℕ
all_copies = copies * sizes.copy

-- a copy that has replayed nothing
unfoldable pub fresh_copy : List ℕ
fresh_copy = replicate sizes.copy 0

-- a call of the merger, with an outgoing buffer of n words; m is the record to queue
unfoldable pub merging_of : Command → Merger → ℕ → (queues m : List ℕ) → Merging
merging_of command.Emit g n queues m = emit_of g n queues
merging_of (command.Sites sites given) g n queues m = merge_of g queues m
merging_of (command.Begin site d) g n queues m = merge_of g queues m
merging_of (command.Enlist tx site) g n queues m = merge_of g queues m
merging_of (command.Read site tx key) g n queues m = merge_of g queues m
merging_of (command.Write site tx key start long) g n queues m = merge_of g queues m
merging_of (command.Commit tx) g n queues m = merge_of g queues m
merging_of (command.Abandon tx) g n queues m = merge_of g queues m
merging_of (command.Take from to) g n queues m = merge_of g queues m
merging_of (command.Install site) g n queues m = merge_of g queues m
merging_of (command.Report site) g n queues m = merge_of g queues m
merging_of (command.Merge site) g n queues m = merge_of g queues m
merging_of (command.Replay copy) g n queues m = merge_of g queues m
merging_of (command.Value copy key) g n queues m = merge_of g queues m
merging_of command.Bad g n queues m = merge_of g queues m

-- Merge sends nothing.
quiet : (b : Bool) (e f : Merging) → e.words ≡ [] → f.words ≡ [] → (pick b e f).words ≡ []
quiet true e f p q = p
quiet false e f p q = q

pub merge_quiet : (g : Merger) (queues m : List ℕ) → (merge_of g queues m).words ≡ []
unfolding merge_of merge_part merge_state
merge_quiet g queues m =
    let r = record_head m in
    let c = source_at g (r.site - 1) in
    let part = quiet (eqb (merge_part_code c r) 0) _ _ refl refl in
    let state = quiet (eqb (merge_state_code c r) 0) _ _ refl refl in
    let queued = quiet (eqb r.kind kind.part) (merge_part g queues m) (merge_state g queues m) part state in
    quiet (eqb (merge_code g queues m) 0) _ _ queued refl

abbrev refused : List ℕ → Copying
refused copy = record { answer = Refused reason.malformed; copy = copy }

-- a call of the copy with these words; m is the record to replay
unfoldable pub copying_of : Command → (copy m : List ℕ) → Copying
copying_of (command.Replay number) copy m = replay_of copy m
copying_of (command.Value number key) copy m = record { answer = value_of copy key; copy = copy }
copying_of (command.Sites sites given) copy m = refused copy
copying_of (command.Begin site d) copy m = refused copy
copying_of (command.Enlist tx site) copy m = refused copy
copying_of (command.Read site tx key) copy m = refused copy
copying_of (command.Write site tx key start long) copy m = refused copy
copying_of (command.Commit tx) copy m = refused copy
copying_of (command.Abandon tx) copy m = refused copy
copying_of (command.Take from to) copy m = refused copy
copying_of (command.Install site) copy m = refused copy
copying_of (command.Report site) copy m = refused copy
copying_of (command.Merge site) copy m = refused copy
copying_of command.Emit copy m = refused copy
copying_of command.Bad copy m = refused copy
