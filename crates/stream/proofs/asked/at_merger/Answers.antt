-- Any line but `emit` queues its record.
use Rattle.std.proofs.Common.{◌≡◌, ℕ, List, refl}
use Rattle.laws.specs.Overlay.{overlay, overlay_none}
use Rattle.kinds.specs.declared.Merger.{Merger}
use Rattle.rules.specs.Merger.{merge_of}
use Rattle.lines.specs.declared.Command.{Command}
use Rattle.lines.specs.declared.Command.TheVariants as command
use Rattle.stream.specs.Asked.{merging_of, merge_quiet}
use Rattle.stream.proofs.asked.at_merger.Goals as goal

other : (c : Command) (g : Merger) (n : ℕ) (queues m : List ℕ) → (c ≡ command.Emit → ⊥) → merging_of c g n queues m ≡ merge_of g queues m
unfolding merging_of
other command.Emit g n queues m k = absurd (k refl)
other (command.Sites a given) g n queues m k = refl
other (command.Begin a d) g n queues m k = refl
other (command.Enlist a b) g n queues m k = refl
other (command.Read a b d) g n queues m k = refl
other (command.Write a b d e f) g n queues m k = refl
other (command.Commit a) g n queues m k = refl
other (command.Abandon a) g n queues m k = refl
other (command.Take a b) g n queues m k = refl
other (command.Install a) g n queues m k = refl
other (command.Report a) g n queues m k = refl
other (command.Merge a) g n queues m k = refl
other (command.Replay a) g n queues m k = refl
other (command.Value a b) g n queues m k = refl
other command.Bad g n queues m k = refl

-- what a merge leaves of the buffer
nothing : (g : Merger) (queues m out : List ℕ) → out ≡ overlay out (merge_of g queues m).words
nothing g queues m out = rw (merge_quiet g queues m) (overlay_none out)

pub returns-in_default : goal.returns-in_default
returns-in_default c =
    let a = c.args in
    rw (other a.c a.g _ _ _ c.in_default.not-Emit, ← c.front.ensures)
    (record {
      value = c.merge.ensures.value;
      queues_after = c.merge.ensures.queues_after;
      out_after = nothing _ _ _ _;
    })
