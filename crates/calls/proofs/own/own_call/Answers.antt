-- Each arm leaves what the call that it makes promises.
use Rattle.std.proofs.Common.{◌≡◌, ℕ, List, [], refl}
use Rattle.laws.specs.Overlay.{overlay, overlay_none}
use Rattle.kinds.specs.Reason as reason
use Rattle.kinds.specs.declared.Core.{Core}
use Rattle.kinds.specs.declared.Reply.{Reply}
use Rattle.rules.specs.Effect.{refused}
use Rattle.lent.specs.Lent.{site_of, Replied}
use Rattle.lines.specs.declared.Command.{Command}
use Rattle.lines.specs.declared.Command.TheVariants as command
use Rattle.calls.specs.Calls.{OwnLeaves, effect_of, base_left, lists_left, begin_quiet, read_quiet, write_quiet}
use Rattle.calls.proofs.own.own_call.Goals as goal

-- what a call without words leaves of the buffer
nothing : (out ws : List ℕ) → ws ≡ [] → out ≡ overlay out ws
nothing out ws e = rw e (overlay_none out)

-- what the line leaves, where its effect is a refusal
abbrev Leaves : Core → Command → List ℕ → List ℕ → List ℕ → List ℕ → List ℕ → Reply → Type 0
Leaves p c w h base lists out r = OwnLeaves c p w h base lists out r w h base lists out

-- a line that is none of a site's is refused
record Other (c : Command) : Type 0 where
  begin : (a d : ℕ) → c ≡ command.Begin a d → ⊥
  enlist : (a b : ℕ) → c ≡ command.Enlist a b → ⊥
  read : (a b d : ℕ) → c ≡ command.Read a b d → ⊥
  write : (a b d e f : ℕ) → c ≡ command.Write a b d e f → ⊥
  commit : (a : ℕ) → c ≡ command.Commit a → ⊥
  abandon : (a : ℕ) → c ≡ command.Abandon a → ⊥
  install : (a : ℕ) → c ≡ command.Install a → ⊥
  report : (a : ℕ) → c ≡ command.Report a → ⊥

other : (p : Core) (c : Command) (w h base lists out : List ℕ) (r : Reply) → Other c
    → Replied p w h r w h (refused reason.malformed (site_of p w h) []) → Leaves p c w h base lists out r
unfolding effect_of base_left lists_left
other p (command.Sites n given) w h base lists out r k e = (e, (refl, (refl, overlay_none out)))
other p (command.Take from to) w h base lists out r k e = (e, (refl, (refl, overlay_none out)))
other p (command.Merge site) w h base lists out r k e = (e, (refl, (refl, overlay_none out)))
other p command.Emit w h base lists out r k e = (e, (refl, (refl, overlay_none out)))
other p (command.Replay copy) w h base lists out r k e = (e, (refl, (refl, overlay_none out)))
other p (command.Value copy key) w h base lists out r k e = (e, (refl, (refl, overlay_none out)))
other p command.Bad w h base lists out r k e = (e, (refl, (refl, overlay_none out)))
other p (command.Begin a d) w h base lists out r k e = absurd (k.begin a d refl)
other p (command.Enlist a b) w h base lists out r k e = absurd (k.enlist a b refl)
other p (command.Read a b d) w h base lists out r k e = absurd (k.read a b d refl)
other p (command.Write a b d f g) w h base lists out r k e = absurd (k.write a b d f g refl)
other p (command.Commit a) w h base lists out r k e = absurd (k.commit a refl)
other p (command.Abandon a) w h base lists out r k e = absurd (k.abandon a refl)
other p (command.Install a) w h base lists out r k e = absurd (k.install a refl)
other p (command.Report a) w h base lists out r k e = absurd (k.report a refl)

pub returns-in-Begin : goal.returns-in-Begin
unfolding effect_of base_left lists_left
returns-in-Begin c = rw c.in-Begin.is (c.begin.ensures, (refl, (refl, nothing _ _ (begin_quiet _ _))))

pub returns-in-Read : goal.returns-in-Read
unfolding effect_of base_left lists_left
returns-in-Read c = rw c.in-Read.is (c.read.ensures, (refl, (refl, nothing _ _ (read_quiet _ _ _ _))))

pub returns-in-Write : goal.returns-in-Write
unfolding effect_of base_left lists_left
returns-in-Write c = rw c.in-Write.is (c.write.ensures, (refl, (refl, nothing _ _ (write_quiet _ _ _ _))))

pub returns-in_default : goal.returns-in_default
returns-in_default c =
    let a = c.args in
    let d = c.in_default in
    let k : Other a.c =
    record {
      begin = d.not-Begin;
      enlist = d.not-Enlist;
      read = d.not-Read;
      write = d.not-Write;
      commit = d.not-Commit;
      abandon = d.not-Abandon;
      install = d.not-Install;
      report = d.not-Report;
    } in
    other a.p a.c _ _ _ _ _ _ k (c.refused_by.ensures _ _ [])
