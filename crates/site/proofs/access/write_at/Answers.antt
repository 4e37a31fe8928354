-- Refused by the first of the late causes, or written.
use mathlib.Core.Path.{◌≡◌, sym}
use mathlib.Core.List.{[]}
use Prim.Native.Nat.{ℕ, ◌<◌}
use native.Mathlib.Omega.{arith}
use Rattle.kinds.specs.Sizes as sizes
use Rattle.kinds.specs.State.{sub_at}
use Rattle.kinds.specs.declared.Value.{Value}
use Rattle.kinds.specs.declared.Site.{Site}
use Rattle.kinds.specs.declared.Turn.{Turn}
use Rattle.rules.specs.Access.{write_at, late_code}
use Rattle.rules.specs.CallLaws.{late_clear}
use Rattle.rules.specs.Desk.{limit_most}
use Rattle.rules.specs.Effect.{turn_at}
use Rattle.rules.specs.ValidLaws.{ValidSite, valid_site}
use Rattle.lent.specs.Laws.{lent_lengths}
use Rattle.lent.specs.Lent.{site_of}
use Rattle.shell.proofs.Refusals.{refuses}
use Rattle.site.specs.Accessed.{Writable}
use Rattle.site.proofs.access.write_at.Goals as goal

-- past all causes there is room for the key
writable : (s : Site) (place k : ℕ) (v : Value) (t : Turn) → place < sizes.live → t ≡ turn_at s place → ValidSite s
    → late_code s place k v ≡ 0 → Writable t.sub.keys k
unfolding turn_at
writable s place k v t l e valid f =
    rw e
    (record {
      few = (valid.part place l).keys.few_wrote;
      room = λ n. omega (arith, ((late_clear s place k v f).new n).room, limit_most (sub_at s place).desk);
    })

pub turn_at-t-requires : goal.turn_at-t-requires
turn_at-t-requires c = ((lent_lengths _ _ _ c.requires.possible).live, c.requires.low)

pub check_late-requires : goal.check_late-requires
check_late-requires c = (c.requires, c.turn_at-t.ensures c.args.history.now)

pub returns-in-Err : goal.returns-in-Err
unfolding write_at
returns-in-Err c = rw (refuses _ _ _ [] _ c.in-Err.ensures) (c.refused_by.ensures _ _ [])

pub written-requires : goal.written-requires
written-requires c =
    let a = c.args in
    let s = site_of a.p a.live.now a.history.now in
    let long = lent_lengths a.p a.live.now a.history.now c.requires.possible in
    let turned = c.turn_at-t.ensures a.history.now in
    record {
      live_len = (long.live, c.requires.low);
      writable = writable s a.place a.key a.value _ c.requires.low turned (valid_site s c.requires.possible) (sym c.in-Ok.ensures);
    }

pub returns-in-Ok : goal.returns-in-Ok
unfolding write_at
returns-in-Ok c = rw (← c.in-Ok.ensures) (c.written.ensures c.args.history.now (c.turn_at-t.ensures c.args.history.now))
