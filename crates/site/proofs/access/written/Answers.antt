-- The part with the key written is settled at its place.
use mathlib.Core.Path.{◌≡◌, ◌∙◌}
use mathlib.Core.List.{[]}
use Prim.Native.Nat.{ℕ}
use Rattle.kinds.specs.State.{sub_at, with_keys}
use Rattle.kinds.specs.declared.Value.{Value}
use Rattle.kinds.specs.declared.Keys.{Keys}
use Rattle.kinds.specs.declared.Site.{Site}
use Rattle.kinds.specs.declared.Taken.{Taken}
use Rattle.kinds.specs.declared.Turn.{Turn}
use Rattle.kinds.specs.declared.Answer.TheVariants.{Done}
use Rattle.rules.specs.Access.{written}
use Rattle.rules.specs.Course.{quietly, with_sub_of}
use Rattle.rules.specs.Effect.{taken_of, turn_at}
use Rattle.rules.specs.Keys.{with_write}
use Rattle.lent.specs.Lent.{site_of}
use Rattle.site.proofs.access.written.Goals as goal

-- the step of the rule
step-as : (s : Site) (place k : ℕ) (v : Value) (t : Turn) (more : Keys) (a : Taken) → t ≡ turn_at s place
    → more ≡ with_write t.sub.keys k v → a ≡ taken_of (record { answer = Done; words = []; turn = with_sub_of t (with_keys t.sub more) })
    → a ≡ taken_of (quietly (with_sub_of (turn_at s place) (with_keys (sub_at s place) (with_write (sub_at s place).keys k v))))
unfolding turn_at quietly
step-as s place k v t more a e f g = g ∙ rw (f, e)

pub with_write-more-requires : goal.with_write-more-requires
with_write-more-requires c =
    let p = c.requires.writable in
    (p.few, p.room)

pub settled-requires : goal.settled-requires
settled-requires c = c.requires.live_len

pub returns : goal.returns
unfolding written
returns c =
    λ h e.
    let a = c.args in
    let step = step-as (site_of a.p a.live.now h) a.place a.key a.value a.t _ _ e c.with_write-more.ensures c.with_keys.ensures in
    c.settled.ensures _ step h []
