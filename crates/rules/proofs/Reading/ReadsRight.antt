-- Reads, proved: after any lawful list each key of a part stands once among its writes, and each site's base values are what its forgotten
-- installs left. So a read finds its version in the history, or below it.
use Prim.Native.Nat.{◌*◌, ◌≤◌}
use mathlib.Core.Path.{sym, ◌∙◌}
use mathlib.Core.Logic.{inl, inr}
use native.Mathlib.Omega.{arith}
use Rattle.rules.specs.ValueLaws.{value_zeros}
use Rattle.kinds.specs.Sizes as sizes
use Rattle.kinds.specs.declared.House.{House}
use Rattle.rules.specs.History.{forgotten}
use Rattle.rules.specs.Install.{start_code}
use Rattle.rules.specs.World.{World, firsts_of, fresh_world}
use Rattle.rules.specs.Reads.{ReadsRight}
use Rattle.rules.proofs.Protocol.Protocol.{fresh_protocol}
use Rattle.rules.proofs.Book.BookKept.{at_same}
use Rattle.rules.proofs.Refine.RefineFresh.{fresh_table}
use Rattle.rules.proofs.Stream.Stream.{Stream, Steps, fresh_stream}
use Rattle.rules.proofs.Stream.StreamReached.{Standing, standing_steps}
use Rattle.rules.proofs.Refine.RefineMerger.{StreamIs}
use Rattle.rules.proofs.Demand.Stands.{Keeps, list_stands}
use Rattle.rules.proofs.Book.Told.{told_steps}
use Rattle.rules.proofs.Reading.MovesTold.{WritesOnce, writes_fresh, writes_steps, installs_steps, stays_steps}
use Rattle.rules.proofs.Reading.Versions.{left_none}
use Rattle.rules.proofs.Reading.BasesKept.{BasesAre, bases_kept, bases_installed}
use Rattle.rules.proofs.Reading.LiveOnce.{once_held}
use Rattle.rules.proofs.Reading.CallsKept.{KeysStay, BasesStay, call_kept}
use Rattle.rules.proofs.Reading.ReadAnswers.{read_is, read_left}

-- A house whose reads are right.
pub record Reads (house : House) (w : World) (v : Stream) : Type 0 where
  pub once : WritesOnce v.protocol
  pub bases : BasesAre house w v.protocol

-- After some steps that lead to the world x.
module _ {house : House} {w x : World} {v u : Stream} (few : house.sites ≤ 8) (i : StreamIs house w v) (z : Standing house v)
    (r : Reads house w v)
    (ss : Steps house v u)
    (y : StreamIs house x u) where
  once_after : KeysStay house x (told_steps ss) → WritesOnce u.protocol
  once_after (inl n) = writes_steps few z ss n r.once
  once_after (inr (n, o)) =
      let same = installs_steps few z ss n in
      record {
        held = once_held y.refines (standing_steps few ss z).invariant o;
        entry = λ s j h. rw (at_same v.protocol u.protocol same s j) (r.once.entry s j (rw (same s) at h));
      }

  bases_after : BasesStay w x (told_steps ss) → BasesAre house x u.protocol
  bases_after (inl (n, e)) = bases_kept house w x v.protocol u.protocol e (installs_steps few z ss n) r.bases
  bases_after (inr (s, k)) = bases_installed i.refines y.refines r.once (stays_steps few z ss) r.bases s k

pub call_reads : {house : House} → house.sites ≤ 8 → Keeps (Reads house) house
call_reads few w v u c h i z ss e j m =
    let k = call_kept i.refines z.invariant m.once c in
    record { once = once_after few i z m ss j (rw e k.keys); bases = bases_after few i z m ss j (rw e k.bases) }

-- nothing is forgotten of no installs
bases_fresh : (house : House) → BasesAre house (fresh_world house) fresh_protocol
unfolding fresh_world fresh_protocol forgotten
bases_fresh house s k l h low =
    rw (fresh_table (start_code house.sites (firsts_of house) s sizes.base sizes.lists) sizes.base)
    (value_zeros sizes.base (sizes.value * k) (omega arith) ∙ sym (left_none _ k))

pub fresh_reads : (house : House) → Reads house (fresh_world house) fresh_stream
unfolding fresh_stream
fresh_reads house = record { once = writes_fresh; bases = bases_fresh house }

pub reads_right : ReadsRight
unfolding ReadsRight
reads_right house calls good lawful s t k v e =
    let few = good.few in
    let x = list_stands (Reads house) few (call_reads few) good (fresh_reads house) calls lawful in
    read_left few x.standing.invariant x.booked s t k v
    (read_is x.is.refines x.standing.invariant x.more.bases s t k v e)
