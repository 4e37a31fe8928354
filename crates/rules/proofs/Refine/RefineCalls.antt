-- Each call of the list moves the whole machine on: a call of a site makes some moves, or none, the others are steps of the merger and
-- the copies, and they tell what the call tells.
use Prim.Native.Nat.{ℕ}
use mathlib.Core.Path.{refl}
use mathlib.Core.List.{List}
use Rattle.kinds.specs.declared.House.{House}
use Rattle.rules.specs.Effect.{Effect}
use Rattle.rules.specs.World.{World, Call, Handed, step, site_step, log_step}
use Rattle.rules.specs.World as world
use Rattle.rules.specs.Book.{Fact}
use Rattle.rules.proofs.Refine.RefineStep.{Follows, told_by}
use Rattle.rules.proofs.Refine.RefineBegin.{begin_moves}
use Rattle.rules.proofs.Refine.RefineAccess.{read_moves, write_moves}
use Rattle.rules.proofs.Refine.RefineEnlist.{enlist_moves}
use Rattle.rules.proofs.Refine.RefineCommit.{commit_moves, abandon_moves}
use Rattle.rules.proofs.Refine.RefineHanded.{message_moves}
use Rattle.rules.proofs.Refine.RefineLog.{install_moves, report_moves}
use Rattle.rules.proofs.Stream.Stream.{Stream}
use Rattle.rules.proofs.Stream.StreamReached.{Standing}
use Rattle.rules.proofs.Refine.RefineMerger.{StreamIs, Onward, site_onward}
use Rattle.rules.proofs.Refine.RefineMerge.{merge_onward}
use Rattle.rules.proofs.Refine.RefineEmit.{emit_onward}
use Rattle.rules.proofs.Refine.RefineReplay.{replay_onward, stays_onward}

module _ {house : House} {w : World} {v : Stream} (x : StreamIs house w v) (z : Standing house v) where
  site_call : {fs : List Fact} (s : ℕ) (e : Effect) (base : List ℕ) (lists : List ℕ)
      → Follows house v.protocol (site_step w s e base lists).world fs
      → Onward house v (site_step w s e base lists).world fs
  unfolding site_step
  site_call s e base lists f = site_onward x f refl refl refl refl refl refl

  log_call : {fs : List Fact} (s : ℕ) (e : Effect) (base : List ℕ) → Follows house v.protocol (log_step w s e base).world fs
      → Onward house v (log_step w s e base).world fs
  unfolding log_step
  log_call s e base f = site_onward x f refl refl refl refl refl refl

  pub call_onward : (c : Call) → Handed w c → Onward house v (step w c).world (told_by c (step w c).answer (step w c).words)
  unfolding step
  call_onward (world.begin s d) h = site_call s _ _ _ (begin_moves x.refines z.invariant s d)
  call_onward (world.enlist s out t n) h = site_call s _ _ _ (enlist_moves x.refines s out t n)
  call_onward (world.read s t k) h = site_call s _ _ _ (read_moves x.refines s t k)
  call_onward (world.write s t k a) h = site_call s _ _ _ (write_moves x.refines s t k a)
  call_onward (world.search s p k) h = stays_onward x z
  call_onward (world.commit s out t) h = site_call s _ _ _ (commit_moves x.refines z.invariant s out t)
  call_onward (world.abandon s out t) h = site_call s _ _ _ (abandon_moves x.refines z.invariant s out t)
  call_onward (world.message s out m) h = site_call s _ _ _ (message_moves x.refines z.invariant s out m h)
  call_onward (world.install s out) h = log_call s _ _ (install_moves x.refines s out)
  call_onward (world.report s out) h = log_call s _ _ (report_moves x.refines s out)
  call_onward (world.merge m) h = merge_onward x z m h
  call_onward (world.emit out) h = emit_onward x z out
  call_onward (world.replay c m) h = replay_onward x z c m h
  call_onward (world.value c k) h = stays_onward x z
