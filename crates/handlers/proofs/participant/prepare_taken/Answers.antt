-- The site's list is written into an array, and its words are sent, or a vote of 19.
use Prim.Native.Nat.{ℕ}
use mathlib.Core.Path.{◌≡◌, ap, ◌∙◌}
use mathlib.Core.Bool.{Bool}
use mathlib.Core.List.{List}
use native.Mathlib.Omega.{arith}
use borrow.Author.Rules.{rules}
use Rattle.laws.specs.Overlay.{overlay}
use Rattle.kinds.specs.declared.MessageHead.{MessageHead}
use Rattle.kinds.specs.declared.Turn.{Turn}
use Rattle.rules.specs.Certify.{concurrent}
use Rattle.rules.proofs.CertifyLaws.{concurrent_whole}
use Rattle.rules.specs.Course.{prepared_step}
use Rattle.rules.specs.Effect.{taken_of}
use Rattle.lent.specs.Lent.{site_of}
use Rattle.handlers.proofs.Sends.{Written, written}
use Rattle.handlers.proofs.participant.prepare_taken.Goals as goal

same : (t : Turn) (h : MessageHead) (a b : Bool) (es fs : List ℕ) → a ≡ b → es ≡ fs
    → prepared_step t h.from h.argument a es ≡ prepared_step t h.from h.argument b fs
same t h a b es fs e f = rw (e, f)

pub concurrent-n-requires : goal.concurrent-n-requires
concurrent-n-requires c =
    let s = c.requires.history_value in
    record { valid = s.0; low = s.1; room = search rules }

pub overflow_mul-e : goal.overflow_mul-e
overflow_mul-e c = omega (arith, c.concurrent-n.ensures.fact.0)

pub slice_bounds-list-end : goal.slice_bounds-list-end
slice_bounds-list-end c = omega (arith, c.concurrent-n.ensures.fact.0)

pub slice_bounds-prepared_step-end : goal.slice_bounds-prepared_step-end
slice_bounds-prepared_step-end c =
    let list : List ℕ = let a = c.args in concurrent (site_of a.p a.live.now a.history.now) a.place in
    let sent : Written c.concurrent-n.new.out list c.concurrent-n.result = let k = c.concurrent-n.ensures in written _ _ list c.concurrent-n.result k.out_after k.fact.1 (concurrent_whole _ _) in
    sent.long

pub prepared_step-requires : goal.prepared_step-requires
prepared_step-requires c =
    let list : List ℕ = let a = c.args in concurrent (site_of a.p a.live.now a.history.now) a.place in
    let sent : Written c.concurrent-n.new.out list c.concurrent-n.result = let k = c.concurrent-n.ensures in written _ _ list c.concurrent-n.result k.out_after k.fact.1 (concurrent_whole _ _) in
    (c.requires.can_send_to, sent.entries (omega (arith, c.concurrent-n.ensures.fact.0)))

pub returns : goal.returns
returns c =
    let list : List ℕ = let a = c.args in concurrent (site_of a.p a.live.now a.history.now) a.place in
    let sent : Written c.concurrent-n.new.out list c.concurrent-n.result = let k = c.concurrent-n.ensures in written _ _ list c.concurrent-n.result k.out_after k.fact.1 (concurrent_whole _ _) in
    let a = c.args in
    let q = same a.t a.h _ _ _ _ c.is_forgotten-lost.ensures sent.are in
    record { value = c.prepared_step.ensures.value ∙ ap taken_of q; out_after = c.prepared_step.ensures.out_after ∙ ap (λ x. overlay a.out.now x.words) q }
