-- The gathered lists are joined in an array; its words are voted on, and sent.
use Prim.Native.Nat.{ℕ, ◌-◌, ◌*◌, ◌≤◌}
use mathlib.Core.Path.{◌≡◌, ap, ◌∙◌}
use mathlib.Core.List.{List}
use native.Mathlib.Omega.{arith}
use lib.ListN.{drop, length, take}
use Rattle.laws.specs.Overlay.{overlay, rest_is}
use Rattle.kinds.specs.Sizes as sizes
use Rattle.kinds.specs.declared.Site.{Site}
use Rattle.kinds.specs.declared.Turn.{Turn}
use Rattle.rules.specs.Certify.{vote_of}
use Rattle.rules.specs.Course.{cast_step}
use Rattle.rules.specs.Effect.{taken_of}
use Rattle.rules.specs.Join.{joined}
use Rattle.rules.proofs.JoinLaws.{join_whole}
use Rattle.rules.specs.Message.{entry_count}
use Rattle.lent.specs.Lent.{site_of}
use Rattle.handlers.proofs.Sends.{Written, written}
use Rattle.handlers.proofs.gather.joined_step.Goals as goal

-- the join of the lists from word o on, where these words are lent on as a part
joins : (d lists x : List ℕ) (o n k : ℕ) → let rest = take (length lists - o) (drop o lists) in
    k ≡ entry_count (joined rest n) → x ≡ overlay d (joined rest n) → Written x (joined (drop o lists) n) k
joins d lists x o n k e q = let r = rest_is lists o in written d x _ k (rw r at q) (rw r at e) (join_whole _ n)

same : (s : Site) (place : ℕ) (t : Turn) (v k : ℕ) (x es : List ℕ) → v ≡ vote_of s place x k → x ≡ es → k ≡ entry_count es
    → cast_step t v x ≡ cast_step t (vote_of s place es (entry_count es)) es
same s place t v k x es e f g = rw (e, f, g)

pub overflow_mul-e : goal.overflow_mul-e
overflow_mul-e c =
    let few : c.join-k.result ≤ sizes.cert_entries = omega (arith, c.join-k.ensures.upper_bound.0, c.requires.gathered.1) in
    omega (arith, few)

pub slice_bounds-list-end : goal.slice_bounds-list-end
slice_bounds-list-end c =
    let few : c.join-k.result ≤ sizes.cert_entries = omega (arith, c.join-k.ensures.upper_bound.0, c.requires.gathered.1) in
    omega (arith, few)

pub slice_bounds-vote_of-end : goal.slice_bounds-vote_of-end
slice_bounds-vote_of-end c =
    let at : ℕ = sizes.gathered * c.args.place in
    let sent : Written c.join-k.new.out (joined (drop at c.args.lists.now) c.args.n) c.join-k.result = let k = c.join-k.ensures in joins _ c.args.lists.now c.join-k.new.out at c.args.n c.join-k.result k.upper_bound.1 k.out_after in
    sent.long

pub vote_of-v-requires : goal.vote_of-v-requires
vote_of-v-requires c =
    let at : ℕ = sizes.gathered * c.args.place in
    let sent : Written c.join-k.new.out (joined (drop at c.args.lists.now) c.args.n) c.join-k.result = let k = c.join-k.ensures in joins _ c.args.lists.now c.join-k.new.out at c.args.n c.join-k.result k.upper_bound.1 k.out_after in
    let few : c.join-k.result ≤ sizes.cert_entries = omega (arith, c.join-k.ensures.upper_bound.0, c.requires.gathered.1) in
    let g = c.requires.gathered.0 in
    record { valid = g.possible; low = g.low; entries = record { few = few; lie = omega (arith, sent.long) } }

pub slice_bounds-list-end-2 : goal.slice_bounds-list-end-2
slice_bounds-list-end-2 c =
    let few : c.join-k.result ≤ sizes.cert_entries = omega (arith, c.join-k.ensures.upper_bound.0, c.requires.gathered.1) in
    omega (arith, few)

pub slice_bounds-cast_step-end : goal.slice_bounds-cast_step-end
slice_bounds-cast_step-end c =
    let at : ℕ = sizes.gathered * c.args.place in
    let sent : Written c.join-k.new.out (joined (drop at c.args.lists.now) c.args.n) c.join-k.result = let k = c.join-k.ensures in joins _ c.args.lists.now c.join-k.new.out at c.args.n c.join-k.result k.upper_bound.1 k.out_after in
    sent.long

pub cast_step-requires : goal.cast_step-requires
cast_step-requires c =
    let at : ℕ = sizes.gathered * c.args.place in
    let sent : Written c.join-k.new.out (joined (drop at c.args.lists.now) c.args.n) c.join-k.result = let k = c.join-k.ensures in joins _ c.args.lists.now c.join-k.new.out at c.args.n c.join-k.result k.upper_bound.1 k.out_after in
    let few : c.join-k.result ≤ sizes.cert_entries = omega (arith, c.join-k.ensures.upper_bound.0, c.requires.gathered.1) in
    (c.requires.can_send_all, sent.entries few)

pub returns : goal.returns
returns c =
    let at : ℕ = sizes.gathered * c.args.place in
    let handed : Site = let a = c.args in site_of a.p a.live.now a.history.now in
    let sent : Written c.join-k.new.out (joined (drop at c.args.lists.now) c.args.n) c.join-k.result = let k = c.join-k.ensures in joins _ c.args.lists.now c.join-k.new.out at c.args.n c.join-k.result k.upper_bound.1 k.out_after in
    let w = sent in
    let a = c.args in
    let q = same handed a.place a.t _ _ _ _ c.vote_of-v.ensures w.are w.count in
    record { value = c.cast_step.ensures.value ∙ ap taken_of q; out_after = c.cast_step.ensures.out_after ∙ ap (λ x. overlay a.out.now x.words) q }
