-- The own list joined, and voted on.
use Prim.Native.Nat.{ℕ, ◌*◌, ◌≤◌}
use mathlib.Core.Path.{◌≡◌, sym, ap, ◌∙◌}
use mathlib.Core.List.{List}
use native.Mathlib.Omega.{arith}
use lib.ListN.{length, take}
use Rattle.kinds.specs.Sizes as sizes
use Rattle.kinds.specs.declared.Site.{Site}
use Rattle.kinds.specs.declared.Turn.{Turn}
use Rattle.rules.specs.Certify.{vote_of}
use Rattle.rules.specs.Course.{Entries, cast_step}
use Rattle.rules.specs.Join.{joined}
use Rattle.rules.proofs.JoinLaws.{join_back, length_join}
use Rattle.rules.specs.Message.{entry_count}
use Rattle.lent.specs.Lent.{site_of}
use Rattle.saves.proofs.commit.lone_step.Goals.{After-join-k}
use Rattle.saves.proofs.commit.lone_step.Goals as goal

-- whole entries that fit a message
entries : (es j : List ℕ) (k : ℕ) → es ≡ j → k ≡ entry_count j → length j ≡ sizes.entry * k → k ≤ sizes.conc_entries → Entries es
entries es j k e f l m = rw (e, ← f) (l, omega (arith, m))

-- the vote on the join, by the words at the start of the list
casts : (s : Site) (place : ℕ) (t : Turn) (es j : List ℕ) (k v : ℕ) → es ≡ j → k ≡ entry_count j → v ≡ vote_of s place es k
    → cast_step t v es ≡ cast_step t (vote_of s place j (entry_count j)) j
casts s place t es j k v e f g = rw (g, e, f)

-- the join is as few entries as the list, and stands at the start of its words
few : (c : After-join-k) → c.join-k.result ≤ sizes.conc_entries
few c = omega (arith, c.join-k.ensures.upper_bound.0, c.requires.own.few)

joins : (c : After-join-k) → take (sizes.entry * c.join-k.result) c.join-k.new.out ≡ joined c.args.own.now c.args.n
joins c = join_back _ c.args.own.now _ c.args.n c.join-k.result c.join-k.ensures.upper_bound.1 c.join-k.ensures.out_after

whole : (c : After-join-k) → length (joined c.args.own.now c.args.n) ≡ sizes.entry * c.join-k.result
whole c = length_join c.args.own.now c.args.n c.join-k.result c.join-k.ensures.upper_bound.1

long : (c : After-join-k) → length (take (sizes.entry * c.join-k.result) c.join-k.new.out) ≡ sizes.entry * c.join-k.result
long c = ap length (joins c) ∙ whole c

pub overflow_mul-e : goal.overflow_mul-e
overflow_mul-e c = omega (arith, few (goal.at.overflow_mul-e c).After-join-k)

pub slice_bounds-list-end : goal.slice_bounds-list-end
slice_bounds-list-end c = omega (arith, few (goal.at.slice_bounds-list-end c).After-join-k)

pub slice_bounds-vote_of-end : goal.slice_bounds-vote_of-end
slice_bounds-vote_of-end c = sym (long (goal.at.slice_bounds-vote_of-end c).After-join-k)

pub vote_of-v-requires : goal.vote_of-v-requires
vote_of-v-requires c =
    let at = (goal.at.vote_of-v-requires c).After-join-k in
    let own = c.requires.own in
    record {
      valid = own.possible;
      low = own.low;
      entries = record { few = omega (arith, few at); lie = omega (arith, long at) };
    }

pub slice_bounds-list-end-2 : goal.slice_bounds-list-end-2
slice_bounds-list-end-2 c = omega (arith, few (goal.at.slice_bounds-list-end-2 c).After-join-k)

pub slice_bounds-cast_step-end : goal.slice_bounds-cast_step-end
slice_bounds-cast_step-end c = sym (long (goal.at.slice_bounds-cast_step-end c).After-join-k)

pub cast_step-requires : goal.cast_step-requires
cast_step-requires c =
    let at = (goal.at.cast_step-requires c).After-join-k in
    (c.requires.can_send_all, entries _ _ c.join-k.result (joins at) c.join-k.ensures.upper_bound.1 (whole at) (few at))

pub returns : goal.returns
returns c =
    let a = c.args in
    let s = site_of a.p a.live.now a.history.now in
    let back = joins (goal.at.returns c).After-join-k in
    let e = casts s a.place a.t _ _ _ _ back c.join-k.ensures.upper_bound.1 c.vote_of-v.ensures in
    record { value = rw (← e) c.cast_step.ensures.value; out_after = rw (← e) c.cast_step.ensures.out_after }
