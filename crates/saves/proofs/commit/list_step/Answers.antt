-- The list is laid at its place among the gathered ones, and the request goes on with it.
use Prim.Native.Nat.{ℕ, ◌-◌, ◌*◌}
use mathlib.Core.Path.{◌≡◌, sym, ap, ◌∙◌}
use mathlib.Core.List.{List, ◌++◌}
use native.Mathlib.Omega.{arith}
use borrow.Author.Rules.{rules}
use lib.ListN.{length, drop, take}
use Rattle.laws.specs.Overlay.{length_rest, overlay, overlay_back, put_part, put_at}
use Rattle.kinds.specs.Sizes as sizes
use Rattle.rules.specs.Certify.{concurrent}
use Rattle.rules.proofs.CertifyLaws.{concurrent_whole}
use Rattle.lent.specs.Lent.{site_of}
use Rattle.saves.proofs.commit.list_step.Goals.{After-concurrent-n}
use Rattle.saves.proofs.commit.list_step.Goals as goal

taken_back : (d ws l : List ℕ) (k : ℕ) → l ≡ overlay d ws → length ws ≡ k → take k l ≡ ws
taken_back d ws l k e f = rw e (overlay_back d ws k f)

-- words copied over the rest of others are laid into them
laid : (d ys ws l : List ℕ) (a : ℕ) → ys ≡ overlay (take (length d - a) (drop a d)) ws → ws ≡ l
    → take a d ++ (ys ++ drop (length d - a) (drop a d)) ≡ put_at a d l
laid d ys ws l a e f = put_part d ys l a (rw (← f) e)

-- the list that is written, in words whole entries,
whole : (c : After-concurrent-n)
    → length (concurrent (site_of c.args.p c.args.live.now c.args.history.now) c.args.place) ≡ sizes.entry * c.concurrent-n.result
whole c =
    let s = site_of c.args.p c.args.live.now c.args.history.now in
    omega (arith, concurrent_whole s c.args.place, c.concurrent-n.ensures.fact.1)

-- stands at the start of its words
listed : (c : After-concurrent-n)
    → take (sizes.entry * c.concurrent-n.result) c.concurrent-n.new.out
    ≡ concurrent (site_of c.args.p c.args.live.now c.args.history.now) c.args.place
listed c = taken_back _ _ _ _ c.concurrent-n.ensures.out_after (whole c)

long : (c : After-concurrent-n)
    → length (take (sizes.entry * c.concurrent-n.result) c.concurrent-n.new.out) ≡ sizes.entry * c.concurrent-n.result
long c = ap length (listed c) ∙ whole c

pub concurrent-n-requires : goal.concurrent-n-requires
concurrent-n-requires c = record { valid = c.requires.placed.0.possible; low = c.requires.placed.0.low; room = search rules }

pub overflow_mul-e : goal.overflow_mul-e
overflow_mul-e c = omega (arith, c.concurrent-n.ensures.fact.0)

pub slice_bounds-own-end : goal.slice_bounds-own-end
slice_bounds-own-end c = omega (arith, c.concurrent-n.ensures.fact.0)

pub slice_bounds-copy_words-end-2 : goal.slice_bounds-copy_words-end-2
slice_bounds-copy_words-end-2 c = sym (long (goal.at.slice_bounds-copy_words-end-2 c).After-concurrent-n)

pub copy_words-requires : goal.copy_words-requires
copy_words-requires c =
    let a = c.args in
    let rest = length_rest a.lists.now (sizes.gathered * a.place) in
    let l = long (goal.at.copy_words-requires c).After-concurrent-n in
    omega (arith, l, rest, c.concurrent-n.ensures.fact.0, c.requires.placed.1, c.requires.placed.0.low)

pub slice_bounds-own-end-2 : goal.slice_bounds-own-end-2
slice_bounds-own-end-2 c = omega (arith, c.concurrent-n.ensures.fact.0)

pub slice_bounds-request_step-end : goal.slice_bounds-request_step-end
slice_bounds-request_step-end c = sym (long (goal.at.slice_bounds-request_step-end c).After-concurrent-n)

pub returns : goal.returns
returns c =
    let a = c.args in
    let back = listed (goal.at.returns c).After-concurrent-n in
    record {
      result_value = rw (← back) c.request_step.ensures.value;
      lists_after = laid a.lists.now _ _ _ (sizes.gathered * a.place) c.copy_words.ensures back;
      out_after = rw (← back) c.request_step.ensures.out_after;
    }
