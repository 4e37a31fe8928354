-- The array holds the candidates, prepared ones and then installs, and the join of what it holds is the list.
use Rattle.std.proofs.Common.{◌≡◌, ℕ, ◌+◌, ◌*◌, ◌-◌, ◌<◌, List, ◌++◌, replicate, take, drop, length-take, length-drop, refl, ap, ◌∙◌, arith}
use Rattle.laws.specs.Overlay.{overlay}
use Rattle.kinds.specs.Sizes as sizes
use Rattle.kinds.specs.declared.Site.{Site}
use Rattle.kinds.specs.declared.Sub.{Sub}
use Rattle.kinds.specs.State.{sub_at}
use Rattle.rules.specs.Certify.{concurrent, prepared_list, installed_list}
use Rattle.rules.specs.History.{remembered, within}
use Rattle.rules.specs.HistoryLaws.{within_remembered}
use Rattle.lent.specs.Laws.{lent_lengths}
use Rattle.lent.specs.Lent.{site_of}
use Rattle.certify.specs.Leaves.{part_few}
use Rattle.certify.specs.Asks.{Entered, part_in, slot_in}
use Rattle.certify.specs.Gather.{Gathered, Since, gather, prepared_below}
use Rattle.certify.proofs.list.concurrent.Goals as goal

-- words of the array: room for every candidate
abbrev room : ℕ
room = sizes.entry * (sizes.live + sizes.history)

gathered : (s : Site) (place : ℕ) (b : Sub) (n m seen : ℕ) (xs ys : List ℕ) → place < sizes.live → b ≡ sub_at s place
    → seen ≡ within s.counters.installs b.snapshot → Entered (replicate room 0) (prepared_list s.live place sizes.live) n xs
    → m ≡ remembered s.counters.installs - seen
    → ys
    ≡ overlay (take (room - sizes.entry * n) (drop (sizes.entry * n) xs))
    (installed_list s.history s.counters.installs b.keys seen m)
    → Gathered s place n m (take (sizes.entry * n) xs ++ (ys ++ drop (room - sizes.entry * n) (drop (sizes.entry * n) xs)))
gathered s place b n m seen xs ys low is early x q y =
    let since : Since s place b.keys seen =
    record {
      low = low;
      keys = ap (λ (x : Sub). x.keys) is;
      early = early ∙ ap (λ (x : Sub). within s.counters.installs x.snapshot) is;
    } in
    gather s place n m b.keys seen (replicate room 0) xs ys room refl refl since x q y

pub part_at-b-requires : goal.part_at-b-requires
part_at-b-requires c =
    let a = c.args in
    ((lent_lengths a.p a.live.now a.history.now c.requires.valid).live, c.requires.low)

pub prepared_list-n-requires : goal.prepared_list-n-requires
prepared_list-n-requires c =
    let a = c.args in
    record { low = c.requires.low; room = omega arith; parts = part_in a.p a.live.now a.history.now c.requires.valid }

pub overflow_mul-at : goal.overflow_mul-at
overflow_mul-at c = omega (arith, prepared_below _ _ _ c.requires.low c.prepared_list-n.ensures.long)

pub offset_bounds-all-at : goal.offset_bounds-all-at
offset_bounds-all-at c = omega (arith, prepared_below _ _ _ c.requires.low c.prepared_list-n.ensures.long)

pub slice_bounds-installed_list-count : goal.slice_bounds-installed_list-count
slice_bounds-installed_list-count c = omega (arith, prepared_below _ _ _ c.requires.low c.prepared_list-n.ensures.long)

pub slice_bounds-all-start : goal.slice_bounds-all-start
slice_bounds-all-start c = omega (arith, prepared_below _ _ _ c.requires.low c.prepared_list-n.ensures.long)

pub installed_list-m-requires : goal.installed_list-m-requires
installed_list-m-requires c =
    let a = c.args in
    let b = c.part_at-b in
    let n = prepared_below _ _ _ c.requires.low c.prepared_list-n.ensures.long in
    record {
      early = omega (arith, c.within-seen.ensures, within_remembered a.p.counters.installs b.result.snapshot);
      room = simp (length-take, length-drop) (omega (arith, c.prepared_list-n.auto.out));
      few_own = rw b.ensures (part_few (site_of a.p a.live.now a.history.now) c.requires.valid a.place c.requires.low);
      slots = slot_in a.p a.live.now a.history.now c.requires.valid;
    }

pub overflow_add-end : goal.overflow_add-end
overflow_add-end c =
    let site = site_of c.args.p c.args.live.now c.args.history.now in
    let e = c.prepared_list-n.ensures in
    let m = c.installed_list-m.ensures in
    let g = gathered site _ _ _ _ _ _ _ c.requires.low c.part_at-b.ensures c.within-seen.ensures e m.value m.out_after in
    omega (arith, g.few)

pub overflow_mul-end : goal.overflow_mul-end
overflow_mul-end c =
    let site = site_of c.args.p c.args.live.now c.args.history.now in
    let e = c.prepared_list-n.ensures in
    let m = c.installed_list-m.ensures in
    let g = gathered site _ _ _ _ _ _ _ c.requires.low c.part_at-b.ensures c.within-seen.ensures e m.value m.out_after in
    omega (arith, g.few)

pub slice_bounds-all-end-2 : goal.slice_bounds-all-end-2
slice_bounds-all-end-2 c =
    let site = site_of c.args.p c.args.live.now c.args.history.now in
    let e = c.prepared_list-n.ensures in
    let m = c.installed_list-m.ensures in
    let g = gathered site _ _ _ _ _ _ _ c.requires.low c.part_at-b.ensures c.within-seen.ensures e m.value m.out_after in
    omega arith

pub slice_bounds-join-end : goal.slice_bounds-join-end
slice_bounds-join-end c =
    let site = site_of c.args.p c.args.live.now c.args.history.now in
    let e = c.prepared_list-n.ensures in
    let m = c.installed_list-m.ensures in
    let g = gathered site _ _ _ _ _ _ _ c.requires.low c.part_at-b.ensures c.within-seen.ensures e m.value m.out_after in
    simp length-take (omega arith)

pub overflow_add-n : goal.overflow_add-n
overflow_add-n c =
    let site = site_of c.args.p c.args.live.now c.args.history.now in
    let e = c.prepared_list-n.ensures in
    let m = c.installed_list-m.ensures in
    let g = gathered site _ _ _ _ _ _ _ c.requires.low c.part_at-b.ensures c.within-seen.ensures e m.value m.out_after in
    omega (arith, g.few)

pub join-requires : goal.join-requires
join-requires c =
    let site = site_of c.args.p c.args.live.now c.args.history.now in
    let e = c.prepared_list-n.ensures in
    let m = c.installed_list-m.ensures in
    let g = gathered site _ _ _ _ _ _ _ c.requires.low c.part_at-b.ensures c.within-seen.ensures e m.value m.out_after in
    let long = c.requires.room in
    (omega arith, (simp length-take (omega arith), omega arith))

pub returns : goal.returns
unfolding concurrent
returns c =
    let site = site_of c.args.p c.args.live.now c.args.history.now in
    let e = c.prepared_list-n.ensures in
    let m = c.installed_list-m.ensures in
    let g = gathered site _ _ _ _ _ _ _ c.requires.low c.part_at-b.ensures c.within-seen.ensures e m.value m.out_after in
    let j = c.join.ensures in
    record {
      fact = (omega arith, rw (← g.count, ← g.are) j.upper_bound.1);
      out_after = rw (← g.count, ← g.are) j.out_after;
    }
