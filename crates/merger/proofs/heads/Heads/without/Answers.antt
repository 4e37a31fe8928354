-- Each site of the mask has one part fewer; the sites to come are as they were.
use Rattle.std.proofs.Common.{◌≡◌, sym, ap, ◌∙◌, arith}
use Rattle.merger.specs.Order.{sites_in, without, without_more, without_none, without_at, without_to}
use Rattle.rules.specs.MergerLaws.{Queued, pop_later}
use Rattle.merger.proofs.heads.Heads.without.Goals as goal

pub loop-i-init : goal.loop-i-init
loop-i-init c = without_none _ _

pub without_at-h-requires : goal.without_at-h-requires
unfolding Queued without_to
without_at-h-requires c =
    let l = c.loop-i in
    let a = c.args in
    let low = c.loop-i-test.true in
    record {
      i_lt_sites = omega (arith, c.requires.self_bound, c.sites-i-end.ensures);
      queued_nonzero = λ e.
          rw (l.invariant, pop_later a.self.merger a.mask l.i l.i (omega arith))
          (c.requires.queued l.i (omega (arith, c.sites-i-end.ensures)) e);
    }

pub loop-i-preserved : goal.loop-i-preserved
loop-i-preserved c =
    let l = c.loop-i in
    let a = c.args in
    c.without_at-h.ensures ∙ ap (without_at a.mask l.i) l.invariant ∙ sym (without_more a.mask a.self l.i)

pub returns : goal.returns
unfolding without
returns c =
    let a = c.args in
    let e : c.loop-i.i ≡ sites_in a.self = omega (arith, c.sites-i-end.ensures) in
    c.loop-i.invariant ∙ ap (without_to a.mask a.self) e
