-- The coordinator's steps, as moves: abort, the vote on the joined lists with CERT, and the decision with COMMIT.
use Prim.Native.Nat.{ℕ, ◌+◌, ◌≤◌, ◌<◌}
use mathlib.Core.Path.{◌≡◌, refl, sym, ap, ◌∙◌}
use mathlib.Core.Bool.{true}
use mathlib.Core.List.{List, []}
use native.Mathlib.Omega.{arith}
use borrow.Author.Tests.{eqb-true}
use lib.Dec.{eqb, leb}
use lib.ListN.{length}
use Rattle.laws.specs.Choice.{by_test}
use Rattle.kinds.specs.Sizes as sizes
use Rattle.kinds.specs.declared.House.{House}
use Rattle.kinds.specs.Stage as stage
use Rattle.kinds.specs.Reason as reason
use Rattle.kinds.specs.Kind as kind
use Rattle.kinds.specs.declared.Course.{Course}
use Rattle.kinds.specs.declared.Sub.{Sub}
use Rattle.kinds.specs.declared.Turn.{Turn}
use Rattle.kinds.specs.declared.Site.{Site}
use Rattle.kinds.specs.declared.Answer.TheVariants.{Done, Committed, Aborted}
use Rattle.kinds.specs.State.{no_sub, sub_at, with_course, with_clock}
use Rattle.rules.specs.House.{coordinator_of}
use Rattle.rules.specs.Live.{all_heard}
use Rattle.rules.specs.Effect.{turn_at, settle}
use Rattle.rules.specs.CourseLaws.{no_entries}
use Rattle.rules.specs.Course.{with_course_of, send_all, abort_step, commit_step, decide_step, with_decision, with_queue_mark, cast_step}
use Rattle.rules.specs.World.{upd}
use Rattle.rules.specs.Book as book
use Rattle.rules.proofs.Lists.Tables.{upd₂, upd₂_same, upd_same, upd_other, row_other}
use Rattle.rules.proofs.Protocol.ProtocolTables.{Protocol, Msg, m_abort, m_cert, m_commit}
use Rattle.rules.proofs.Protocol.Protocol.{others, course_at, AtStage, Whole, Within, Certified, abort}
use Rattle.rules.proofs.Protocol.ProtocolTables.{set_certed, set_cert, set_yes, set_queue_mark}
use Rattle.rules.proofs.Protocol.Protocol.{cast, decide, stop, more, posted_all, with_course_at}
use Rattle.rules.proofs.Protocol.Invariants.{In, Held, Invariant}
use Rattle.rules.proofs.Lists.Masks.{none_in, all_heard_lem}
use Rattle.rules.proofs.Protocol.Frames.{others_cases}
use Rattle.rules.proofs.Steps.Reached.{invariant_moves}
use Rattle.rules.proofs.Refine.Refines.{IsFree, slice_of, SiteIs}
use Rattle.rules.proofs.Refine.RefineSite.{site_clock, site_channels}
use Rattle.rules.proofs.Refine.RefineMail.{none, grows_all}
use Rattle.rules.proofs.Refine.RefineTurn.{AtPlace, part_place, course_is, site_course, site_gone, mark_stage, decision_stage, tx_of_lem}
use Rattle.rules.proofs.Refine.RefineActs.{Acts, acts_then, settled_turn, settled_again, others_elsewhere, members, send_all_site}
use Rattle.rules.proofs.Refine.RefineActs.{send_all_made}

-- what a site counts of its part's replies is what the protocol's course has
pub heard_here : {own s : ℕ} {b c : Course} → own ≡ s → b ≡ c → (f : Course → ℕ) → all_heard own (f b) b.mask ≡ true
    → all_heard s (f c) c.mask ≡ true
heard_here e k f h = rw (e, k) at h

-- Alone, a coordinator has nobody to send to.
pub lone : {house : House} {p : Protocol} (s t : ℕ) → Invariant house p → coordinator_of t ≡ s → 1 ≤ s → Held p s t
    → all_heard s 0 (course_at p s t).mask ≡ true
    → (r : ℕ) → In (course_at p s t).mask r → (r ≡ s → ⊥) → ⊥
lone {p = p} s t i e l h all r k n =
    let held : Held p (coordinator_of t) t = rw e h in
    let small = (i.rounds.small t held).0 in
    let own = i.rounds.own t held in
    none_in r
    (all_heard_lem 0 (course_at p s t).mask s (omega arith) (rw e at small) (λ r z. absurd (none_in r z.1)) (l, rw e at own) all r k n)

pub others_lone : (post : ℕ → ℕ → List Msg) (s mask : ℕ) (m : Msg) → ((r : ℕ) → In mask r → (r ≡ s → ⊥) → ⊥) → (i j : ℕ)
    → others post s mask m i j ≡ post i j
others_lone post s mask m f = others_cases (λ i j l. l ≡ post i j) post s mask m (λ j l e n. absurd (f j (l, e) n)) (λ i j. refl)

-- the protocol after the coordinator's yes on a joined list
abbrev pub cast_at : Protocol → ℕ → ℕ → List ℕ → Protocol
cast_at p s t es =
    posted_all
    (with_course_at
    (set_certed (upd p.certed t true)
    (set_cert (upd p.cert t es)
    (set_yes (upd₂ p.yes s t true) (set_queue_mark (upd₂ p.queue_mark s t (p.clock s)) p))))
    s t (with_queue_mark (course_at p s t) (p.clock s)))
    s (course_at p s t).mask (m_cert t es)

decision_mask : (c : Course) (n : ℕ) → (with_decision c n).mask ≡ c.mask
unfolding with_decision
decision_mask c n = refl

mark_mask : (c : Course) (n : ℕ) → (with_queue_mark c n).mask ≡ c.mask
unfolding with_queue_mark
mark_mask c n = refl

module _ {house : House} {s t place : ℕ} {x : Site} {base lists : List ℕ} {p : Protocol} (few : house.sites ≤ sizes.sites)
    (i : Invariant house p)
    (e : coordinator_of t ≡ s)
    (y : SiteIs house s x base lists (slice_of p s)) (a : AtPlace x p s t place) where
  abbrev mask : ℕ
  mask = (course_at p s t).mask

  abbrev turn : Turn
  turn = turn_at x place

  mask_is : (sub_at x place).course.mask ≡ mask
  mask_is = ap (λ (c : Course). c.mask) (course_is a)

  abbrev in_house : (r : ℕ) → In mask r → r ≤ house.sites
  in_house = members s t i e a.held

  -- Abort: ABORT to the others, and the part is gone.
  pub abort_acts : (r : ℕ) → (AtStage p s t stage.decided → ⊥)
      → (q : Protocol)
      × Acts house s p q (settle x place (abort_step turn r).turn) base lists (abort_step turn r).words
      (book.commits t (abort_step turn r).answer)
  unfolding abort_step settle turn_at send_all
  abort_acts r n =
      let m = m_abort t in (
        _,
        record {
          moves = more stop (abort s t e a.held n);
          tells = refl;
          elsewhere =
              record {
                clock = λ j z. refl;
                serial = λ j z. refl;
                live = λ j z. row_other p.live s t no_sub j z;
                post = λ j k z. others_elsewhere p.post s mask m j k z;
                taken = λ k j z. refl;
                log = λ j z. refl;
                gathered = λ k z. refl;
              };
          grows = grows_all p.post s mask m;
          log = λ j. refl;
          site = send_all_site p.post turn (Aborted r) s mask m few y.counters.own_is mask_is y.channels refl
              (site_gone y refl a);
          made = send_all_made p.post turn (Aborted r) s mask m few y.counters.own_is mask_is y.channels no_entries.0
              in_house (tx_of_lem a);
        },
      )

  -- The decision: the clock plus 1 is the commit number.
  commit_acts : AtStage p s t stage.queued → all_heard s (course_at p s t).heard mask ≡ true → (n : ℕ) → n ≡ p.clock s + 1
      → (q : Protocol)
      × Acts house s p q (settle x place (commit_step turn n).turn) base lists (commit_step turn n).words
      (book.commits t (commit_step turn n).answer)
  unfolding commit_step settle turn_at send_all
  commit_acts g all n z =
      let m = m_commit t (p.clock s + 1) in
      let c = with_decision (course_at p s t) (p.clock s + 1) in
      let d = with_decision (sub_at x place).course (p.clock s + 1) in
      let b = with_course (p.live s t) c in
      let u : Turn =
      record { counters = with_clock x.counters (p.clock s + 1); channels = x.channels; sub = with_course (sub_at x place) d } in
      let k : d ≡ c = rw (course_is a) in
      let part : d.mask ≡ mask = decision_mask (sub_at x place).course (p.clock s + 1) ∙ mask_is in
      rw z (
        _,
        record {
          moves = more stop (decide s t e g all);
          tells = refl;
          elsewhere =
              record {
                clock = λ j o. upd_other p.clock s (p.clock s + 1) j o;
                serial = λ j o. refl;
                live = λ j o. row_other p.live s t b j o;
                post = λ j k o. others_elsewhere p.post s mask m j k o;
                taken = λ k j o. refl;
                log = λ j o. refl;
                gathered = λ k o. refl;
              };
          grows = grows_all p.post s mask m;
          log = λ j. refl;
          site =
              send_all_site p.post u (Committed (p.clock s + 1)) s mask m few y.counters.own_is part y.channels refl
              (site_clock (site_course y refl a c d k (λ o f. absurd (omega (arith, decision_stage (course_at p s t) (p.clock s + 1)))))
              (p.clock s + 1) (upd_same p.clock s (p.clock s + 1)));
          made = send_all_made p.post u (Committed (p.clock s + 1)) s mask m few y.counters.own_is part y.channels
              no_entries.0 in_house (tx_of_lem a);
        },
      )

  -- at the last clock an abort
  pub decide_acts : AtStage p s t stage.queued → all_heard s (course_at p s t).heard mask ≡ true
      → (q : Protocol)
      × Acts house s p q (settle x place (decide_step turn).turn) base lists (decide_step turn).words
      (book.commits t (decide_step turn).answer)
  unfolding decide_step turn_at
  decide_acts g all =
      by_test (leb sizes.last x.counters.clock)
      (λ z. rw z (abort_acts reason.spent (λ o. omega arith)))
      (λ z. rw z (commit_acts g all (x.counters.clock + 1) (ap (λ (n : ℕ). n + 1) y.counters.clock_is)))

  -- A yes on the joined lists: CERT to the others.
  abbrev marked : Turn
  marked = with_course_of turn (with_queue_mark (sub_at x place).course x.counters.clock)

  marked_tx : marked.sub.tx ≡ t
  unfolding turn_at
  marked_tx = tx_of_lem a

  marked_held : IsFree marked.sub → ⊥
  unfolding turn_at
  marked_held z = omega (arith, mark_stage (sub_at x place).course x.counters.clock)

  marks : with_queue_mark (sub_at x place).course x.counters.clock ≡ with_queue_mark (course_at p s t) (p.clock s)
  marks = rw (course_is a, y.counters.clock_is)

  cert_acts : AtStage p s t stage.prepared → all_heard s (course_at p s t).heard mask ≡ true → (es : List ℕ) → Whole es
      → Within (p.gathered t) es → Certified p s t es
      → (q : Protocol)
      × Acts house s p q (settle x place (send_all marked Done kind.cert 0 0 es).turn) base lists
      (send_all marked Done kind.cert 0 0 es).words (book.commits t (send_all marked Done kind.cert 0 0 es).answer)
  unfolding settle turn_at send_all
  cert_acts g all es whole w v =
      let m = m_cert t es in
      let c = with_queue_mark (course_at p s t) (p.clock s) in
      let part = mark_mask (sub_at x place).course x.counters.clock ∙ mask_is in (
        cast_at p s t es,
        record {
          moves = more stop (cast s t es e g all w v);
          tells = refl;
          elsewhere =
              record {
                clock = λ j o. refl;
                serial = λ j o. refl;
                live = λ j o. row_other p.live s t (with_course (p.live s t) c) j o;
                post = λ j k o. others_elsewhere p.post s mask m j k o;
                taken = λ k j o. refl;
                log = λ j o. refl;
                gathered = λ k o. refl;
              };
          grows = grows_all p.post s mask m;
          log = λ j. refl;
          site =
              send_all_site p.post marked Done s mask m few y.counters.own_is part y.channels refl
              (site_course y refl a c (with_queue_mark (sub_at x place).course x.counters.clock) marks
              (λ o f. absurd (omega (arith, mark_stage (course_at p s t) (p.clock s)))));
          made = send_all_made p.post marked Done s mask m few y.counters.own_is part y.channels whole in_house (tx_of_lem a);
        },
      )

  -- Alone, all votes are there.
  lone_acts : AtStage p s t stage.prepared → all_heard s (course_at p s t).heard mask ≡ true → (es : List ℕ) → Within (p.gathered t) es
      → Certified p s t es
      → ((r : ℕ) → In mask r → (r ≡ s → ⊥) → ⊥) → Acts house s p (cast_at p s t es) (settle x place marked) base lists [] []
  unfolding settle turn_at
  lone_acts g all es w v alone =
      let m = m_cert t es in
      let c = with_queue_mark (course_at p s t) (p.clock s) in
      let same = others_lone p.post s mask m alone in
      record {
        moves = more stop (cast s t es e g all w v);
        tells = refl;
        elsewhere =
            record {
              clock = λ j o. refl;
              serial = λ j o. refl;
              live = λ j o. row_other p.live s t (with_course (p.live s t) c) j o;
              post = λ j k o. same j k;
              taken = λ k j o. refl;
              log = λ j o. refl;
              gathered = λ k o. refl;
            };
        grows = grows_all p.post s mask m;
        log = λ j. refl;
        site =
            site_channels
            (site_course y refl a c (with_queue_mark (sub_at x place).course x.counters.clock) marks
            (λ o f. absurd (omega (arith, mark_stage (course_at p s t) (p.clock s)))))
            x.channels _ _
            (record {
              sent_size = y.channels.sent_size;
              taken_size = y.channels.taken_size;
              sent_is = λ r l h. y.channels.sent_is r l h ∙ ap length (sym (same s r));
              taken_is = y.channels.taken_is;
            });
        made = none;
      }

-- the part at a place where a turn was settled
pub settled_place : {house : House} {s t : ℕ} {base lists : List ℕ} {q : Protocol} (x : Site) (place : ℕ) (u : Turn)
    → place < length x.live
    → place < sizes.live
    → SiteIs house s (settle x place u) base lists (slice_of q s) → u.sub.tx ≡ t → (IsFree u.sub → ⊥)
    → AtPlace (settle x place u) q s t place
unfolding turn_at
settled_place {s = s} {t = t} {q = q} x place u h l y e f =
    let b : sub_at (settle x place u) place ≡ u.sub = ap (λ (z : Turn). z.sub) (settled_turn x place u h) in
    rw (ap (λ (z : Sub). z.tx) b ∙ e) at
    (part_place (settle x place u) q s place y.live l (λ z. f (sym (ap (λ (c : Sub). c.course.stage) b) ∙ z)))

mark_all : (s : ℕ) (c : Course) (n : ℕ) → all_heard s 0 c.mask ≡ true → all_heard s (with_queue_mark c n).heard
    (with_queue_mark c n).mask ≡ true
unfolding with_queue_mark
mark_all s c n h = h

-- The vote on the joined lists: with a yes CERT, or the decision where the coordinator is alone; with a no an abort.
module _ {house : House} {s t place : ℕ} {x : Site} {base lists : List ℕ} {p : Protocol} (few : house.sites ≤ sizes.sites) (low : 1 ≤ s)
    (i : Invariant house p)
    (e : coordinator_of t ≡ s) (y : SiteIs house s x base lists (slice_of p s)) (a : AtPlace x p s t place) where
  lone_decides : AtStage p s t stage.prepared → all_heard s (course_at p s t).heard (course_at p s t).mask ≡ true → (es : List ℕ)
      → Within (p.gathered t) es → Certified p s t es
      → all_heard s 0 (course_at p s t).mask ≡ true
      → (q : Protocol)
      × Acts house s p q (settle x place (decide_step (marked few i e y a)).turn) base lists (decide_step (marked few i e y a)).words
      (book.commits t (decide_step (marked few i e y a)).answer)
  lone_decides g all es w c h =
      let u = marked few i e y a in
      let one = lone_acts few i e y a g all es w c (lone s t i e low a.held h) in
      let p1 = cast_at p s t es in
      let long : place < length x.live = omega (arith, a.spot.low, y.live.size) in
      let k = marks few i e y a in
      let m = with_queue_mark (course_at p s t) (p.clock s) in
      let new : course_at p1 s t ≡ m = ap (λ (b : Sub). b.course) (upd₂_same p.live s t (with_course (p.live s t) m)) in
      let stage1 = mark_stage (course_at p s t) (p.clock s) in
      let there = settled_place x place u long a.spot.low one.site (marked_tx few i e y a) (marked_held few i e y a) in
      let (q, two) = decide_acts few (invariant_moves few one.moves i) e one.site there (ap (λ (c : Course). c.stage) new ∙ stage1)
      (ap (λ (c : Course). all_heard s c.heard c.mask) new ∙ mark_all s (course_at p s t) (p.clock s) h) in
      (q, acts_then one (rw (settled_turn x place u long, settled_again x place u (decide_step u).turn) at two))

  pub cast_acts : AtStage p s t stage.prepared → all_heard s (course_at p s t).heard (course_at p s t).mask ≡ true → (v : ℕ) (es : List ℕ)
      → Whole es → Within (p.gathered t) es
      → (v ≡ 0 → Certified p s t es)
      → (q : Protocol)
      × Acts house s p q (settle x place (cast_step (turn_at x place) v es).turn) base lists (cast_step (turn_at x place) v es).words
      (book.commits t (cast_step (turn_at x place) v es).answer)
  unfolding cast_step turn_at
  cast_acts g all v es whole w c =
      by_test (eqb v 0)
      (λ f. by_test (all_heard x.counters.own 0 (sub_at x place).course.mask)
      (λ h. rw (f, h) (lone_decides g all es w (c (eqb-true v 0 f)) (heard_here y.counters.own_is (course_is a) (λ c. 0) h)))
      (λ h. rw (f, h) (cert_acts few i e y a g all es whole w (c (eqb-true v 0 f)))))
      (λ f. rw f (abort_acts few i e y a v (λ o. omega arith)))
