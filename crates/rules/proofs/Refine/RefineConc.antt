-- CONC: its entries are gathered behind those that are there, and the last one brings the vote on their join.
use Prim.Native.Nat.{ℕ, ◌+◌, ◌*◌, ◌≤◌, ◌<◌}
use mathlib.Core.Path.{◌≡◌, refl, sym, ap, ◌∙◌}
use mathlib.Core.Bool.{true, false}
use mathlib.Core.List.{List, [], ◌++◌}
use native.Mathlib.Omega.{arith}
use lib.ListN.{length, take, drop}
use Rattle.laws.specs.Choice.{pick, by_test}
use Rattle.laws.specs.Overlay.{put_at}
use Rattle.kinds.specs.Sizes as sizes
use Rattle.kinds.specs.declared.House.{House}
use Rattle.kinds.specs.Stage as stage
use Rattle.kinds.specs.declared.Course.{Course}
use Rattle.kinds.specs.declared.Sub.{Sub}
use Rattle.kinds.specs.declared.Turn.{Turn}
use Rattle.kinds.specs.declared.Site.{Site}
use Rattle.kinds.specs.State.{sub_at, with_course}
use Rattle.rules.proofs.JoinLaws.{join_whole}
use Rattle.rules.specs.House.{coordinator_of, in_mask}
use Rattle.rules.specs.Message.{entry_count}
use Rattle.rules.specs.KeysLaws.{by_order}
use Rattle.rules.proofs.EntryLaws.{Marks}
use Rattle.rules.specs.Live.{all_heard}
use Rattle.rules.specs.Join.{joined}
use Rattle.rules.specs.Certify.{vote_of}
use Rattle.rules.specs.Valid.{site_ok}
use Rattle.rules.specs.ValidLaws.{valid_site, participants_lack_two}
use Rattle.rules.specs.Effect.{settle}
use Rattle.rules.specs.CourseLaws.{whole_count}
use Rattle.rules.specs.Course.{quietly, with_course_of, with_reply, is_outstanding, cast_step}
use Rattle.rules.specs.Deliver.{arrived}
use Rattle.rules.specs.World.{upd}
use Rattle.rules.specs.Book as book
use Rattle.rules.proofs.Lists.Tables.{upd₂_same, upd_same, upd_other, row_same, row_other}
use Rattle.rules.proofs.Protocol.ProtocolTables.{Protocol, m_conc, set_gathered}
use Rattle.rules.proofs.Protocol.Protocol.{Next, AtStage, course_at, Within, with_course_at, took, gathers}
use Rattle.rules.proofs.Protocol.Invariants.{Invariant}
use Rattle.rules.proofs.Lists.Masks.{outstanding_unheard}
use Rattle.rules.proofs.Protocol.Frames.{said}
use Rattle.rules.proofs.Steps.Reached.{invariant_moves}
use Rattle.rules.proofs.Refine.Refines.{IsFree, ListIs, slice_of, SiteIs}
use Rattle.rules.proofs.Refine.RefineLive.{live_set}
use Rattle.rules.proofs.Refine.RefineSite.{channels_taken}
use Rattle.rules.proofs.Refine.RefineTurn.{AtPlace, course_is, tx_of_lem}
use Rattle.rules.proofs.Refine.RefineActs.{Acts, acts_then, settled_turn, settled_again}
use Rattle.rules.proofs.Refine.RefineCertify.{certifies, join_within}
use Rattle.rules.proofs.Refine.RefineLists.{list_more, lists_put}
use Rattle.rules.proofs.Refine.RefineJoined.{joined_take}
use Rattle.rules.proofs.Refine.RefineCourse.{heard_here, cast_acts, settled_place}
use Rattle.rules.proofs.Refine.RefineRequest.{listed_few, certified_course}
use Rattle.rules.proofs.Refine.RefineTake.{quiet_acts}
use Rattle.rules.proofs.Refine.RefineQuiet.{reply_stage}

reply_listed : (c : Course) (a n : ℕ) → (with_reply c a 0 n).listed ≡ c.listed + n
unfolding with_reply
reply_listed c a n = refl

-- the protocol with the entries gathered
abbrev pub gather_at : Protocol → ℕ → ℕ → ℕ → List ℕ → Protocol
gather_at p s a t es =
    with_course_at (set_gathered (upd p.gathered t (p.gathered t ++ es)) (took p a s)) s t
    (with_reply (course_at p s t) a 0 (entry_count es))

module _ {house : House} (p : Protocol) (s a : ℕ) {t : ℕ} {x : Site} {base lists : List ℕ} (few : house.sites ≤ sizes.sites) (from : 1 ≤ s)
    (to : s ≤ house.sites) (low : 1 ≤ a) (high : a ≤ house.sites)
    (i : Invariant house p) (y : SiteIs house s x base lists (slice_of p s)) (place : ℕ) (A : AtPlace x p s t place)
    (valid : site_ok x ≡ true)
    (es : List ℕ) (whole : length es ≡ sizes.entry * entry_count es) (short : entry_count es ≤ sizes.conc_entries) (marks : Marks es)
    (next : Next p a s (m_conc t es)) (prepared : AtStage p s t stage.prepared) (out : is_outstanding (course_at p s t) a ≡ true) where
  abbrev course : Course
  course = (sub_at x place).course

  mine : coordinator_of t ≡ s
  mine = (said i next).0

  -- the reply's entries fit: neither the sender nor this site has been heard
  room : course.listed + entry_count es ≤ sizes.cert_entries
  room =
      let c = ((valid_site x valid).part place A.spot.low).course in
      let own : in_mask course.heard s ≡ false = rw (← y.counters.own_is) c.others in
      let other : in_mask course.heard a ≡ false =
      outstanding_unheard course a (ap (λ (c : Course). is_outstanding c a) (course_is A) ∙ out) in
      by_order a s
      (λ l. omega (arith, c.listed, participants_lack_two course.heard a s c.heard_low low l (omega arith) other own))
      (λ l. by_order s a
      (λ m. omega (arith, c.listed, participants_lack_two course.heard s a c.heard_low from m (omega arith) own other))
      (λ m. absurd ((said i next).1 (omega arith))))

  abbrev gathered_lists : List ℕ
  gathered_lists = put_at (sizes.gathered * place + sizes.entry * course.listed) lists es

  abbrev part : Sub
  part = with_course (p.live s t) (with_reply (course_at p s t) a 0 (entry_count es))

  abbrev turn : Turn
  turn = with_course_of (arrived x place a) (with_reply course a 0 (entry_count es))

  part_is : with_course (sub_at x place) (with_reply course a 0 (entry_count es)) ≡ part
  part_is = ap (λ (b : Sub). with_course b (with_reply b.course a 0 (entry_count es))) A.part

  list_is : ListIs gathered_lists place part (p.gathered t ++ es)
  list_is =
      let k = course_is A in
      let tx : (sub_at x place).tx ≡ t = tx_of_lem A in
      let old = y.lists.each place A.spot.low (ap (λ (c : Course). c.stage) k ∙ prepared) (ap coordinator_of tx ∙ mine) in
      list_more lists place (sub_at x place) part (p.gathered t) es (entry_count es) y.lists.size A.spot.low
      (rw tx at old) room whole
      (reply_listed (course_at p s t) a (entry_count es) ∙ ap (λ (c : Course). c.listed + entry_count es) (sym k)) marks

  gather_acts : Acts house s p (gather_at p s a t es) (settle x place turn) base gathered_lists [] []
  unfolding settle arrived
  gather_acts =
      quiet_acts s a (gathers a s t es next prepared out) (λ j n. refl) refl (λ j n. row_other p.live s t part j n) refl refl refl
      (λ u n. upd_other p.gathered t (p.gathered t ++ es) u (λ z. n (ap coordinator_of z ∙ mine)))
      (record {
        house_is = y.house_is;
        counters = y.counters;
        channels = channels_taken p.taken a s few low high y.channels;
        live = rw (part_is, row_same p.live s t part) (live_set y.live place t part A.spot (λ f. (A.tx, A.sized)));
        history = y.history;
        lists =
            rw part_is
            (lists_put place t part (sizes.gathered * place + sizes.entry * course.listed) es (p.gathered t ++ es) y.lists
            y.live.size A.spot A.tx (omega arith)
            (omega (arith, room, whole)) (listed_few x valid) list_is);
        base_size = y.base_size;
      })

  turn_tx : turn.sub.tx ≡ t
  unfolding arrived
  turn_tx = tx_of_lem A

  turn_held : IsFree turn.sub → ⊥
  turn_held z = omega (arith, reply_stage course a 0 (entry_count es), ap (λ (c : Course). c.stage) (course_is A), prepared)

  abbrev heard : Course
  heard = with_reply course a 0 (entry_count es)

  abbrev join : List ℕ
  join = joined (drop (sizes.gathered * place) gathered_lists) heard.listed

  -- the join of all that is gathered
  join_all : Within (p.gathered t ++ es) join
  join_all =
      let g = p.gathered t ++ es in
      let n = heard.listed in
      let k : n ≡ part.course.listed = ap (λ (c : Course). (with_reply c a 0 (entry_count es)).listed) (course_is A) in
      let words : take (sizes.entry * n) (drop (sizes.gathered * place) gathered_lists) ≡ g =
      ap (λ (z : ℕ). take (sizes.entry * z) (drop (sizes.gathered * place) gathered_lists)) k ∙ list_is.words in
      let count : entry_count g ≡ n = whole_count g n (list_is.size ∙ ap (λ (z : ℕ). sizes.entry * z) (sym k)) in
      let same : join ≡ joined g (entry_count g) = joined_take (drop (sizes.gathered * place) gathered_lists) n
      ∙ ap (λ (l : List ℕ). joined l n) words ∙ ap (joined g) (sym count) in
      rw same (join_within g list_is.marks)

  -- the last list
  all_acts : all_heard x.counters.own heard.heard heard.mask ≡ true
      → (let c = cast_step turn (vote_of x place join (entry_count join)) join in
      (q : Protocol) × Acts house s p q (settle x place c.turn) base gathered_lists c.words (book.commits t c.answer))
  all_acts all =
      let v = vote_of x place join (entry_count join) in
      let p1 = gather_at p s a t es in
      let long : place < length x.live = omega (arith, A.spot.low, y.live.size) in
      let same : p1.live s t ≡ part = upd₂_same p.live s t part in
      let new : course_at p1 s t ≡ heard = ap (λ (b : Sub). b.course) (same ∙ sym part_is) in
      let there = settled_place x place turn long A.spot.low gather_acts.site turn_tx turn_held in
      let stage1 : AtStage p1 s t stage.prepared = ap (λ (b : Sub). b.course.stage) same
      ∙ reply_stage (course_at p s t) a 0 (entry_count es) ∙ prepared in
      let within : Within (p1.gathered t) join = rw (upd_same p.gathered t (p.gathered t ++ es)) join_all in
      let (q, two) = cast_acts few from (invariant_moves few gather_acts.moves i) mine gather_acts.site there stage1
      (heard_here y.counters.own_is (sym new) (λ c. c.heard) all) v join
      (join_whole (drop (sizes.gathered * place) gathered_lists) heard.listed) within
      (λ z. certified_course p p1 s t join refl (ap (λ (b : Sub). b.keys) same) (ap (λ (b : Sub). b.snapshot) same)
      (certifies y i.parts A join z)) in
      (q, acts_then gather_acts (rw (settled_turn x place turn long, settled_again x place turn (cast_step turn v join).turn) at two))

  pub conc_acts : (let c =
      pick (all_heard x.counters.own heard.heard heard.mask) (cast_step turn (vote_of x place join (entry_count join)) join)
      (quietly turn) in
      (q : Protocol) × Acts house s p q (settle x place c.turn) base gathered_lists c.words (book.commits t c.answer))
  unfolding quietly
  conc_acts = by_test (all_heard x.counters.own heard.heard heard.mask) (λ f. rw f (all_acts f)) (λ f. rw f (_, gather_acts))
