-- The commit request, as a move: the coordinator makes its list, and sends PREPARE where it is not alone.
use Prim.Native.Nat.{ℕ, ◌*◌, ◌≤◌, ◌<◌}
use mathlib.Core.Path.{◌≡◌, refl, sym, ap, ◌∙◌}
use mathlib.Core.Bool.{true, false}
use mathlib.Core.List.{List, []}
use native.Mathlib.Omega.{arith}
use lib.ListN.{length}
use Rattle.laws.specs.Overlay.{put_at}
use Rattle.kinds.specs.Sizes as sizes
use Rattle.kinds.specs.declared.House.{House}
use Rattle.kinds.specs.Stage as stage
use Rattle.kinds.specs.Kind as kind
use Rattle.kinds.specs.declared.Snapshot.{Snapshot}
use Rattle.kinds.specs.declared.Course.{Course}
use Rattle.kinds.specs.declared.Sub.{Sub}
use Rattle.kinds.specs.declared.Turn.{Turn}
use Rattle.kinds.specs.declared.Site.{Site}
use Rattle.kinds.specs.declared.Answer.TheVariants.{Done}
use Rattle.kinds.specs.State.{sub_at, with_course, with_sub}
use Rattle.rules.proofs.JoinLaws.{join_whole}
use Rattle.rules.specs.House.{coordinator_of}
use Rattle.rules.specs.Message.{entry_count}
use Rattle.rules.specs.Live.{part_at, all_heard}
use Rattle.rules.specs.History.{is_forgotten}
use Rattle.rules.specs.Join.{joined}
use Rattle.rules.specs.Certify.{concurrent, vote_of}
use Rattle.rules.proofs.CertifyLaws.{concurrent_whole, concurrent_few}
use Rattle.rules.specs.Valid.{site_ok}
use Rattle.rules.specs.ValidLaws.{valid_site}
use Rattle.rules.specs.Effect.{turn_at, settle}
use Rattle.rules.specs.CourseLaws.{no_entries}
use Rattle.rules.specs.Course.{with_course_of, send_all, with_request, prepare_step, cast_step}
use Rattle.rules.specs.World.{upd}
use Rattle.rules.specs.Book as book
use Rattle.rules.proofs.Lists.Tables.{upd₂, upd₂_same, upd_same, upd_other, row_same, row_other}
use Rattle.rules.proofs.Protocol.ProtocolTables.{Protocol, Msg, m_prepare, inst}
use Rattle.rules.proofs.Protocol.Protocol.{Within, Moves, course_at, AtStage, Certified, posted_all}
use Rattle.rules.proofs.Protocol.ProtocolTables.{set_gathered, set_asked, set_mask, set_made, set_list}
use Rattle.rules.proofs.Protocol.Protocol.{with_course_at, request, stop, more}
use Rattle.rules.proofs.Protocol.Invariants.{In, Invariant}
use Rattle.rules.proofs.Steps.Reached.{invariant_moves}
use Rattle.rules.proofs.Refine.Refines.{IsFree, kind_of, clock_in, argument_in, entries_in, slice_of, SiteIs}
use Rattle.rules.proofs.Refine.RefineLive.{live_set}
use Rattle.rules.proofs.Refine.RefineSite.{site_channels}
use Rattle.rules.proofs.Refine.RefineStep.{Elsewhere}
use Rattle.rules.proofs.Refine.RefineMail.{none, grows_all}
use Rattle.rules.proofs.Refine.RefineTurn.{AtPlace, course_is, tx_of_lem}
use Rattle.rules.proofs.Refine.RefineActs.{Acts, acts_then, settled_turn, settled_again, others_elsewhere, members, send_all_site}
use Rattle.rules.proofs.Refine.RefineActs.{send_all_made}
use Rattle.rules.proofs.Refine.RefineCertify.{covers, certifies, concurrent_low, join_within}
use Rattle.rules.proofs.Refine.RefineLists.{list_first, lists_put}
use Rattle.rules.proofs.Refine.RefineCourse.{lone, others_lone, cast_acts, settled_place}

-- the protocol after the request
abbrev pub request_at : Protocol → ℕ → ℕ → List ℕ → Protocol
request_at p s t es =
    posted_all
    (with_course_at
    (set_gathered (upd p.gathered t es)
    (set_asked (upd p.asked t true)
    (set_mask (upd p.mask t (course_at p s t).mask)
    (set_made (upd₂ p.made s t true) (set_list (upd₂ p.list s t es) p)))))
    s t (with_request (course_at p s t) (entry_count es)))
    s (course_at p s t).mask (m_prepare t (p.clock s) (course_at p s t).mask)

pub request_stage : (c : Course) (n : ℕ) → (with_request c n).stage ≡ stage.prepared
unfolding with_request
request_stage c n = refl

request_mask : (c : Course) (n : ℕ) → (with_request c n).mask ≡ c.mask
unfolding with_request
request_mask c n = refl

request_listed : (c : Course) (n : ℕ) → (with_request c n).listed ≡ n
unfolding with_request
request_listed c n = refl

-- a valid part's entries fit
pub listed_few : (x : Site) → site_ok x ≡ true → (j : ℕ) → j < sizes.live → (part_at x.live j).course.listed ≤ sizes.cert_entries
listed_few x v j h = let c = ((valid_site x v).part j h).course in omega (arith, c.listed, c.heard_few)

module _ {house : House} {s t place : ℕ} {x : Site} {base lists : List ℕ} {p : Protocol} (few : house.sites ≤ sizes.sites)
    (i : Invariant house p)
    (e : coordinator_of t ≡ s)
    (y : SiteIs house s x base lists (slice_of p s)) (a : AtPlace x p s t place) (valid : site_ok x ≡ true) where
  abbrev own : List ℕ
  own = concurrent x place

  abbrev count : ℕ
  count = entry_count own

  abbrev asked : Course
  asked = with_request (sub_at x place).course count

  abbrev turn : Turn
  turn = with_course_of (turn_at x place) asked

  abbrev made_lists : List ℕ
  made_lists = put_at (sizes.gathered * place) lists own

  abbrev part : Sub
  part = with_course (p.live s t) (with_request (course_at p s t) count)

  part_is : with_course (sub_at x place) asked ≡ part
  part_is = rw a.part

  request_site : SiteIs house s (with_sub x place (with_course (sub_at x place) asked)) base made_lists
      (record {
        clock = p.clock s;
        serial = p.serial s;
        live = upd₂ p.live s t part s;
        gathered = upd p.gathered t own;
        post = p.post s;
        taken = λ r. p.taken r s;
        log = p.log s;
      })
  request_site =
      let l = list_first lists place part own y.lists.size a.spot.low
      (concurrent_whole x place ∙ ap (λ (n : ℕ). sizes.entry * n) (sym (request_listed (course_at p s t) count))) (concurrent_low x place) in
      record {
        house_is = y.house_is;
        counters = y.counters;
        channels = y.channels;
        live = rw (part_is, row_same p.live s t part) (live_set y.live place t part a.spot (λ f. (a.tx, a.sized)));
        history = y.history;
        lists =
            rw part_is
            (lists_put place t part (sizes.gathered * place) own own y.lists y.live.size a.spot a.tx (omega arith)
            (omega (arith, concurrent_few x place a.spot.low, concurrent_whole x place)) (listed_few x valid) l);
        base_size = y.base_size;
      }

  mask_is : asked.mask ≡ (course_at p s t).mask
  mask_is = request_mask (sub_at x place).course count ∙ ap (λ (c : Course). c.mask) (course_is a)

  abbrev message : Msg
  message = m_prepare t (p.clock s) (course_at p s t).mask

  prepare_is : prepare_step turn ≡ send_all turn Done (kind_of message) (clock_in message) (argument_in message) (entries_in message)
  unfolding prepare_step turn_at
  prepare_is =
      ap (λ (n : ℕ). send_all turn Done kind.prepare n asked.mask []) y.counters.clock_is
      ∙ ap (λ (n : ℕ). send_all turn Done kind.prepare (p.clock s) n []) mask_is

  -- the part has every reply to its JOINs, and none of 12
  pub record Ready : Type 0 where
    pub active : AtStage p s t stage.active
    pub heard : all_heard s (course_at p s t).heard (course_at p s t).mask ≡ true
    pub joined : (course_at p s t).reason ≡ 0
    pub kept : is_forgotten x.counters.installs (sub_at x place).snapshot ≡ false

  request_elsewhere : Elsewhere s p (request_at p s t own)
  request_elsewhere =
      record {
        clock = λ j o. refl;
        serial = λ j o. refl;
        live = λ j o. row_other p.live s t part j o;
        post = λ j k o. others_elsewhere p.post s (course_at p s t).mask message j k o;
        taken = λ k j o. refl;
        log = λ j o. refl;
        gathered = λ k o. upd_other p.gathered t own k (λ z. o (ap coordinator_of z ∙ e));
      }

  requests : Ready → Moves house p (request_at p s t own)
  requests c = more stop (request s t own e c.active c.heard c.joined (covers y i.parts a c.kept))

  -- with PREPARE to the others
  pub prepare_acts : Ready
      → Acts house s p (request_at p s t own) (settle x place (prepare_step turn).turn) base made_lists (prepare_step turn).words
      (book.commits t (prepare_step turn).answer)
  unfolding settle turn_at send_all requests
  prepare_acts c =
      rw prepare_is
      (record {
        moves = requests c;
        tells = refl;
        elsewhere = request_elsewhere;
        grows = grows_all p.post s (course_at p s t).mask message;
        log = λ j. refl;
        site = send_all_site p.post turn Done s (course_at p s t).mask message few y.counters.own_is mask_is y.channels refl
            request_site;
        made =
            send_all_made p.post turn Done s (course_at p s t).mask message few y.counters.own_is mask_is y.channels
            no_entries.0
            (members s t i e a.held) (tx_of_lem a);
      })

  -- alone
  pub lone_request_acts : Ready → ((r : ℕ) → In (course_at p s t).mask r → (r ≡ s → ⊥) → ⊥)
      → Acts house s p (request_at p s t own) (settle x place turn) base made_lists [] []
  unfolding settle turn_at requests
  lone_request_acts c alone =
      let same = others_lone p.post s (course_at p s t).mask message alone in
      record {
        moves = requests c;
        tells = refl;
        elsewhere = request_elsewhere;
        grows = grows_all p.post s (course_at p s t).mask message;
        log = λ j. refl;
        site =
            site_channels request_site x.channels _ _
            (record {
              sent_size = y.channels.sent_size;
              taken_size = y.channels.taken_size;
              sent_is = λ r l h. y.channels.sent_is r l h ∙ ap length (sym (same s r));
              taken_is = y.channels.taken_is;
            });
        made = none;
      }

  turn_tx : turn.sub.tx ≡ t
  unfolding turn_at
  turn_tx = tx_of_lem a

  turn_held : IsFree turn.sub → ⊥
  unfolding turn_at
  turn_held z = omega (arith, request_stage (sub_at x place).course count)

-- a yes says the same of a part with another course
pub certified_course : (p q : Protocol) (s t : ℕ) (es : List ℕ) → inst q s ≡ inst p s → (q.live s t).keys ≡ (p.live s t).keys
    → (q.live s t).snapshot ≡ (p.live s t).snapshot
    → Certified p s t es → Certified q s t es
certified_course p q s t es l k n c j m h names b seen tx =
    rw (l, k) (c j m h names (rw l at b) (rw (ap (λ (z : Snapshot). z.installs) n) at seen) (rw l at tx))

request_all : (s : ℕ) (c : Course) (n : ℕ) → all_heard s 0 c.mask ≡ true
    → all_heard s (with_request c n).heard (with_request c n).mask ≡ true
unfolding with_request
request_all s c n h = h

-- Alone it votes on its list at once.
module _ {house : House} {s t place : ℕ} {x : Site} {base lists : List ℕ} {p : Protocol} (few : house.sites ≤ sizes.sites) (low : 1 ≤ s)
    (i : Invariant house p) (e : coordinator_of t ≡ s)
    (y : SiteIs house s x base lists (slice_of p s)) (a : AtPlace x p s t place) (valid : site_ok x ≡ true) where
  pub lone_commit_acts : Ready few i e y a valid → all_heard s 0 (course_at p s t).mask ≡ true
      → (let own = concurrent x place in let es = joined own (entry_count own) in
      let c = cast_step (turn few i e y a valid) (vote_of x place es (entry_count es)) es in
      (q : Protocol)
      × Acts house s p q (settle x place c.turn) base (put_at (sizes.gathered * place) lists own) c.words
      (book.commits t c.answer))
  lone_commit_acts c h =
      let own = concurrent x place in
      let es = joined own (entry_count own) in
      let v = vote_of x place es (entry_count es) in
      let u = turn few i e y a valid in
      let one = lone_request_acts few i e y a valid c (lone s t i e low a.held h) in
      let p1 = request_at p s t own in
      let long : place < length x.live = omega (arith, a.spot.low, y.live.size) in
      let m = with_request (course_at p s t) (entry_count own) in
      let same : p1.live s t ≡ with_course (p.live s t) m = upd₂_same p.live s t (with_course (p.live s t) m) in
      let new : course_at p1 s t ≡ m = ap (λ (b : Sub). b.course) same in
      let there = settled_place x place u long a.spot.low one.site (turn_tx few i e y a valid) (turn_held few i e y a valid) in
      let within : Within (p1.gathered t) es = rw (upd_same p.gathered t own) (join_within own (concurrent_low x place)) in
      let (q, two) =
      cast_acts few low (invariant_moves few one.moves i) e one.site there
      (ap (λ (c : Course). c.stage) new ∙ request_stage (course_at p s t) (entry_count own))
      (ap (λ (c : Course). all_heard s c.heard c.mask) new ∙ request_all s (course_at p s t) (entry_count own) h) v es
      (join_whole own (entry_count own)) within
      (λ z. certified_course p p1 s t es refl (ap (λ (b : Sub). b.keys) same) (ap (λ (b : Sub). b.snapshot) same)
      (certifies y i.parts a es z)) in
      (q, acts_then one (rw (settled_turn x place u long, settled_again x place u (cast_step u v es).turn) at two))
