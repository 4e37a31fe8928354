-- A message taken, by its kind, as moves.
use Prim.Native.Nat.{ℕ, ◌+◌, ◌*◌, ◌≤◌}
use mathlib.Core.Path.{◌≡◌, refl, sym, ap, ◌∙◌}
use mathlib.Core.Bool.{Bool, true, false, not}
use mathlib.Core.List.{List, [], ◌∷◌, ◌++◌}
use native.Mathlib.Omega.{arith}
use borrow.Author.Tests.{eqb-true, eqb-false, ltb-true, leb-true, not-true}
use lib.Dec.{eqb, leb, ltb}
use lib.ListN.{get_or, get_or-eq_default}
use Rattle.laws.specs.Choice.{pick, every, every_at, by_test}
use Rattle.laws.specs.Scan.{all_below_at}
use Rattle.kinds.specs.Sizes as sizes
use Rattle.kinds.specs.Stage as stage
use Rattle.kinds.specs.Reason as reason
use Rattle.kinds.specs.Kind as kind
use Rattle.kinds.specs.Desk as desk
use Rattle.kinds.specs.Word as word
use Rattle.kinds.specs.declared.House.{House}
use Rattle.kinds.specs.declared.Course.{Course}
use Rattle.kinds.specs.declared.Site.{Site}
use Rattle.kinds.specs.declared.MessageHead.{MessageHead}
use Rattle.kinds.specs.declared.Answer.{Answer}
use Rattle.kinds.specs.declared.Answer.TheVariants.{Refused, Done, Begun, Found, Searched, Committed, Aborted, Installed}
use Rattle.kinds.specs.declared.Answer.TheVariants.{Reported, Emitted, Replayed, Standing, Paged, Offset}
use Rattle.kinds.specs.State.{no_sub, sub_at}
use Rattle.rules.specs.House.{is_tx, is_mask}
use Rattle.rules.specs.Message.{message_words, entry_tx, entry_mask, entry_mark, entry_before, entry_count, entry_ok, entry_possible}
use Rattle.rules.specs.Message.{GoodMessage, most_entries}
use Rattle.rules.specs.MessageLaws.{head_clear}
use Rattle.rules.proofs.EntryLaws.{Marks}
use Rattle.rules.specs.KeysLaws.{by_order}
use Rattle.rules.specs.Live.{place_of, free_place, all_heard}
use Rattle.rules.specs.History.{is_forgotten}
use Rattle.rules.specs.Certify.{concurrent, vote_of}
use Rattle.rules.specs.Valid.{site_ok}
use Rattle.rules.specs.Answers.{on_done}
use Rattle.rules.specs.Effect.{Change, Effect, settle, changed}
use Rattle.rules.specs.Course.{head_of, send_to, raise, quietly, with_course_of, with_sub_of, with_reply, with_decision, is_outstanding}
use Rattle.rules.specs.Course.{prepared_step, certified_step, vote_step, vote_decides}
use Rattle.rules.specs.CallLaws.{reply_clear}
use Rattle.rules.specs.Deliver.{arrived, passed, reply_code, spent_to, spent_to_all, step_unless, join_turn, spoken, join_at, take_join}
use Rattle.rules.specs.Deliver.{joined_in_turn, take_joined, take_prepare, pass_prepare, conc_in_turn, gather_change, gather_lists, take_conc}
use Rattle.rules.specs.Deliver.{take_cert, vote_in_turn, take_vote, take_commit, take_abort, keeping, take_held, take_other, take_kind}
use Rattle.rules.specs.World.{World, site_step}
use Rattle.rules.specs.Book as book
use Rattle.rules.specs.Book.{Fact}
use Rattle.rules.proofs.Protocol.ProtocolTables.{Protocol, Msg, m_join, m_joined, m_prepare, m_conc, m_cert, m_vote, m_commit, m_abort}
use Rattle.rules.proofs.Protocol.Protocol.{Next}
use Rattle.rules.proofs.Protocol.Invariants.{Invariant}
use Rattle.rules.proofs.Protocol.Frames.{said}
use Rattle.rules.proofs.Refine.Refines.{IsFree, kind_of, tx_in, clock_in, argument_in, entries_in, slice_of, SiteIs, Refines}
use Rattle.rules.proofs.Refine.RefineLive.{place_none, free_spot}
use Rattle.rules.proofs.Refine.RefineStep.{Follows, by_code, stays}
use Rattle.rules.proofs.Refine.RefineTurn.{AtPlace, course_is, by_held}
use Rattle.rules.proofs.Refine.RefineActs.{Acts, acts_follow}
use Rattle.rules.proofs.Refine.RefineCertify.{covers, certifies}
use Rattle.rules.proofs.Refine.RefineQuiet.{pass_acts, joined_acts, commits_acts, aborts_acts}
use Rattle.rules.proofs.Refine.RefineReply.{named_turn, joins_acts, full_acts, unknown_acts, prepared_acts, certified_acts}
use Rattle.rules.proofs.Refine.RefineGather.{vote_acts}
use Rattle.rules.proofs.Refine.RefineConc.{conc_acts}

-- the head of a message of the protocol
abbrev pub head_in : ℕ → ℕ → ℕ → Msg → MessageHead
head_in a s n m = head_of (kind_of m) a s n (tx_in m) (clock_in m) (argument_in m) (entry_count (entries_in m))

-- what the book notes of a message taken at s, by its kind and transaction
abbrev pub begun_by : ℕ → ℕ → ℕ → List ℕ → Answer → List Fact
begun_by s k t words =
    on_done [] (pick (every (eqb k kind.join ∷ eqb (get_or words word.argument reason.full) 0 ∷ [])) (book.began s t ∷ []) [])

abbrev pub told_taken : ℕ → ℕ → ℕ → List ℕ → Answer → List Fact
told_taken s k t words a = begun_by s k t words a ++ book.commits t a

-- only a JOIN begins a part
no_join : (s k t : ℕ) (words : List ℕ) (a : Answer) → eqb k kind.join ≡ false → begun_by s k t words a ≡ []
no_join s k t words (Refused n) e = refl
no_join s k t words Done e = rw e
no_join s k t words (Begun n) e = refl
no_join s k t words (Found v) e = refl
no_join s k t words (Searched v n) e = refl
no_join s k t words (Committed n) e = refl
no_join s k t words (Aborted v) e = refl
no_join s k t words (Installed n c) e = refl
no_join s k t words (Reported n) e = refl
no_join s k t words (Emitted n c u) e = refl
no_join s k t words (Replayed n c) e = refl
no_join s k t words (Standing v n c) e = refl
no_join s k t words (Paged p r) e = refl
no_join s k t words (Offset o) e = refl

-- marks of good entries
good_marks : (o : House) (h : MessageHead) (es : List ℕ) → GoodMessage o h es → Marks es
unfolding entry_ok entry_possible
good_marks o h es g k =
    by_order k h.count
    (λ l. leb-true (entry_mark es k) 1
    (every_at (is_tx o (entry_tx es k) ∷ is_mask o (entry_mask es k) ∷ leb (entry_mark es k) 1 ∷ []) 2
    (every_at (ltb (entry_before es k) (entry_tx es k) ∷ entry_possible o es k ∷ []) 1
    (all_below_at (entry_ok o es) h.count k g.entries l))))
    (λ l. let z = get_or-eq_default es 0 {n = sizes.entry * k + 2} (omega (arith, g.size)) in omega arith)

both : (a b : Bool) → every (a ∷ b ∷ []) ≡ true → (a ≡ true) × (b ≡ true)
both a b e = (every_at (a ∷ b ∷ []) 0 e, every_at (a ∷ b ∷ []) 1 e)

module _ {house : House} {w : World} {p : Protocol} (r : Refines house w p) (i : Invariant house p) (s a n : ℕ) (l : 1 ≤ s)
    (h : s ≤ house.sites)
    (low : 1 ≤ a) (high : a ≤ house.sites)
    (valid : site_ok (w.site s) ≡ true) where
  abbrev x : Site
  x = w.site s

  abbrev lists : List ℕ
  lists = w.lists s

  abbrev y : SiteIs house s x (w.base s) lists (slice_of p s)
  y = r.site s l h

  abbrev Tells : List Fact → Effect → Type 0
  Tells fs e = Follows house p (site_step w s e (w.base s) e.lent).world fs

  -- no JOIN: it may commit
  abbrev Goal : ℕ → Effect → Type 0
  Goal t e = Tells (book.commits t e.answer) e

  abbrev Taken : ℕ → ℕ → Effect → Type 0
  Taken k t e = Tells (told_taken s k t e.words e.answer) e

  other : (k t : ℕ) (e : Effect) → eqb k kind.join ≡ false → Goal t e → Taken k t e
  other k t e f g = rw (no_join s k t e.words e.answer f) g

  -- a step at a place, or its refusal
  taken_step : (t code place : ℕ) (c : Change)
      → (code ≡ 0 → (q : Protocol) × Acts house s p q (settle x place c.turn) (w.base s) lists c.words (book.commits t c.answer))
      → Goal t (keeping lists (step_unless code x place c))
  taken_step t code place c f =
      by_code (λ e. Goal t (keeping lists e)) code x [] (changed x place c [])
      (λ e. acts_follow r s l h (keeping lists (changed x place c [])) (f e).1) (stays r s _ refl refl)

  -- for a transaction not held
  passes_by : (m : Msg) → Next p a s m → Goal (tx_in m) (keeping lists (passed x a))
  unfolding passed
  passes_by m next = acts_follow r s l h (keeping lists (passed x a)) (pass_acts p s a r.few low high y m next)

  -- JOIN
  takes_join : (t d : ℕ) → Next p a s (m_join t d)
      → Taken kind.join t (keeping lists (take_join x (head_in a s n (m_join t d)) (place_of x.live t)))
  unfolding take_join join_at join_turn head_of spoken send_to message_words
  takes_join t d next =
      let place = place_of x.live t in
      let free = free_place x.live in
      let u = named_turn x a t d in
      by_code (λ e. Taken kind.join t (keeping lists e)) (reply_code (leb sizes.live place) (spent_to x a)) x []
      (join_at x (head_in a s n (m_join t d)) free)
      (λ c. let f = place_none y.live t (leb-true _ _ (reply_clear (leb sizes.live place) (spent_to x a) c).turn) in
      by_test (ltb free sizes.live)
      (λ e. rw e
      (acts_follow r s l h (keeping lists (changed x free (send_to u kind.joined a 0 0 []) []))
      (joins_acts p s a t r.few low high y d free (free_spot y.live t (ltb-true _ _ e) f) next f).1))
      (λ e. rw e
      (acts_follow r s l h (keeping lists (spoken x (send_to u kind.joined a 0 reason.full [])))
      (full_acts p s a t r.few low high y d reason.full (λ z. omega arith) next).1)))
      (stays r s _ refl refl)

  -- PREPARE
  takes_prepare : (t k mask : ℕ) → Next p a s (m_prepare t k mask) → (A : AtPlace x p s t (place_of x.live t))
      → Goal t (keeping lists (take_prepare x (head_in a s n (m_prepare t k mask)) (place_of x.live t)))
  unfolding take_prepare head_of raise arrived
  takes_prepare t k mask next A =
      let place = place_of x.live t in
      let b = sub_at x place in
      let lost = is_forgotten x.counters.installs b.snapshot in
      let o = said i next in
      taken_step t (reply_code (eqb b.course.stage stage.active) (spent_to x a)) place
      (prepared_step (raise (arrived x place a) k) a mask lost (concurrent x place))
      (λ c. prepared_acts p s a t r.few low high y place A k mask lost (concurrent x place) next
      (sym (ap (λ (z : Course). z.stage) (course_is A))
      ∙ eqb-true _ _ (reply_clear (eqb b.course.stage stage.active) (spent_to x a) c).turn)
      (λ z. o.4 (sym z ∙ o.0)) (covers y i.parts A))

  passes_prepare : (t k mask : ℕ) → Next p a s (m_prepare t k mask) → IsFree (p.live s t)
      → Goal t (keeping lists (pass_prepare x (head_in a s n (m_prepare t k mask))))
  unfolding pass_prepare head_of join_turn spoken send_to
  passes_prepare t k mask next gone =
      let u = raise (named_turn x a t desk.house) k in
      let c = send_to u kind.vote a u.counters.clock reason.unknown [] in
      by_code (λ e. Goal t (keeping lists e)) (reply_code true (spent_to x a)) x [] (spoken x c)
      (λ z. acts_follow r s l h (keeping lists (spoken x c))
      (unknown_acts p s a t r.few low high y desk.house k mask reason.unknown (λ z. omega arith) next gone).1)
      (stays r s _ refl refl)

  -- CONC
  takes_conc : (t : ℕ) (es : List ℕ) → Next p a s (m_conc t es) → GoodMessage x.house (head_in a s n (m_conc t es)) es
      → (A : AtPlace x p s t (place_of x.live t))
      → Goal t (take_conc x (head_in a s n (m_conc t es)) es lists (place_of x.live t))
  unfolding take_conc conc_in_turn gather_change gather_lists head_of arrived most_entries
  takes_conc t es next good A =
      let place = place_of x.live t in
      let b = (sub_at x place).course in
      let c = with_reply b a 0 (entry_count es) in
      let spent = every (all_heard x.counters.own c.heard c.mask ∷ spent_to_all x b.mask ∷ []) in
      let few = (head_clear x.house (head_in a s n (m_conc t es)) good.head).few in
      by_code (Goal t) (reply_code (conc_in_turn b a) spent) x lists _
      (λ z. let d = both (eqb b.stage stage.prepared) (is_outstanding b a) (reply_clear (conc_in_turn b a) spent z).turn in
      acts_follow r s l h
      (changed x place (gather_change x (head_in a s n (m_conc t es)) place (gather_lists x place es lists)) (gather_lists x place es lists))
      (conc_acts p s a r.few l h low high i y place A valid es good.size few
      (good_marks x.house (head_in a s n (m_conc t es)) es good) next
      (sym (ap (λ (z : Course). z.stage) (course_is A)) ∙ eqb-true _ _ d.0)
      (sym (ap (λ (z : Course). is_outstanding z a) (course_is A)) ∙ d.1)).1)
      (stays r s _ refl refl)

  -- any but a JOIN
  handles : (m : Msg) → eqb (kind_of m) kind.join ≡ false → Next p a s m → GoodMessage x.house (head_in a s n m) (entries_in m)
      → Goal (tx_in m) (take_kind (kind_of m) x (head_in a s n m) (entries_in m) lists (place_of x.live (tx_in m)))
  unfolding take_kind take_held take_other head_of take_joined joined_in_turn arrived take_commit take_abort take_vote take_cert raise quietly
  handles (m_join t d) e next good = absurd (let z : ◌≡◌ {A = ℕ} 0 1 = cc in omega arith)
  handles (m_joined t v) o next good =
      let place = place_of x.live t in
      by_held x p s y.live t
      (λ A e. rw e
      (taken_step t (reply_code (joined_in_turn (sub_at x place).course a) false) place
      (quietly (with_course_of (arrived x place a) (with_reply (sub_at x place).course a v 0)))
      (λ c. let d =
      both (eqb (sub_at x place).course.stage stage.active) (is_outstanding (sub_at x place).course a)
      (reply_clear (joined_in_turn (sub_at x place).course a) false c).turn in (
        _,
        joined_acts p s a r.few low high y place A v next (sym (ap (λ (z : Course). z.stage) (course_is A)) ∙ eqb-true _ _ d.0)
            (sym (ap (λ (z : Course). is_outstanding z a) (course_is A)) ∙ d.1),
      ))))
      (λ f e. rw e (passes_by (m_joined t v) next))
  handles (m_prepare t k mask) o next good =
      by_held x p s y.live t (λ A e. rw e (takes_prepare t k mask next A)) (λ f e. rw e (passes_prepare t k mask next f))
  handles (m_conc t es) o next good =
      by_held x p s y.live t (λ A e. rw e (takes_conc t es next good A)) (λ f e. rw e (passes_by (m_conc t es) next))
  handles (m_cert t es) o next good =
      let place = place_of x.live t in
      by_held x p s y.live t
      (λ A e. rw e
      (taken_step t (reply_code (eqb (sub_at x place).course.stage stage.prepared) (spent_to x a)) place
      (certified_step (arrived x place a) a (vote_of x place es (entry_count es)))
      (λ c. let d = (reply_clear (eqb (sub_at x place).course.stage stage.prepared) (spent_to x a) c).turn in
      certified_acts p s a t r.few low high y place A es (vote_of x place es (entry_count es)) next
      (sym (ap (λ (z : Course). z.stage) (course_is A)) ∙ eqb-true _ _ d)
      (certifies y i.parts A es))))
      (λ f e. rw e (passes_by (m_cert t es) next))
  handles (m_vote t k v) o next good =
      let place = place_of x.live t in
      let c = (sub_at x place).course in
      by_held x p s y.live t
      (λ A e. rw e
      (taken_step t (reply_code (vote_in_turn c a v) (every (vote_decides x.counters.own c a v ∷ spent_to_all x c.mask ∷ []))) place
      (vote_step (raise (arrived x place a) k) a v)
      (λ z. vote_acts p s a r.few low high i y place A k v next
      (reply_clear (vote_in_turn c a v) (every (vote_decides x.counters.own c a v ∷ spent_to_all x c.mask ∷ [])) z).turn)))
      (λ f e. rw e (passes_by (m_vote t k v) next))
  handles (m_commit t k) o next good =
      let place = place_of x.live t in
      by_held x p s y.live t
      (λ A e. rw e
      (taken_step t (reply_code (eqb (sub_at x place).course.stage stage.queued) false) place
      (quietly (with_course_of (raise (arrived x place a) k) (with_decision (sub_at x place).course k)))
      (λ c. (
        _,
        commits_acts p s a r.few low high y place A k next
            (sym (ap (λ (z : Course). z.stage) (course_is A))
            ∙ eqb-true _ _ (reply_clear (eqb (sub_at x place).course.stage stage.queued) false c).turn),
      ))))
      (λ f e. rw e (passes_by (m_commit t k) next))
  handles (m_abort t) o next good =
      let place = place_of x.live t in
      by_held x p s y.live t
      (λ A e. rw e
      (taken_step t (reply_code (not (eqb (sub_at x place).course.stage stage.decided)) false) place
      (quietly (with_sub_of (arrived x place a) no_sub))
      (λ c. (
        _,
        aborts_acts p s a r.few low high y place A next
            (λ z. eqb-false (sub_at x place).course.stage stage.decided
            (not-true _ (reply_clear (not (eqb (sub_at x place).course.stage stage.decided)) false c).turn)
            (ap (λ (z : Course). z.stage) (course_is A) ∙ z)),
      ))))
      (λ f e. rw e (passes_by (m_abort t) next))

  pub takes : (m : Msg) → Next p a s m → GoodMessage x.house (head_in a s n m) (entries_in m)
      → Taken (kind_of m) (tx_in m) (take_kind (kind_of m) x (head_in a s n m) (entries_in m) lists (place_of x.live (tx_in m)))
  unfolding take_kind
  takes (m_join t d) next good = takes_join t d next
  takes (m_joined t v) next good = other kind.joined t _ refl (handles (m_joined t v) refl next good)
  takes (m_prepare t k mask) next good = other kind.prepare t _ refl (handles (m_prepare t k mask) refl next good)
  takes (m_conc t es) next good = other kind.conc t _ refl (handles (m_conc t es) refl next good)
  takes (m_cert t es) next good = other kind.cert t _ refl (handles (m_cert t es) refl next good)
  takes (m_vote t k v) next good = other kind.vote t _ refl (handles (m_vote t k v) refl next good)
  takes (m_commit t k) next good = other kind.commit t _ refl (handles (m_commit t k) refl next good)
  takes (m_abort t) next good = other kind.abort t _ refl (handles (m_abort t) refl next good)
