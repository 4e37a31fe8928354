-- Report and install, as moves: the calls that write a site's log.
use Prim.Native.Nat.{ℕ, zero, suc, ◌+◌, ◌-◌, ◌*◌, ◌≤◌, ◌<◌}
use mathlib.Core.Path.{◌≡◌, refl, sym, ap, ◌∙◌}
use mathlib.Core.Bool.{true}
use mathlib.Core.Logic.{inl, inr}
use mathlib.Core.List.{List, [], ◌∷◌, ◌++◌, map, map-append}
use native.Mathlib.Omega.{arith}
use borrow.Author.Tests.{ltb-true, eqb-true}
use lib.Dec.{ltb, leb, eqb}
use lib.ListN.{length, get_or, set, length-set, length-append, get_or-append}
use lib.Seq.{get_or-set_same, get_or-set_other, get_or-append_seam}
use Rattle.laws.specs.Choice.{every_at, by_test}
use Rattle.laws.specs.Scan.{fold_below}
use Rattle.kinds.specs.Sizes as sizes
use Rattle.kinds.specs.declared.House.{House}
use Rattle.kinds.specs.Stage as stage
use Rattle.kinds.specs.declared.Keys.{Keys}
use Rattle.kinds.specs.declared.Course.{Course}
use Rattle.kinds.specs.declared.Sub.{Sub}
use Rattle.kinds.specs.declared.Entry.{Entry}
use Rattle.kinds.specs.declared.Site.{Site}
use Rattle.kinds.specs.declared.Answer.TheVariants.{Reported}
use Rattle.kinds.specs.State.{fresh, no_sub, past_entry, sub_at, entry_at}
use Rattle.rules.specs.House.{coordinator_of}
use Rattle.rules.specs.Record.{record_words}
use Rattle.rules.specs.Value.{put_value}
use Rattle.rules.specs.ValueLaws.{put_length}
use Rattle.rules.specs.KeysLaws.{by_order}
use Rattle.rules.specs.Live.{part_at, is_queued}
use Rattle.rules.specs.History.{slot_of, remembered, forgotten, forget_into}
use Rattle.rules.specs.Queue.{least_queued, is_installable, state_number}
use Rattle.rules.proofs.QueueLaws.{least_first, state_clock, state_open, state_decided, StateIs, state_is}
use Rattle.rules.specs.Valid.{site_ok}
use Rattle.rules.specs.Effect.{Effect, refused}
use Rattle.rules.specs.Install.{install_code, entry_of, part_head, part_words, base_after, installed_at, install_of, report_code, state_words}
use Rattle.rules.specs.Install.{report_of}
use Rattle.rules.specs.CallLaws.{install_clear, report_clear}
use Rattle.rules.specs.World.{World, upd, step, log_step, record_in}
use Rattle.rules.specs.World as world
use Rattle.rules.specs.Book as book
use Rattle.rules.proofs.Lists.Tables.{upd_same, upd_other, row_other}
use Rattle.rules.proofs.Protocol.ProtocolTables.{Protocol, Rec, r_part, r_state, parts_of}
use Rattle.rules.proofs.Protocol.Protocol.{LeastQueued, StateAt, install, report, stop, more, Bound}
use Rattle.rules.proofs.Steps.StepParts.{parts_append, parts_state}
use Rattle.rules.proofs.Refine.Refines.{IsFree, HistoryIs, LiveIs, rec_words, entry_words, part_head_of, Refines}
use Rattle.rules.proofs.Refine.RefineTurn.{part_place, site_gone}
use Rattle.rules.proofs.Refine.RefineStep.{Follows, told_by, by_code, inside, unlogged, log_step_lem}

-- a record written behind the log
log_more : (s : ℕ) (l : List (List ℕ)) (m : List Rec) (a : Rec) (ws : List ℕ) → l ≡ map (rec_words s) m → record_in ws ≡ rec_words s a ∷ []
    → l ++ record_in ws ≡ map (rec_words s) (m ++ (a ∷ []))
log_more s l m a ws e f = rw (e, f) (sym (map-append (rec_words s) m (a ∷ [])))

state_record : (own s n : ℕ) → own ≡ s → record_in (state_words own n) ≡ state_words s n ∷ []
unfolding state_words record_words
state_record own s n e = rw e

part_record : (own s : ℕ) (b c : Sub) → own ≡ s → b ≡ c → record_in (part_words own b) ≡ entry_words s (entry_of c) ∷ []
unfolding part_words part_head entry_words part_head_of entry_of record_words
part_record own s b c e f = rw (e, f)

-- The state number, by transaction.
state_at : (live : List Sub) (p : Protocol) (s clock : ℕ) → LiveIs live (p.live s) → clock ≡ p.clock s
    → StateAt p s (state_number live clock sizes.live)
state_at live p s clock l e =
    record {
      clock = omega (arith, state_clock live clock sizes.live);
      marks = λ u g. let (i, h, q, x) = l.found u (λ f. omega arith) in
          omega (
            arith,
            state_open live clock sizes.live i h (ap (λ (b : Sub). b.course.stage) q ∙ g),
            ap (λ (b : Sub). b.course.number) q,
          );
      numbers = λ u g. let (i, h, q, x) = l.found u (λ f. omega arith) in
          omega (
            arith,
            state_decided live clock sizes.live i h (ap (λ (b : Sub). b.course.stage) q ∙ g),
            ap (λ (b : Sub). b.course.number) q,
          );
      is = one (state_is live clock sizes.live);
    }
  where
    n : ℕ
    n = state_number live clock sizes.live

    one : StateIs live clock sizes.live n → Bound p s n
    one (inl k) = inl (k ∙ e)
    one (inr (inl (j, b, g, k))) =
        let c = ap (λ (b : Sub). b.course) (l.holds j b (λ f. omega arith)) in
        inr (inl (_, ap (λ (c : Course). c.stage) (sym c) ∙ g, k ∙ ap (λ (c : Course). c.number) c))
    one (inr (inr (j, b, g, k))) =
        let c = ap (λ (b : Sub). b.course) (l.holds j b (λ f. omega arith)) in
        inr (inr (_, ap (λ (c : Course). c.stage) (sym c) ∙ g, k ∙ ap (λ (c : Course). c.number - 1) c))

module _ {house : House} {w : World} {p : Protocol} (r : Refines house w p) (s : ℕ) (out : List ℕ) where
  abbrev here : Site
  here = w.site s

  abbrev state : ℕ
  state = state_number here.live here.counters.clock sizes.live

  abbrev reported : Effect
  reported = record { answer = Reported state; words = state_words here.counters.own state; site = here; lent = [] }

  reports : report_code (site_ok here) (length out) ≡ 0 → Follows house p (log_step w s reported (w.base s)).world []
  reports e =
      let c = report_clear (site_ok here) (length out) e in
      let (l, h) = inside r s c.valid in
      let y = r.site s l h in
      let k = p.log s ++ (r_state state ∷ []) in
      let g : upd p.log s k s ≡ k = upd_same p.log s k in
      let z : parts_of (upd p.log s k s) ≡ parts_of (p.log s) = rw g (parts_state (p.log s) state) in (
        _,
        more stop (report s state (state_at here.live p s here.counters.clock y.live y.counters.clock_is)),
        refl,
        log_step_lem r s l h
            (record {
              clock = λ j n. refl;
              serial = λ j n. refl;
              live = λ j n. refl;
              post = λ j n m. refl;
              taken = λ n j m. refl;
              log = λ j n. upd_other p.log s k j n;
              gathered = λ n m. refl;
            })
            reported (w.base s)
            (record {
              house_is = y.house_is;
              counters = rw z y.counters;
              channels = y.channels;
              live = y.live;
              history = rw z y.history;
              lists = y.lists;
              base_size = y.base_size;
            })
            (λ a b. refl)
            (rw g (log_more s (w.log s) (p.log s) (r_state state) (state_words here.counters.own state) (r.log s)
            (state_record here.counters.own s state y.counters.own_is))),
      )

  pub report_moves : Follows house p (step w (world.report s out)).world []
  unfolding step report_of
  report_moves =
      by_code (λ e. Follows house p (log_step w s e (w.base s)).world []) (report_code (site_ok here) (length out)) here [] reported reports
      (p, stop, refl, unlogged r s _ (w.base s) refl refl refl)

-- The history with one install more: the new one takes the slot of the one that is forgotten.
slots_apart : (n k : ℕ) → k < n → n < k + sizes.history → slot_of k ≡ slot_of n → ⊥
slots_apart n k l h e = omega arith

-- the i-th remembered of one install more: the new one, or one remembered before
pub record Older (n k : ℕ) : Type 0 where
  pub index : ℕ
  pub is : forgotten n + index ≡ k
  pub low : index < remembered n
  pub near : n < k + sizes.history

older : (n i : ℕ) → forgotten (n + 1) + i < n → Older n (forgotten (n + 1) + i)
unfolding remembered forgotten
older n i l =
    record { index = n + 1 - sizes.history + i - (n - sizes.history); is = omega arith; low = omega arith; near = omega arith }

newest : (n i : ℕ) → i < remembered (n + 1) → n ≤ forgotten (n + 1) + i → forgotten (n + 1) + i ≡ n
unfolding remembered forgotten
newest n i l h = omega arith

history_more : (history es : List Entry) (e : Entry) → HistoryIs history es
    → HistoryIs (set history (slot_of (length es)) e) (es ++ (e ∷ []))
history_more history es e x =
    record {
      size = length-set history (slot_of (length es)) e ∙ x.size;
      recalls = λ i h.
          let n = length es in
          let m : length (es ++ (e ∷ [])) ≡ n + 1 = length-append es (e ∷ []) in
          let h' : i < remembered (n + 1) = rw m at h in
          let k = forgotten (n + 1) + i in
          rw m
          (by_order k n
          (λ l.
          let o = older n i l in
          get_or-set_other history (slot_of n) (slot_of k) e past_entry (slots_apart n k l o.near)
          ∙ sym (ap (λ (z : ℕ). get_or history (slot_of z) past_entry) o.is)
          ∙ x.recalls o.index o.low
          ∙ ap (λ (z : ℕ). get_or es z past_entry) o.is
          ∙ sym (get_or-append es (e ∷ []) past_entry k l))
          (λ l.
          let q = newest n i h' l in
          rw q (get_or-set_same history (slot_of n) e past_entry (omega (arith, x.size)) ∙ sym (get_or-append_seam es e [] past_entry))));
    }

-- what is forgotten keeps the base values' number
pub forget_length : (b : Keys) (n : ℕ) (base : List ℕ)
    → length (fold_below (λ i l. put_value l (sizes.value * get_or b.writes i 0) (get_or b.values i fresh)) n base) ≡ length base
unfolding fold_below
forget_length b zero base = refl
forget_length b (suc n) base = simp put_length (forget_length b n base)

base_length : (x : Site) (base : List ℕ) → length (base_after x base) ≡ length base
unfolding base_after forget_into
base_length x base =
    by_test (leb sizes.history x.counters.installs)
    (λ e. rw e (forget_length (entry_at x (slot_of x.counters.installs)).keys _ base))
    (λ e. rw e)

-- no queued part comes before the one that is due
queued_held : (b : Sub) → is_queued b ≡ true → IsFree b → ⊥
unfolding is_queued
queued_held b q f = let z = rw f at q in let y : ◌≡◌ {A = ℕ} 0 1 = cc in omega arith

least_at : (live : List Sub) (p : Protocol) (s t : ℕ) → LiveIs live (p.live s) → part_at live (least_queued live sizes.live) ≡ p.live s t
    → LeastQueued p s t
unfolding is_queued
least_at live p s t l e u q =
    let (i, h, x, y) = l.found u (queued_held (p.live s u) q) in
    let z = least_first live sizes.live i (omega arith) h (ap is_queued x ∙ q) in
    rw (x, e) at z.1

module _ {house : House} {w : World} {p : Protocol} (r : Refines house w p) (s : ℕ) (out : List ℕ) where
  abbrev site : Site
  site = w.site s

  abbrev due : ℕ
  due = least_queued site.live sizes.live

  installs : install_code (site_ok site) (length out) (length (w.base s)) (is_installable site.live due) site.counters.installs ≡ 0
      → Follows house p (log_step w s (installed_at site (w.base s) due) (base_after site (w.base s))).world
      (book.installs s (installed_at site (w.base s) due).answer)
  unfolding installed_at is_installable
  installs e =
      let c = install_clear (site_ok site) (length out) (length (w.base s)) (is_installable site.live due) site.counters.installs e in
      let (l, h) = inside r s c.valid in
      let y = r.site s l h in
      let low : due < sizes.live =
      ltb-true due sizes.live
      (every_at (ltb due sizes.live ∷ eqb (part_at site.live due).course.stage stage.decided ∷ []) 0 c.least) in
      let decided : (sub_at site due).course.stage ≡ stage.decided =
      eqb-true _ _ (every_at (ltb due sizes.live ∷ eqb (part_at site.live due).course.stage stage.decided ∷ []) 1 c.least) in
      let a = part_place site p s due y.live low (λ f. omega arith) in
      let t = (sub_at site due).tx in
      let b = p.live s t in
      let k = p.log s ++ (r_part (entry_of b) ∷ []) in
      let g : upd p.log s k s ≡ k = upd_same p.log s k in
      let z : parts_of (upd p.log s k s) ≡ parts_of (p.log s) ++ (entry_of b ∷ []) =
      rw g (parts_append (p.log s) (r_part (entry_of b) ∷ [])) in
      let gone = site_gone y refl a in (
        _,
        more stop (install s t (sym (ap (λ (x : Sub). x.course.stage) a.part) ∙ decided)
            (least_at site.live p s t y.live a.part)),
        ap (λ (b : Sub). book.installed s b.course.number (coordinator_of t) ∷ []) (sym a.part),
        log_step_lem r s l h
            (record {
              clock = λ j n. refl;
              serial = λ j n. refl;
              live = λ j n. row_other p.live s t no_sub j n;
              post = λ j n m. refl;
              taken = λ n j m. refl;
              log = λ j n. upd_other p.log s k j n;
              gathered = λ n m. refl;
            })
            (installed_at site (w.base s) due) (base_after site (w.base s))
            (record {
              house_is = y.house_is;
              counters =
                  record {
                    own_is = y.counters.own_is;
                    clock_is = y.counters.clock_is;
                    serial_is = y.counters.serial_is;
                    installs_are = rw z (omega (arith, y.counters.installs_are, length-append (parts_of (p.log s)) (entry_of b ∷ [])));
                  };
              channels = y.channels;
              live = gone.live;
              history = rw (z, y.counters.installs_are, ap entry_of a.part)
                  (history_more site.history (parts_of (p.log s)) (entry_of b) y.history);
              lists = gone.lists;
              base_size = base_length site (w.base s) ∙ y.base_size;
            })
            (λ m n. refl)
            (rw g
            (log_more s (w.log s) (p.log s) (r_part (entry_of b)) (part_words site.counters.own (sub_at site due)) (r.log s)
            (part_record site.counters.own s (sub_at site due) b y.counters.own_is a.part))),
      )

  pub install_moves : let x = step w (world.install s out) in
      Follows house p x.world (told_by (world.install s out) x.answer x.words)
  unfolding step log_step install_of installed_at
  install_moves =
      let code = install_code (site_ok site) (length out) (length (w.base s)) (is_installable site.live due) site.counters.installs in
      by_code (λ e. Follows house p (log_step w s e e.lent).world (book.installs s e.answer)) code site (w.base s)
      (installed_at site (w.base s) due) installs
      (p, stop, refl, unlogged r s (refused code site (w.base s)) (w.base s) refl refl refl)
