-- What a site writes into its log, as words: each record passes its check.
use Prim.Native.Nat.{ℕ}
use mathlib.Core.Path.{◌≡◌, refl, sym, ap, ◌∙◌}
use mathlib.Core.Bool.{true}
use mathlib.Core.Logic.{◌⊎◌, inl, inr}
use mathlib.Core.List.{List, [], ◌∷◌, append-nil}
use native.Mathlib.Omega.{arith}
use borrow.Author.Tests.{le-leb}
use lib.ListN.{length}
use Rattle.kinds.specs.Sizes as sizes
use Rattle.kinds.specs.Stage as stage
use Rattle.kinds.specs.State.{sub_at}
use Rattle.kinds.specs.declared.House.{House}
use Rattle.kinds.specs.declared.Sub.{Sub}
use Rattle.kinds.specs.declared.RecordHead.{RecordHead}
use Rattle.kinds.specs.declared.Site.{Site}
use Rattle.kinds.specs.declared.Answer.TheVariants.{Reported}
use Rattle.rules.specs.House.{coordinator_of, serial_of, is_site, is_tx, in_mask}
use Rattle.rules.specs.Record.{record_words, part_ok, state_ok}
use Rattle.rules.specs.Queue.{least_queued, is_installable, state_number}
use Rattle.rules.specs.Valid.{site_ok}
use Rattle.rules.specs.Effect.{Effect, refused}
use Rattle.rules.specs.Install.{install_code, part_head, part_words, installed_at, install_of, report_code, state_words, report_of}
use Rattle.rules.specs.InstallLaws.{due_low, due_decided, part_good, state_good}
use Rattle.rules.specs.CallLaws.{install_clear, report_clear}
use Rattle.rules.specs.World.{World, Call, step, site_step, log_step, merger_step, merge_step, copy_step, replay_step, record_in}
use Rattle.rules.specs.World as world
use Rattle.rules.proofs.Lists.Tables.{upd_cases, All, all_append, all_one}
use Rattle.rules.proofs.Protocol.ProtocolTables.{Protocol}
use Rattle.rules.proofs.Protocol.Protocol.{AtStage}
use Rattle.rules.proofs.Protocol.Invariants.{Invariant}
use Rattle.rules.proofs.Refine.Refines.{Refines, count_is}
use Rattle.rules.proofs.Refine.RefineTurn.{part_place}
use Rattle.rules.proofs.Refine.RefineStep.{by_code, inside}

abbrev pub RecordOk : House → List ℕ → Type 0
RecordOk house m = (part_ok house m ≡ true) ⊎ (state_ok house m ≡ true)

record_written : (r : RecordHead) (ws : List ℕ) → record_in (record_words r ws) ≡ record_words r ws ∷ []
unfolding record_words
record_written r ws = refl

module _ {house : House} {w : World} {p : Protocol} (r : Refines house w p) (inv : Invariant house p)
    (f : (s : ℕ) → All (RecordOk house) (w.log s)) where
  -- a call that writes nothing, or one record, into the log of s
  same_log : (s : ℕ) (e : Effect) (base : List ℕ) → e.words ≡ [] → (j : ℕ) → All (RecordOk house) ((log_step w s e base).world.log j)
  unfolding log_step
  same_log s e base n = upd_cases (λ j l. All (RecordOk house) l) w.log s _ (rw (n, append-nil) (f s)) (λ j k. f j)

  more_log : (s : ℕ) (e : Effect) (base : List ℕ) (h : RecordHead) (ws : List ℕ) → e.words ≡ record_words h ws
      → RecordOk house (record_words h ws)
      → (j : ℕ) → All (RecordOk house) ((log_step w s e base).world.log j)
  unfolding log_step
  more_log s e base h ws n o =
      upd_cases (λ j l. All (RecordOk house) l) w.log s _ (rw (n, record_written h ws) (all_append (f s) (all_one o))) (λ j k. f j)

  module _ (s : ℕ) (out : List ℕ) where
    abbrev site : Site
    site = w.site s

    abbrev number : ℕ
    number = state_number site.live site.counters.clock sizes.live

    abbrev reported : Effect
    reported = record { answer = Reported number; words = state_words site.counters.own number; site = site; lent = [] }

    reports : report_code (site_ok site) (length out) ≡ 0 → (j : ℕ) → All (RecordOk house) ((log_step w s reported (w.base s)).world.log j)
    unfolding state_words
    reports e =
        let v = (report_clear (site_ok site) (length out) e).valid in
        let (l, h) = inside r s v in
        let y = r.site s l h in
        more_log s reported (w.base s) _ [] refl (inr (rw y.house_is at (state_good site number v)))

    report_written : (j : ℕ) → All (RecordOk house) ((step w (world.report s out)).world.log j)
    unfolding step report_of
    report_written =
        by_code (λ e. (j : ℕ) → All (RecordOk house) ((log_step w s e (w.base s)).world.log j)) (report_code (site_ok site) (length out)) site
        [] reported
        reports (same_log s (refused (report_code (site_ok site) (length out)) site []) (w.base s) refl)

    abbrev due : ℕ
    due = least_queued site.live sizes.live

    -- what is installed is a part of the house's, at a participant
    part_passes : site_ok site ≡ true → is_installable site.live due ≡ true
        → part_ok house (part_words site.counters.own (sub_at site due)) ≡ true
    unfolding is_tx is_site
    part_passes v d =
        let (l, h) = inside r s v in
        let y = r.site s l h in
        let low = due_low site.live due d in
        let decided : (sub_at site due).course.stage ≡ stage.decided = due_decided site.live due d in
        let at = part_place site p s due y.live low (λ f. omega arith) in
        let t = (sub_at site due).tx in
        let x : AtStage p s t stage.decided = sym (ap (λ (b : Sub). b.course.stage) at.part) ∙ decided in
        let has = inv.parts.has s t (λ f. omega arith) in
        let (c, k) = inv.parts.site (coordinator_of t) t (inv.parts.coordinator s t has) in
        let tx : is_tx site.house t ≡ true =
        rw (
          le-leb 1 (coordinator_of t) c,
          le-leb (coordinator_of t) site.house.sites (omega (arith, count_is y.house_is)),
          le-leb 1 (serial_of t) (inv.parts.serial s t has).0,
        ) in
        let m = ap (λ (b : Sub). b.course.mask) at.part ∙ (inv.courses.mask s t (λ f. omega arith) (λ f. omega arith)).1 in
        let among : in_mask (sub_at site due).course.mask site.counters.own ≡ true =
        rw (m, y.counters.own_is) (inv.account.yes s t (inv.courses.decided s t x).0).1 in
        rw y.house_is at (part_good site due v low tx among)

    abbrev code : ℕ
    code = install_code (site_ok site) (length out) (length (w.base s)) (is_installable site.live due) site.counters.installs

    installs : code ≡ 0 → (j : ℕ)
        → All (RecordOk house) ((log_step w s (installed_at site (w.base s) due) (installed_at site (w.base s) due).lent).world.log j)
    unfolding installed_at part_words part_head
    installs e =
        let c = install_clear (site_ok site) (length out) (length (w.base s)) (is_installable site.live due)
        site.counters.installs e in
        more_log s (installed_at site (w.base s) due) _ _ _ refl (inl (part_passes c.valid c.least))

    install_written : (j : ℕ) → All (RecordOk house) ((step w (world.install s out)).world.log j)
    unfolding step install_of
    install_written =
        by_code (λ e. (j : ℕ) → All (RecordOk house) ((log_step w s e e.lent).world.log j)) code site (w.base s)
        (installed_at site (w.base s) due)
        installs (same_log s (refused code site (w.base s)) (w.base s) refl)

  pub call_written : (c : Call) (s : ℕ) → All (RecordOk house) ((step w c).world.log s)
  unfolding step site_step merge_step merger_step replay_step copy_step
  call_written (world.begin s d) = f
  call_written (world.enlist s out t n) = f
  call_written (world.read s t key) = f
  call_written (world.write s t key v) = f
  call_written (world.search s p key) = f
  call_written (world.commit s out t) = f
  call_written (world.abandon s out t) = f
  call_written (world.message s out m) = f
  call_written (world.install s out) = install_written s out
  call_written (world.report s out) = report_written s out
  call_written (world.merge m) = f
  call_written (world.emit out) = f
  call_written (world.replay c m) = f
  call_written (world.value c key) = f
