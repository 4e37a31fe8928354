-- Base values and copies hold values that fit: an install forgets values of a possible site, a replay lays over those of a record that
-- passes its check, and no other call changes them.
use Prim.Native.Nat.{ℕ, zero, suc, ◌+◌, ◌*◌, ◌≤◌, ◌<◌}
use mathlib.Core.Path.{◌≡◌, refl, ◌∙◌}
use mathlib.Core.Bool.{true}
use mathlib.Core.List.{List, [], ◌∷◌}
use mathlib.Core.Logic.{⊎_elim}
use native.Mathlib.Omega.{arith}
use borrow.Author.Tests.{ltb-true}
use lib.Dec.{leb, ltb}
use lib.ListN.{length, get_or, set, replicate, length-set}
use Rattle.laws.specs.Choice.{by_test, by_same, every_at}
use Rattle.laws.specs.Scan.{fold_below, all_below_at}
use Rattle.kinds.specs.Sizes as sizes
use Rattle.kinds.specs.Word as word
use Rattle.kinds.specs.State.{fresh}
use Rattle.kinds.specs.declared.Answer.TheVariants.{Refused}
use Rattle.kinds.specs.declared.House.{House}
use Rattle.kinds.specs.declared.Keys.{Keys}
use Rattle.kinds.specs.declared.Site.{Site}
use Rattle.rules.specs.Value.{value_at, put_value, base_value, Fits, fits}
use Rattle.rules.specs.ValueLaws.{put_same, put_other, base_other, set_before, fits_fit, each_fits}
use Rattle.rules.specs.HistoryLaws.{slot_low}
use Rattle.rules.specs.History.{slot_of, forget_into}
use Rattle.rules.specs.Queue.{least_queued, is_installable}
use Rattle.rules.specs.Record.{key_ascends, merged_write_ok, record_head, record_writes, write_key, write_value}
use Rattle.rules.specs.RecordLaws.{merged_passed_good}
use Rattle.rules.specs.Valid.{site_ok}
use Rattle.rules.specs.ValidLaws.{ValidKeys, valid_site}
use Rattle.rules.specs.CallLaws.{install_clear}
use Rattle.rules.specs.Install.{install_code, base_after, installed_at, install_of}
use Rattle.rules.specs.Copy.{copy_start_of, copy_value, put_writes, replayed, replay_of}
use Rattle.rules.specs.World as world
use Rattle.rules.specs.World.{Call, World, upd, firsts_of, fresh_world, site_step, log_step, merger_step, copy_step, merge_step, replay_step}
use Rattle.rules.specs.World.{step, run}
use Rattle.rules.specs.Install.{start_code}
use Rattle.rules.proofs.Lists.Tables.{upd_cases}
use Rattle.rules.proofs.Refine.RefineStep.{by_code}
use Rattle.rules.proofs.Refine.RefineFresh.{fresh_table}
use Rattle.rules.proofs.Refine.RefineLog.{forget_length}
use Rattle.rules.proofs.Refine.RefineLaid.{length_put}
use Rattle.rules.proofs.Refine.RefineReplay.{Replays, replay_cases}

abbrev pub BaseFits : List ℕ → Type 0
BaseFits base = (k : ℕ) → Fits (base_value base k)

abbrev pub CopyFits : List ℕ → Type 0
CopyFits copy = (k : ℕ) → Fits (copy_value copy k)

pub record TablesFit (w : World) : Type 0 where
  pub bases : (s : ℕ) → BaseFits (w.base s)
  pub copies : (c : ℕ) → CopyFits (w.copy c)

-- Fresh.
zero_at : (n i : ℕ) → ◌≡◌ {A = ℕ} (get_or (replicate n 0) i 0) 0
zero_at zero i = refl
zero_at (suc n) zero = refl
zero_at (suc n) (suc i) = zero_at n i

zeros_fit : (n at : ℕ) → Fits (value_at (replicate n 0) at)
unfolding value_at
zeros_fit n at = omega (arith, zero_at n (at + word.value_start), zero_at n (at + word.value_length))

copy_started : (copy_start_of (replicate sizes.copy 0)).copy ≡ replicate sizes.copy 0
unfolding copy_start_of
copy_started = refl

pub fresh_fits : (o : House) → TablesFit (fresh_world o)
unfolding fresh_world
fresh_fits o =
    record {
      bases = λ s k. rw (fresh_table (start_code o.sites (firsts_of o) s sizes.base sizes.lists) sizes.base) (zeros_fit sizes.base _);
      copies = λ c k. rw copy_started (zeros_fit sizes.copy _);
    }

-- Install: the writes of a valid entry go into the base values.
module _ {o : House} {own : ℕ} (b : Keys) (v : ValidKeys o own b) (base : List ℕ) (size : length base ≡ sizes.base) (old : BaseFits base)
  where
    -- the base values with the first n writes
    abbrev forgets : ℕ → List ℕ
    forgets n = fold_below (λ i l. put_value l (sizes.value * get_or b.writes i 0) (get_or b.values i fresh)) n base

    forgets_fit : (n : ℕ) → n ≤ b.wrote → BaseFits (forgets n)
    unfolding fold_below
    forgets_fit zero h k = old k
    forgets_fit (suc n) h k =
        let key = get_or b.writes n 0 in
        let new = get_or b.values n fresh in
        let l = forget_length b n base in
        by_same key k
        (λ e. rw (← e, put_same (forgets n) (sizes.value * key) new (omega (arith, v.wrote_low n h)))
        (fits_fit new (each_fits b.values b.wrote n v.values_fit_lem h)))
        (λ e. rw (base_other (forgets n) key k new e) (forgets_fit n (omega arith) k))

after_fits : (s : Site) (base : List ℕ) → site_ok s ≡ true → length base ≡ sizes.base → BaseFits base → BaseFits (base_after s base)
unfolding base_after forget_into
after_fits s base ok size old =
    let n = s.counters.installs in
    by_test (leb sizes.history n)
    (λ t. rw t (forgets_fit _ ((valid_site s ok).entry (slot_of n) (slot_low n)).keys base size old _ (omega arith)))
    (λ t. rw t old)

install_fits : (s : Site) (room : ℕ) (base : List ℕ) → BaseFits base → BaseFits (install_of s room base).lent
unfolding install_of installed_at
install_fits s room base old =
    let place = least_queued s.live sizes.live in
    let due = is_installable s.live place in
    let n = s.counters.installs in
    by_code (λ e. BaseFits e.lent) (install_code (site_ok s) room (length base) due n) s base (installed_at s base place)
    (λ e. let c = install_clear (site_ok s) room (length base) due n e in
    after_fits s base c.valid c.whole old)
    old

-- Replay: the writes of a merged record go into the copy.
module _ (copy ws : List ℕ) (size : length copy ≡ sizes.copy) (old : CopyFits copy) where
  laid_fits : (n : ℕ) → ((i : ℕ) → i < n → merged_write_ok ws i ≡ true) → CopyFits (put_writes copy ws n)
  unfolding put_writes fold_below merged_write_ok
  laid_fits zero ok k = old k
  laid_fits (suc n) ok k =
      let tests = key_ascends ws n ∷ ltb (write_key ws n) sizes.keys ∷ fits (write_value ws n) ∷ [] in
      let passed = ok n (omega arith) in
      let low = ltb-true (write_key ws n) sizes.keys (every_at tests 1 passed) in
      let l = length_put copy ws n in
      by_same (write_key ws n) k
      (λ e. rw (← e, put_same (put_writes copy ws n) (sizes.copy_header + sizes.value * write_key ws n) (write_value ws n) (omega arith))
      (fits_fit (write_value ws n) (every_at tests 2 passed)))
      (λ e. rw (put_other (put_writes copy ws n) sizes.copy_header (write_key ws n) k (write_value ws n) e)
      (laid_fits n (λ i h. ok i (omega arith)) k))

headed_fits : (copy : List ℕ) (n c : ℕ) → CopyFits copy → CopyFits (set (set copy word.last_number n) word.last_coordinator c)
headed_fits copy n c old k =
    let at = sizes.copy_header + sizes.value * k in
    rw (set_before (set copy word.last_number n) word.last_coordinator c at (omega arith), set_before copy word.last_number n at (omega arith))
    (old k)

replay_fits : (copy m : List ℕ) → CopyFits copy → CopyFits (replay_of copy m).copy
unfolding replayed
replay_fits copy m old =
    ⊎_elim
    (λ (r : (n : ℕ) × (replay_of copy m ≡ record { answer = Refused n; copy = copy })). rw r.1 old)
    (λ (r : Replays copy m).
    let h = record_head m in
    let two = set (set copy word.last_number h.number) word.last_coordinator h.coordinator in
    let l : length two ≡ sizes.copy =
    length-set (set copy word.last_number h.number) word.last_coordinator h.coordinator ∙ length-set copy word.last_number h.number
    ∙ r.size in
    rw r.is
    (laid_fits two (record_writes m) l (headed_fits copy h.number h.coordinator old) h.count
    (λ i low. all_below_at (merged_write_ok (record_writes m)) h.count i (merged_passed_good m r.ok).writes low)))
    (replay_cases copy m)

-- A call.
module _ (w : World) (f : TablesFit w) where
  based : (s : ℕ) (base : List ℕ) → BaseFits base → (j : ℕ) → BaseFits (upd w.base s base j)
  based s base new = upd_cases (λ j b. BaseFits b) w.base s base new (λ j e. f.bases j)

  abbrev same : (s j : ℕ) → BaseFits (upd w.base s (w.base s) j)
  same s = based s (w.base s) (f.bases s)

  pub step_fits : (c : Call) → TablesFit (step w c).world
  unfolding step site_step log_step merger_step copy_step merge_step replay_step
  step_fits (world.begin s d) = record { bases = same s; copies = f.copies }
  step_fits (world.enlist s out tx site) = record { bases = same s; copies = f.copies }
  step_fits (world.read s tx key) = record { bases = same s; copies = f.copies }
  step_fits (world.write s tx key v) = record { bases = same s; copies = f.copies }
  step_fits (world.search s p key) = f
  step_fits (world.commit s out tx) = record { bases = same s; copies = f.copies }
  step_fits (world.abandon s out tx) = record { bases = same s; copies = f.copies }
  step_fits (world.message s out m) = record { bases = same s; copies = f.copies }
  step_fits (world.install s out) =
      record { bases = based s _ (install_fits (w.site s) (length out) (w.base s) (f.bases s)); copies = f.copies }
  step_fits (world.report s out) = record { bases = same s; copies = f.copies }
  step_fits (world.merge m) = record { bases = f.bases; copies = f.copies }
  step_fits (world.emit out) = record { bases = f.bases; copies = f.copies }
  step_fits (world.replay c m) =
      record {
        bases = f.bases;
        copies =
            upd_cases (λ j x. CopyFits x) w.copy c (replay_of (w.copy c) m).copy (replay_fits (w.copy c) m (f.copies c))
            (λ j e. f.copies j);
      }
  step_fits (world.value c key) = f

-- Any list of calls.
pub run_fits : (calls : List Call) (w : World) → TablesFit w → TablesFit (run w calls)
unfolding run
run_fits [] w f = f
run_fits (c ∷ calls) w f = run_fits calls (step w c).world (step_fits w f c)
