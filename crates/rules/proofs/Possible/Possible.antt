-- What the store leaves, the store takes, proved: the sites stay possible by every call, the merger and the copies by the machine, and what
-- was sent passes the check, so that the next message goes on.
use Prim.Native.Nat.{ℕ}
use mathlib.Core.Path.{◌≡◌, refl, sym, ap, ◌∙◌}
use mathlib.Core.Bool.{true, false}
use mathlib.Core.Logic.{◌⊎◌, inl, inr, ⊎_elim}
use mathlib.Core.List.{List}
use lib.ListN.{length}
use Rattle.laws.specs.Choice.{by_test}
use Rattle.kinds.specs.Sizes as sizes
use Rattle.kinds.specs.Reason as reason
use Rattle.kinds.specs.declared.House.{House}
use Rattle.kinds.specs.declared.Snapshot.{Snapshot}
use Rattle.kinds.specs.declared.Answer.TheVariants.{Refused}
use Rattle.rules.specs.House.{is_site}
use Rattle.rules.specs.Message.{message_head, message_ok}
use Rattle.rules.specs.MessageLaws.{site_clear, head_clear, passed_good}
use Rattle.rules.specs.Valid.{site_ok, handed_ok}
use Rattle.rules.specs.ValidLaws.{handed_site}
use Rattle.rules.specs.Merger.{merger_ok}
use Rattle.rules.specs.MergerClear.{clear_merger}
use Rattle.rules.specs.World.{World, Call, Member, step, site_step, log_step, merger_step, merge_step, copy_step, replay_step}
use Rattle.rules.specs.World as world
use Rattle.rules.specs.Book.{Fact}
use Rattle.rules.specs.Progress.{NoneOutOfTurn, MessagesProgress}
use Rattle.rules.specs.Possible.{Impossible, StatesPossible, MessagesPass, CountEnds, NextGoes, Possible}
use Rattle.rules.proofs.Lists.Tables.{all_is}
use Rattle.rules.proofs.Stream.Stream.{Stream}
use Rattle.rules.proofs.Demand.Stands.{Stands, Keeps, list_stands}
use Rattle.rules.proofs.Messages.Progress.{messages_progress}
use Rattle.rules.proofs.Possible.WhyRefused.{begin_why, enlist_why, read_why, write_why, commit_why, abandon_why, install_why}
use Rattle.rules.proofs.Possible.WhyRefused.{report_why, search_why}
use Rattle.rules.proofs.Possible.WhyRefused.{merge_why, emit_why, replay_why, value_why}
use Rattle.rules.proofs.Possible.NextGoes.{message_why, next_stopped}
use Rattle.rules.proofs.Possible.Kept.{Kept, house_is, call_keeps, fresh_kept}

abbrev More : House → World → Stream → Type 0
More house w v = Kept house w

calls_keep : {house : House} → Keeps (More house) house
calls_keep w v u c h i z ss e j k = call_keeps i.refines z.invariant k c

module _ {house : House} {w : World} {b : List Fact} (x : Stands (More house) house w b) where
  abbrev o : House
  o = house

  site_ok_lem : (s : ℕ) → is_site o s ≡ true → handed_ok (w.site s) (w.lists s) ≡ true
  site_ok_lem s t = let c = site_clear o s t in x.more.site s c.low c.high

  site_house : (s : ℕ) → is_site o s ≡ true → (w.site s).house ≡ o
  site_house s t = let c = site_clear o s t in house_is x.is.refines x.standing.invariant x.more s c.low c.high

  base_long : (s : ℕ) → is_site o s ≡ true → length (w.base s) ≡ sizes.base
  base_long s t = let c = site_clear o s t in (x.is.refines.site s c.low c.high).base_size

  merger_house : w.merger.house ≡ o
  merger_house = x.is.merger.house_is

  merger_ok_lem : merger_ok w.merger w.queues ≡ true
  merger_ok_lem = clear_merger w.merger w.queues x.is.merger.holds.clear

  valid : (s : ℕ) → is_site o s ≡ true → site_ok (w.site s) ≡ true
  valid s t = handed_site (w.site s) (w.lists s) (site_ok_lem s t)

  -- a site of the house, or none
  none_else : (s : ℕ) → (is_site o s ≡ true → ⊥) → is_site o s ≡ false
  none_else s f = by_test (is_site o s) (λ t. absurd (f t)) (λ e. e)

  none_or : {X : Type 0} (s : ℕ) → (is_site o s ≡ true → X) → (is_site o s ≡ false) ⊎ X
  none_or s f = by_test (is_site o s) (λ t. inr (f t)) (λ e. inl e)

  calls_possible : (c : Call) → (step w c).answer ≡ Refused reason.malformed → Impossible o c
  unfolding step site_step log_step merge_step merger_step replay_step copy_step
  calls_possible (world.begin s d) q = none_or s (λ t. begin_why (w.site s) (valid s t) d 2 q refl)
  calls_possible (world.enlist s out tx a) q =
      none_or s (λ t. rw (site_house s t) at (enlist_why (w.site s) (valid s t) (length out) tx a 2 q refl))
  calls_possible (world.read s tx k) q =
      none_or s (λ t. read_why (w.site s) (valid s t) (w.base s) tx k (base_long s t) 2 q refl)
  calls_possible (world.write s tx k v) q = none_or s (λ t. write_why (w.site s) (valid s t) tx k v 2 q refl)
  calls_possible (world.search s p k) q =
      let snapshot : Snapshot = record { installs = p } in
      none_or s (λ t. search_why (w.site s) (valid s t) (w.base s) snapshot k (base_long s t) 2 q refl)
  calls_possible (world.commit s out tx) q =
      none_else s (λ t. commit_why (w.site s) (valid s t) (length out) (w.lists s) tx (site_ok_lem s t) 2 q refl)
  calls_possible (world.abandon s out tx) q = none_else s (λ t. abandon_why (w.site s) (valid s t) (length out) tx 2 q refl)
  calls_possible (world.message s out m) q =
      none_or s (λ t. rw (site_house s t) at (message_why (w.site s) (w.lists s) (site_ok_lem s t) m (length out) 2 q refl))
  calls_possible (world.install s out) q =
      none_else s (λ t. install_why (w.site s) (valid s t) (length out) (w.base s) (base_long s t) 2 q refl)
  calls_possible (world.report s out) q = none_else s (λ t. report_why (w.site s) (valid s t) (length out) 2 q refl)
  calls_possible (world.merge m) q = rw merger_house at (merge_why w.merger w.queues merger_ok_lem m 2 q refl)
  calls_possible (world.emit out) q = emit_why w.merger w.queues merger_ok_lem (length out) 2 q refl
  calls_possible (world.replay c m) q = replay_why (w.copy c) (x.is.copy c).size m 2 q refl
  calls_possible (world.value c k) q = value_why (w.copy c) (x.is.copy c).size k 2 q refl

  states_possible : StatesPossible o w
  states_possible =
      record {
        house = site_house;
        site = site_ok_lem;
        base = base_long;
        merger_house = merger_house;
        merger = merger_ok_lem;
        copy = λ c. (x.is.copy c).size;
        calls = calls_possible;
      }

  -- Messages.
  sent_passes : (m : List ℕ) → Member m w.sent → (is_site o (message_head m).to ≡ true) × (message_ok o m ≡ true)
  sent_passes m i =
      let e = all_is x.more.pass i in
      ((head_clear o (message_head m) (passed_good o m e).head).ends.to, e)

  messages_pass : MessagesPass o w
  messages_pass m i = let (t, e) = sent_passes m i in (t, rw (site_house (message_head m).to t) e)

  next_goes : NoneOutOfTurn w → NextGoes o w
  unfolding step site_step
  next_goes turn m out i long next n q =
      let (t, e) = messages_pass m i in
      let to = (message_head m).to in
      let c = site_clear o to t in
      let here = sym (x.is.refines.site to c.low c.high).counters.own_is in
      ⊎_elim
      (λ (g : n ≡ reason.stage). absurd ((turn to out m (inl i)).1 (q ∙ ap Refused g)))
      (λ (g : (n ≡ reason.spent) × CountEnds (w.site to).house (w.site to)). rw (site_house to t) at g)
      (next_stopped (w.site to) (w.lists to) (site_ok_lem to t) m (length out) long e here next n q)

pub possible : Possible
unfolding Possible MessagesProgress
possible house calls good lawful =
    let x = list_stands (More house) good.few calls_keep good (fresh_kept house good) calls lawful in
    (states_possible x, messages_pass x, next_goes x (messages_progress house calls good lawful).0)
