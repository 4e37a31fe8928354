-- Every call of a list leaves the sites possible and sends messages that pass the check.
use Prim.Native.Nat.{ℕ, ◌≤◌, ◌<◌}
use mathlib.Core.Path.{◌≡◌, refl, ◌∙◌}
use mathlib.Core.Bool.{true, false}
use mathlib.Core.List.{List, []}
use native.Mathlib.Omega.{arith}
use borrow.Author.Tests.{eqb-true, ltb-true, le-leb, leb-true, leb-false}
use lib.Dec.{leb}
use lib.ListN.{length, replicate, length-replicate, get_or-replicate}
use Rattle.laws.specs.Choice.{by_test, set_not}
use Rattle.kinds.specs.Sizes as sizes
use Rattle.kinds.specs.Desk as desk
use Rattle.kinds.specs.State.{sub_at, no_sub, past_sub, no_entry, past_entry}
use Rattle.kinds.specs.declared.Value.{Value}
use Rattle.kinds.specs.declared.House.{House}
use Rattle.kinds.specs.declared.Site.{Site}
use Rattle.rules.specs.House.{house_ok, is_site, in_mask, coordinator_of, GoodHouse}
use Rattle.rules.specs.HouseLaws.{good_passes}
use Rattle.rules.specs.Desk.{is_desk}
use Rattle.rules.specs.Message.{message_ok}
use Rattle.rules.specs.Live.{place_of, free_place, stage_at}
use Rattle.rules.specs.History.{remembered}
use Rattle.rules.specs.Valid.{counters_ok, site_ok, handed_ok}
use Rattle.rules.specs.ValidLaws.{valid_house, handed_site}
use Rattle.rules.specs.Effect.{Effect}
use Rattle.rules.specs.Begin.{begin_code, begin_of, begin_clear}
use Rattle.rules.specs.Access.{access_code, read_of, write_of}
use Rattle.rules.specs.Enlist.{enlist_code, enlist_of, is_mine}
use Rattle.rules.specs.Commit.{request_code, commit_of, abandon_of}
use Rattle.rules.specs.Deliver.{arrival_code, message_of}
use Rattle.rules.specs.Install.{fresh_site, start_code}
use Rattle.rules.specs.CallLaws.{access_clear, enlist_clear, request_clear, arrival_clear}
use Rattle.rules.specs.World.{World, Call, step, site_step, log_step, merger_step, merge_step, copy_step, replay_step, firsts_of, fresh_world}
use Rattle.rules.specs.World as world
use Rattle.rules.proofs.Lists.Tables.{upd_both, upd_cases, All, a_nil, all_append}
use Rattle.rules.proofs.Protocol.ProtocolTables.{Protocol}
use Rattle.rules.proofs.Protocol.Invariants.{Invariant}
use Rattle.rules.proofs.Refine.Refines.{Refines}
use Rattle.rules.proofs.Refine.RefineStep.{by_code}
use Rattle.rules.proofs.Refine.RefineTurn.{at_place, course_is}
use Rattle.rules.proofs.Refine.RefineMail.{Made, none, made_in}
use Rattle.rules.proofs.Refine.RefineFresh.{started, fresh_table}
use Rattle.rules.proofs.Possible.ValidMade.{none_mask, no_keys_lem, house_desk, new_desk, sub_made, entry_made, live_made}
use Rattle.rules.proofs.Possible.ValidMade.{history_made, site_made, lists_made, gathered_made, handed_made}
use Rattle.rules.proofs.Possible.Passing.{Passes}
use Rattle.rules.proofs.Possible.CourseFits.{none_fits}
use Rattle.rules.proofs.Possible.SitesFit.{Sound, EffectFits}
use Rattle.rules.proofs.Possible.CallsFit.{begin_fits, read_fits, write_fits}
use Rattle.rules.proofs.Possible.RequestsFit.{enlist_call, commit_call, abandon_call, install_call, report_call}
use Rattle.rules.proofs.Possible.DeliveryFits.{message_call}

-- A site that is not possible writes nothing.
module _ (s : Site) (no : site_ok s ≡ false) where
  abbrev Silent : Effect → Type 0
  Silent e = e.words ≡ []

  not_handed : (lists : List ℕ) → handed_ok s lists ≡ true → ⊥
  not_handed lists e = set_not _ (handed_site s lists e) no

  begin_silent : (d : ℕ) → Silent (begin_of s d)
  unfolding begin_of
  begin_silent d =
      by_code Silent (begin_code (site_ok s) (is_desk d) s.counters (free_place s.live)) s [] _
      (λ z. absurd (set_not _ (begin_clear _ _ _ _ z).valid no)) refl

  enlist_silent : (room t a : ℕ) → Silent (enlist_of s room t a)
  unfolding enlist_of
  enlist_silent room t a =
      by_code Silent (enlist_code (site_ok s) room (is_site s.house a) (place_of s.live t) (is_mine s t)) s [] _
      (λ z. absurd (set_not _ (enlist_clear _ _ _ _ _ z).valid no)) refl

  read_silent : (base : List ℕ) (t k : ℕ) → Silent (read_of s base t k)
  unfolding read_of
  read_silent base t k =
      let place = place_of s.live t in
      by_code Silent (access_code (site_ok s) (length base) s.house s.counters.own k place (stage_at s.live place)) s [] _
      (λ z. absurd (set_not _ (access_clear _ _ _ _ _ _ _ z).key.valid no)) refl

  write_silent : (t k : ℕ) (v : Value) → Silent (write_of s t k v)
  unfolding write_of
  write_silent t k v =
      let place = place_of s.live t in
      by_code Silent (access_code (site_ok s) sizes.base s.house s.counters.own k place (stage_at s.live place)) s [] _
      (λ z. absurd (set_not _ (access_clear _ _ _ _ _ _ _ z).key.valid no)) refl

  commit_silent : (room : ℕ) (lists : List ℕ) (t : ℕ) → Silent (commit_of s room lists t)
  unfolding commit_of
  commit_silent room lists t =
      by_code Silent (request_code (handed_ok s lists) room (place_of s.live t) (is_mine s t)) s lists _
      (λ z. absurd (not_handed lists (request_clear _ _ _ _ z).valid)) refl

  abandon_silent : (room t : ℕ) → Silent (abandon_of s room t)
  unfolding abandon_of
  abandon_silent room t =
      by_code Silent (request_code (site_ok s) room (place_of s.live t) (is_mine s t)) s [] _
      (λ z. absurd (set_not _ (request_clear _ _ _ _ z).valid no)) refl

  message_silent : (room : ℕ) (lists m : List ℕ) → Silent (message_of s room lists m)
  unfolding message_of
  message_silent room lists m =
      by_code Silent (arrival_code (handed_ok s lists) room (message_ok s.house m)) s lists _
      (λ z. absurd (not_handed lists (arrival_clear _ _ _ z).valid)) refl

-- What is kept.
pub record Kept (house : House) (w : World) : Type 0 where
  pub site : (s : ℕ) → 1 ≤ s → s ≤ house.sites → handed_ok (w.site s) (w.lists s) ≡ true
  pub pass : All (Passes house) w.sent

-- s is a site of the house, or none
pub by_site : {P : Type 0} (house : House) (s : ℕ) → (1 ≤ s → s ≤ house.sites → P) → (((1 ≤ s) × (s ≤ house.sites) → ⊥) → P) → P
by_site house s f g =
    by_test (leb 1 s)
    (λ a. by_test (leb s house.sites)
    (λ b. f (leb-true 1 s a) (leb-true s house.sites b))
    (λ b. g (λ z. omega (arith, leb-false s house.sites b))))
    (λ a. g (λ z. omega (arith, leb-false 1 s a)))

module _ {house : House} {w : World} {p : Protocol} (r : Refines house w p) (i : Invariant house p) (k : Kept house w) where
  pub house_is : (s : ℕ) → 1 ≤ s → s ≤ house.sites → (w.site s).house ≡ house
  house_is s a b = (r.site s a b).house_is

  site_kept : (s : ℕ) (e : Effect) (base : List ℕ) (lists : List ℕ) → (1 ≤ s → s ≤ house.sites → EffectFits (w.site s) e lists)
      → (site_ok (w.site s) ≡ false → e.words ≡ []) → Kept house (site_step w s e base lists).world
  unfolding site_step
  site_kept s e base lists f silent =
      record {
        site =
            upd_both (λ j x y. 1 ≤ j → j ≤ house.sites → handed_ok x y ≡ true) w.site w.lists s e.site lists (λ a b. (f a b).handed)
            (λ j n. k.site j);
        pass = all_append k.pass (made_in words);
      }
    where
      words : Made (Passes house) e.words
      words = by_site house s (λ a b. rw (house_is s a b) at (f a b).words) (λ n. rw (silent (r.outside s n)) none)

  log_kept : (s : ℕ) (e : Effect) (base : List ℕ) → (1 ≤ s → s ≤ house.sites → handed_ok e.site (w.lists s) ≡ true)
      → Kept house (log_step w s e base).world
  unfolding log_step
  log_kept s e base f =
      record {
        site = upd_cases (λ j x. 1 ≤ j → j ≤ house.sites → handed_ok x (w.lists j) ≡ true) w.site s e.site f (λ j n. k.site j);
        pass = k.pass;
      }

  -- a transaction's coordinator is in its mask
  own_masked : (s t : ℕ) → 1 ≤ s → s ≤ house.sites → place_of (w.site s).live t < sizes.live → is_mine (w.site s) t ≡ true
      → in_mask (sub_at (w.site s) (place_of (w.site s).live t)).course.mask (w.site s).counters.own ≡ true
  own_masked s t a b low mine =
      let y = r.site s a b in
      let A = at_place (w.site s) p s t y.live low in
      let c : coordinator_of t ≡ s = eqb-true _ _ mine ∙ y.counters.own_is in
      rw (course_is A, y.counters.own_is) ((rw c at (i.rounds.own t)) A.held)

  sound : (s : ℕ) → 1 ≤ s → s ≤ house.sites → Sound (w.site s) (w.lists s)
  sound s a b =
      let y = r.site s a b in
      record { handed = k.site s a b; row = p.live s; live = y.live; history = y.history.size }

  pub call_keeps : (c : Call) → Kept house (step w c).world
  unfolding step merge_step merger_step replay_step copy_step
  call_keeps (world.begin s d) = site_kept s _ _ _ (λ a b. begin_fits (sound s a b) d) (λ f. begin_silent (w.site s) f d)
  call_keeps (world.enlist s out t n) =
      site_kept s _ _ _ (λ a b. enlist_call (sound s a b) (length out) t n) (λ f. enlist_silent (w.site s) f (length out) t n)
  call_keeps (world.read s t key) =
      site_kept s _ _ _ (λ a b. read_fits (sound s a b) (w.base s) t key) (λ f. read_silent (w.site s) f (w.base s) t key)
  call_keeps (world.write s t key v) =
      site_kept s _ _ _ (λ a b. write_fits (sound s a b) t key v) (λ f. write_silent (w.site s) f t key v)
  call_keeps (world.search s p key) = k
  call_keeps (world.commit s out t) =
      site_kept s _ _ _ (λ a b. commit_call (sound s a b) (length out) t (own_masked s t a b))
      (λ f. commit_silent (w.site s) f (length out) (w.lists s) t)
  call_keeps (world.abandon s out t) =
      site_kept s _ _ _ (λ a b. abandon_call (sound s a b) (length out) t) (λ f. abandon_silent (w.site s) f (length out) t)
  call_keeps (world.message s out m) =
      site_kept s _ _ _ (λ a b. message_call (sound s a b) (length out) m) (λ f. message_silent (w.site s) f (length out) (w.lists s) m)
  call_keeps (world.install s out) = log_kept s _ _ (λ a b. install_call (sound s a b) (length out) (w.base s))
  call_keeps (world.report s out) = log_kept s _ _ (λ a b. report_call (sound s a b) (length out))
  call_keeps (world.merge m) = record { site = k.site; pass = k.pass }
  call_keeps (world.emit out) = record { site = k.site; pass = k.pass }
  call_keeps (world.replay c m) = record { site = k.site; pass = k.pass }
  call_keeps (world.value c key) = k

-- A fresh house.
module _ (house : House) (s : ℕ) (good : GoodHouse house) (low : 1 ≤ s) (high : s ≤ house.sites) where
  abbrev fresh : Site
  fresh = fresh_site house s

  house_ok_lem : house_ok house ≡ true
  house_ok_lem = good_passes house good

  here_ok : is_site house s ≡ true
  unfolding is_site
  here_ok = rw (le-leb 1 s low, le-leb s house.sites high)

  fresh_ok : site_ok fresh ≡ true
  unfolding fresh_site counters_ok no_sub no_entry remembered
  fresh_ok =
      let o = house in
      let v = valid_house o s house_ok_lem here_ok in
      let b = sub_made o s no_sub (none_fits o s v) (no_keys_lem o s) (new_desk desk.house house_desk) (λ n. absurd (n refl)) in
      site_made fresh (record {
        house = house_ok_lem;
        counters = rw here_ok;
        live = live_made o s (replicate sizes.live no_sub) (λ i h. rw (get_or-replicate sizes.live i no_sub past_sub h) b);
        history = history_made o s 0 (replicate sizes.history no_entry)
            (λ i h. rw (get_or-replicate sizes.history i no_entry past_entry h)
            (entry_made o s _ no_entry (none_mask o) (no_keys_lem o s) (λ u. absurd (omega (arith, ltb-true i 0 u)))));
      })

  fresh_handed : handed_ok fresh (replicate sizes.lists 0) ≡ true
  unfolding fresh_site no_sub
  fresh_handed =
      handed_made fresh (replicate sizes.lists 0) (length-replicate {A = ℕ} sizes.lists 0) fresh_ok
      (lists_made house (replicate sizes.live no_sub) (replicate sizes.lists 0)
      (λ i h. rw (get_or-replicate sizes.live i no_sub past_sub h) (gathered_made house no_sub _ (λ f. absurd (f refl)))))

pub fresh_kept : (house : House) → GoodHouse house → Kept house (fresh_world house)
unfolding fresh_world
fresh_kept house good =
    record {
      site = λ s a b. rw (
        started house s good a b,
        fresh_table (start_code house.sites (firsts_of house) s sizes.base sizes.lists) sizes.lists,
      )
          (fresh_handed house s good a b);
      pass = a_nil;
    }
