-- What is refused 26 and what 27: past 1, 2 and 5 the first cause of the coordinator's calls is one of these two, or comes behind them.
use Prim.Native.Nat.{ℕ}
use mathlib.Core.Path.{◌≡◌, refl, sym, ◌∙◌}
use mathlib.Core.Logic.{◌⊎◌, inl, inr}
use mathlib.Core.Bool.{Bool, true, false, not}
use mathlib.Core.List.{List}
use native.Mathlib.Omega.{arith}
use borrow.Author.Tests.{le-ltb, lt-leb, eq-eqb, not-true}
use lib.ListN.{length, drop}
use Rattle.laws.specs.Choice.{pick, pick_self, by_test}
use Rattle.laws.specs.Cause.{Cause, holds_at, first_in, lacks}
use Rattle.kinds.specs.Sizes as sizes
use Rattle.kinds.specs.State.{sub_at}
use Rattle.kinds.specs.declared.Value.{Value}
use Rattle.kinds.specs.declared.Answer.{Answer}
use Rattle.kinds.specs.declared.Answer.TheVariants.{Refused}
use Rattle.kinds.specs.declared.Site.{Site}
use Rattle.rules.specs.House.{is_site}
use Rattle.rules.specs.Keys.{wrote_key}
use Rattle.rules.specs.Live.{place_of}
use Rattle.rules.specs.Valid.{site_ok, handed_ok}
use Rattle.rules.specs.Enlist.{is_mine}
use Rattle.rules.specs.World as world
use Rattle.rules.specs.World.{World, Call, step}
use Rattle.rules.specs.Refusals.{order, access_has, read_has, write_has, enlist_has, commit_has, abandon_has, message_has, ByFirst}
use Rattle.rules.specs.Refusals.{numbers_of}
use Rattle.rules.specs.Moments.{is_past, no_enlist, is_decided, out_of_turn, AtPart, AtKey, AtMessage, ByMoment, WrongMoments}
use Rattle.rules.proofs.Messages.GoesOn.{refused_number}
use Rattle.rules.proofs.Refusals.FirstCause.{first_cause}
use Rattle.rules.proofs.Refusals.OwnNumbers.{by_cause, own_numbers}

-- the causes behind 27
abbrev later : List ℕ
later = drop 8 order

-- Where the first cause is 26, 27 or later, and the two hold as they should, the answer is by the moment.
by_moment : (a : Answer) (l : List Cause) (mine forbidden : Bool) → ByFirst a l
    → first_in order l ≡ pick (holds_at 26 l) 26 (pick (holds_at 27 l) 27 (first_in later l))
    → holds_at 26 l ≡ not mine → holds_at 27 l ≡ forbidden → ByMoment a mine forbidden
by_moment a l mine forbidden x e h k = record { elsewhere = f; only_elsewhere = g; late = late; only_late = only_late }
  where
    f : mine ≡ false → a ≡ Refused 26
    f m = let q : first_in order l ≡ 26 = e ∙ rw (h, m) in rw q at (x.refused (λ z. omega (arith, q, z)))

    g : a ≡ Refused 26 → mine ≡ false
    g q = not-true mine (sym h ∙ by_cause order a l 26 x q)

    late : mine ≡ true → forbidden ≡ true → a ≡ Refused 27
    late m b = let q : first_in order l ≡ 27 = e ∙ rw (h, k, m, b) in rw q at (x.refused (λ z. omega (arith, q, z)))

    only_late : a ≡ Refused 27 → (mine ≡ true) × (forbidden ≡ true)
    only_late q =
        (by_test mine (λ m. m) (λ m. absurd (let z = refused_number 27 26 (sym q ∙ f m) in omega arith)), sym k ∙ by_cause order a l 27 x q)

module _ (w : World) (s : ℕ) (out : List ℕ) (tx : ℕ) where
  abbrev site : Site
  site = w.site s

  abbrev mine : Bool
  mine = is_mine site tx

  enlist_moment : (r : ℕ) → is_site site.house r ≡ true → AtPart site (site_ok site) out tx
      → ByMoment (step w (world.enlist s out tx r)).answer mine (no_enlist site tx r)
  unfolding enlist_has order
  enlist_moment r known x =
      by_moment _ (enlist_has site (length out) tx r) mine (no_enlist site tx r) (first_cause.call w (world.enlist s out tx r))
      (rw (le-ltb _ _ x.long, x.is_possible, known, lt-leb _ _ x.held)) (pick_self (not mine)) refl

  commit_moment : AtPart site (handed_ok site (w.lists s)) out tx
      → ByMoment (step w (world.commit s out tx)).answer mine (is_past site tx)
  unfolding commit_has order
  commit_moment x =
      by_moment _ (commit_has site (length out) (w.lists s) tx) mine (is_past site tx) (first_cause.call w (world.commit s out tx))
      (rw (le-ltb _ _ x.long, x.is_possible, lt-leb _ _ x.held)) (pick_self (not mine)) (pick_self (is_past site tx))

  abandon_moment : AtPart site (site_ok site) out tx → ByMoment (step w (world.abandon s out tx)).answer mine (is_decided site tx)
  unfolding abandon_has order
  abandon_moment x =
      by_moment _ (abandon_has site (length out) tx) mine (is_decided site tx) (first_cause.call w (world.abandon s out tx))
      (rw (le-ltb _ _ x.long, x.is_possible, lt-leb _ _ x.held)) (pick_self (not mine)) (pick_self (is_decided site tx))

-- Read and write: behind 27 stand causes or none, by whether the key was written before.
module _ (w : World) (s tx key : ℕ) where
  abbrev asked : Site
  asked = w.site s

  abbrev past : Bool
  past = is_past asked tx

  abbrev written : Bool
  written = wrote_key (sub_at asked (place_of asked.live tx)).keys key

  read_moment : AtKey asked (length (w.base s)) tx key → ByMoment (step w (world.read s tx key)).answer true past
  unfolding read_has access_has order
  read_moment x =
      let whole = eq-eqb _ _ x.whole in
      let here = eq-eqb _ _ x.here in
      let held = lt-leb _ _ x.held in
      by_test written
      (λ t. by_moment _ (read_has asked (w.base s) tx key) true past (first_cause.call w (world.read s tx key))
      (rw (t, whole, x.is_possible, x.known, here, held)) (rw t refl) (rw t (pick_self past)))
      (λ t. by_moment _ (read_has asked (w.base s) tx key) true past (first_cause.call w (world.read s tx key))
      (rw (t, whole, x.is_possible, x.known, here, held)) (rw t refl) (rw t (pick_self past)))

  write_moment : (v : Value) → AtKey asked sizes.base tx key → ByMoment (step w (world.write s tx key v)).answer true past
  unfolding write_has access_has order
  write_moment v x =
      let here = eq-eqb _ _ x.here in
      let held = lt-leb _ _ x.held in
      by_test written
      (λ t. by_moment _ (write_has asked tx key v) true past (first_cause.call w (world.write s tx key v))
      (rw (t, x.is_possible, x.known, here, held)) (rw t refl) (rw t (pick_self past)))
      (λ t. by_moment _ (write_has asked tx key v) true past (first_cause.call w (world.write s tx key v))
      (rw (t, x.is_possible, x.known, here, held)) (rw t refl) (rw t (pick_self past)))

message_moment : (w : World) (s : ℕ) (out m : List ℕ) → AtMessage (w.site s) (w.lists s) out m
    → ByMoment (step w (world.message s out m)).answer true (out_of_turn (w.site s) m)
unfolding message_has order
message_moment w s out m x =
    by_moment _ (message_has (w.site s) (length out) (w.lists s) m) true (out_of_turn (w.site s) m)
    (first_cause.call w (world.message s out m))
    (rw (le-ltb _ _ x.long, x.is_possible, x.formed, eq-eqb _ _ x.here, eq-eqb _ _ x.next)) refl
    (pick_self (out_of_turn (w.site s) m))

-- 6 is in no call's list.
no_six : (c : Call) → lacks 6 (numbers_of c) ≡ true
no_six (world.begin s d) = refl
no_six (world.enlist s out tx site) = refl
no_six (world.read s tx key) = refl
no_six (world.write s tx key v) = refl
no_six (world.search s p key) = refl
no_six (world.commit s out tx) = refl
no_six (world.abandon s out tx) = refl
no_six (world.message s out m) = refl
no_six (world.install s out) = refl
no_six (world.report s out) = refl
no_six (world.merge m) = refl
no_six (world.emit out) = refl
no_six (world.replay c m) = refl
no_six (world.value c key) = refl

not_two : ◌≡◌ {A = ℕ} 6 2 → ⊥
not_two e = omega arith

not_either : (◌≡◌ {A = ℕ} 6 2) ⊎ (◌≡◌ {A = ℕ} 6 22) → ⊥
not_either (inl e) = omega arith
not_either (inr e) = omega arith

pub wrong_moments : WrongMoments
wrong_moments =
    record {
      enlist = enlist_moment;
      commit = commit_moment;
      abandon = abandon_moment;
      read = read_moment;
      write = write_moment;
      message = message_moment;
      retired = record {
        call = λ w c. own_numbers.call w c 6 (no_six c);
        start = λ sites table own base lists q. not_either (own_numbers.start sites table own base lists 6 q);
        merger_start = λ sites table queues q. not_either (own_numbers.merger_start sites table queues 6 q);
        copy_start = λ copy q. not_two (own_numbers.copy_start copy 6 q);
        page = λ l o. own_numbers.page l o 6 refl;
        offset = λ l p r. own_numbers.offset l p r 6 refl;
        pages = λ l os out. own_numbers.pages l os out 6 refl;
        reader_start = λ b q. not_two (own_numbers.reader_start b 6 q);
        reader_replay = λ b m. own_numbers.reader_replay b m 6 refl;
        reader_value = λ b k out q. not_two (own_numbers.reader_value b k out 6 q);
        record_bytes = λ m out q. not_two (own_numbers.record_bytes m out 6 q);
      };
    }
