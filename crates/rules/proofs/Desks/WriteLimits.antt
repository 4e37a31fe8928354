-- What a part's desk lets it write, in any state.
use Prim.Native.Nat.{ℕ, ◌≤◌, ◌<◌}
use mathlib.Core.Path.{◌≡◌, refl, sym, ◌∙◌}
use mathlib.Core.Bool.{true, false}
use mathlib.Core.List.{[]}
use native.Mathlib.Omega.{arith}
use borrow.Author.Tests.{eqb-true, eqb-false, le-leb, leb-true, lt-leb}
use lib.Dec.{eqb}
use lib.ListN.{length, get_or, set}
use lib.Seq.{get_or-set_same, set_out}
use Rattle.laws.specs.Choice.{pick_self, by_test}
use Rattle.laws.specs.Cause.{code_holds, other_code}
use Rattle.kinds.specs.Sizes as sizes
use Rattle.kinds.specs.Reason as reason
use Rattle.kinds.specs.State.{sub_at, past_sub, with_keys}
use Rattle.kinds.specs.declared.Value.{Value}
use Rattle.kinds.specs.declared.Answer.TheVariants.{Refused, Done}
use Rattle.kinds.specs.declared.Site.{Site}
use Rattle.kinds.specs.declared.Sub.{Sub}
use Rattle.rules.specs.Desk.{write_limit}
use Rattle.rules.specs.Value.{Fits}
use Rattle.rules.specs.ValueLaws.{fit_fits}
use Rattle.rules.specs.Keys.{wrote_key, with_write}
use Rattle.rules.specs.KeysLaws.{by_order, wrote_again, wrote_first}
use Rattle.rules.specs.Live.{place_of, stage_at, key_held}
use Rattle.rules.specs.History.{is_forgotten, is_newer}
use Rattle.rules.specs.Valid.{site_ok}
use Rattle.rules.specs.ValidLaws.{live_few}
use Rattle.rules.specs.Effect.{Effect, settle, turn_at, refused}
use Rattle.rules.specs.Course.{quietly}
use Rattle.rules.specs.Access.{access_causes, access_code, long_causes, long_code, write_causes, write_code, write_code_at, late_code}
use Rattle.rules.specs.Access.{written, write_at, write_of}
use Rattle.rules.specs.CallLaws.{access_clear, late_clear}
use Rattle.rules.specs.Desks.{OneMore, Limited, WritesLimited}

pub refused_is : (n m : ℕ) → Refused n ≡ Refused m → n ≡ m
refused_is n m e = cc

pub done_refused : (n : ℕ) → Done ≡ Refused n → ⊥
done_refused n e = let z : ◌≡◌ {A = ℕ} 0 1 = cc in omega arith

module _ (s : Site) (tx k : ℕ) (v : Value) where
  abbrev place : ℕ
  place = place_of s.live tx

  abbrev part : Sub
  part = sub_at s place

  abbrev code : ℕ
  code = access_code (site_ok s) sizes.base s.house s.counters.own k place (stage_at s.live place)

  abbrev late : ℕ
  late = late_code s place k v

  -- A write is refused by a cause before 8, refused by a later one, or taken.
  pub cases : (P : Effect → Type 0) → ((code ≡ 0 → ⊥) → P (refused code s []))
      → (code ≡ 0 → (late ≡ 0 → ⊥) → P (refused late s []))
      → (code ≡ 0 → late ≡ 0 → P (written s place k v)) → P (write_of s tx k v)
  unfolding write_of write_at
  cases P before full taken =
      by_test (eqb code 0)
      (λ e. rw e
      (by_test (eqb late 0)
      (λ g. rw g (taken (eqb-true code 0 e) (eqb-true late 0 g)))
      (λ g. rw g (full (eqb-true code 0 e) (eqb-false late 0 g)))))
      (λ e. rw e (before (eqb-false code 0 e)))

  pub takes : (written s place k v).answer ≡ Done
  unfolding written quietly
  takes = refl

  before_eight : code ≡ reason.too_many → ⊥
  unfolding access_code
  before_eight e =
      other_code reason.too_many
      (access_causes (site_ok s) sizes.base s.house s.counters.own k place (stage_at s.live place)) (λ z. omega arith) refl e

  -- 11 is a cause of a key that the part has not written
  at_limit : late ≡ reason.too_many → (wrote_key part.keys k ≡ false) × (write_limit part.desk ≤ part.keys.wrote)
  unfolding late_code long_code write_code_at write_code
  at_limit e =
      let l = write_causes (is_forgotten s.counters.installs part.snapshot) (key_held s.live place k)
      (is_newer s.history s.counters.installs part.snapshot k) (write_limit part.desk) part.keys.wrote v in
      by_test (wrote_key part.keys k)
      (λ f. absurd (other_code reason.too_many (long_causes v) (λ z. omega arith) refl (rw f at e)))
      (λ f. (f, leb-true _ _ (sym (pick_self _) ∙ code_holds reason.too_many l (λ z. omega arith) (rw f at e))))

  -- the part after a write
  put : (P : Sub → Type 0) (b : Sub) → P b → P part → P (get_or (set s.live place b) place past_sub)
  put P b new old =
      by_order place (length s.live)
      (λ h. rw (get_or-set_same s.live place b past_sub h) new)
      (λ h. rw (set_out s.live place b h) old)

  abbrev Within : Sub → Type 0
  Within b = b.keys.wrote ≤ write_limit part.desk

  left_within : code ≡ 0 → (with_write part.keys k v).wrote ≤ write_limit part.desk → Within (sub_at (written s place k v).site place)
  unfolding written quietly settle turn_at
  left_within e h =
      let c = access_clear _ _ _ _ _ _ _ e in
      put Within (with_keys part (with_write part.keys k v)) h (live_few s c.key.valid place c.held)

  most_taken : code ≡ 0 → late ≡ 0 → Within (sub_at (written s place k v).site place)
  most_taken e g =
      let c = access_clear _ _ _ _ _ _ _ e in
      left_within e
      (by_test (wrote_key part.keys k)
      (λ f. rw (wrote_again part.keys k v f) (live_few s c.key.valid place c.held))
      (λ f. rw (wrote_first part.keys k v f) (omega (arith, ((late_clear s place k v g).new f).room))))

  same_desk : (sub_at (written s place k v).site place).desk ≡ part.desk
  unfolding written quietly settle turn_at
  same_desk = put (λ b. b.desk ≡ part.desk) (with_keys part (with_write part.keys k v)) refl refl

  -- past every cause before 29 the value decides
  pub new_late : OneMore s tx k v → part.keys.wrote < write_limit part.desk → late ≡ long_code v
  unfolding late_code write_code_at write_code long_code
  new_late o h = rw (o.new, o.kept, o.free, o.latest, lt-leb (write_limit part.desk) part.keys.wrote h)

  pub again_late : wrote_key part.keys k ≡ true → late ≡ long_code v
  unfolding late_code
  again_late f = rw f

  pub past_late : code ≡ 0 → late ≡ long_code v → Fits v → (write_of s tx k v).answer ≡ Done
  unfolding long_code
  past_late e g h =
      let z : late ≡ 0 = g ∙ rw (fit_fits v h) in
      cases (λ x. x.answer ≡ Done) (λ n. absurd (n e)) (λ a n. absurd (n z)) (λ a b. takes)

  full : OneMore s tx k v → write_limit part.desk ≤ part.keys.wrote → (write_of s tx k v).answer ≡ Refused 11
  unfolding write_of write_at late_code write_code_at write_code
  full o h = rw (o.reaches, o.new, o.kept, o.free, o.latest, le-leb (write_limit part.desk) part.keys.wrote h)

  limited : Limited s tx k v
  limited =
      record {
        below = λ o h. past_late o.reaches (new_late o h);
        full = full;
        again = λ e f. past_late e (again_late f);
        only =
            cases (λ x. x.answer ≡ Refused 11 → (wrote_key part.keys k ≡ false) × (write_limit part.desk ≤ part.keys.wrote))
            (λ n z. absurd (before_eight (refused_is _ _ z)))
            (λ e n z. at_limit (refused_is _ _ z))
            (λ e g z. absurd (done_refused 11 (sym takes ∙ z)));
        most =
            cases (λ x. x.answer ≡ Done → Within (sub_at x.site place))
            (λ n z. absurd (done_refused _ (sym z)))
            (λ e n z. absurd (done_refused _ (sym z)))
            (λ e g z. most_taken e g);
        desk = cases (λ x. (sub_at x.site place).desk ≡ part.desk) (λ n. refl) (λ e n. refl) (λ e g. same_desk);
      }

pub writes_limited : WritesLimited
unfolding WritesLimited
writes_limited s tx k v = limited s tx k v
