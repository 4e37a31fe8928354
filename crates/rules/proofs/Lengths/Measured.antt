-- When a write is refused 29, in any state: past every cause before it, where the value does not fit.
use Prim.Native.Nat.{ℕ}
use mathlib.Core.Path.{◌≡◌, refl, sym, ◌∙◌}
use mathlib.Core.Bool.{false}
use mathlib.Core.List.{List, [], ◌∷◌}
use native.Mathlib.Omega.{arith}
use borrow.Author.Tests.{leb-false, eqb-true}
use lib.Dec.{leb, eqb}
use Rattle.laws.specs.Choice.{by_test, unset}
use Rattle.laws.specs.Cause.{Cause, cause, code_of, clear_at, code_append, other_code}
use Rattle.kinds.specs.Sizes as sizes
use Rattle.kinds.specs.Reason as reason
use Rattle.kinds.specs.State.{sub_at}
use Rattle.kinds.specs.declared.Value.{Value}
use Rattle.kinds.specs.declared.Site.{Site}
use Rattle.kinds.specs.declared.Sub.{Sub}
use Rattle.kinds.specs.declared.Answer.TheVariants.{Refused}
use Rattle.rules.specs.Value.{Fits, fits}
use Rattle.rules.specs.ValueLaws.{fits_fit, fit_fits}
use Rattle.rules.specs.Desk.{write_limit}
use Rattle.rules.specs.Keys.{wrote_key}
use Rattle.rules.specs.Live.{place_of, stage_at, key_held}
use Rattle.rules.specs.History.{is_forgotten, is_newer}
use Rattle.rules.specs.Valid.{site_ok}
use Rattle.rules.specs.Access.{access_causes, access_code, long_causes, long_code, write_code, write_code_at, late_code, write_of}
use Rattle.rules.specs.Desks.{OneMore}
use Rattle.rules.specs.Lengths.{Passes, Measured, WritesMeasured}
use Rattle.rules.proofs.Desks.WriteLimits.{cases, takes, new_late, again_late, past_late, refused_is, done_refused}

module _ (s : Site) (tx k : ℕ) (v : Value) where
  abbrev place : ℕ
  place = place_of s.live tx

  abbrev part : Sub
  part = sub_at s place

  abbrev code : ℕ
  code = access_code (site_ok s) sizes.base s.house s.counters.own k place (stage_at s.live place)

  abbrev late : ℕ
  late = late_code s place k v

  -- what is left of the late causes is the value's
  value_late : Passes s tx k v → late ≡ long_code v
  value_late p =
      by_test (wrote_key part.keys k)
      (λ f. again_late s tx k v f)
      (λ f. new_late s tx k v (p.new f) (p.room f))

  long : Passes s tx k v → (Fits v → ⊥) → (write_of s tx k v).answer ≡ Refused 29
  unfolding long_code
  long p f =
      let n : fits v ≡ false = unset (fits v) (λ t. f (fits_fit v t)) in
      let z : late ≡ 29 = value_late p ∙ rw n in
      cases s tx k v (λ x. x.answer ≡ Refused 29) (λ a. absurd (a p.reaches)) (λ a b. rw z) (λ a b. absurd (omega arith))

  -- Where 29 is answered the causes before it do not hold.
  before_eight : code ≡ 29 → ⊥
  unfolding access_code
  before_eight e =
      other_code 29
      (access_causes (site_ok s) sizes.base s.house s.counters.own k place (stage_at s.live place)) (λ z. omega arith) refl e

  too_long_lem : long_code v ≡ 29 → Fits v → ⊥
  unfolding long_code
  too_long_lem e h = let z : ◌≡◌ {A = ℕ} 0 29 = rw (fit_fits v h) at e in omega arith

  -- causes 8 to 11
  abbrev new : List Cause
  new =
      cause (is_forgotten s.counters.installs part.snapshot) reason.forgotten
      ∷ cause (key_held s.live place k) reason.held
      ∷ cause (is_newer s.history s.counters.installs part.snapshot k) reason.newer
      ∷ cause (leb (write_limit part.desk) part.keys.wrote) reason.too_many
      ∷ []

  none_new : wrote_key part.keys k ≡ false → late ≡ 29 → (code_of new ≡ 0) × (long_code v ≡ 29)
  unfolding late_code write_code_at write_code long_code
  none_new f e =
      let e' = sym (code_append new (long_causes v) refl) ∙ rw f at e in
      by_test (eqb (code_of new) 0)
      (λ t. (eqb-true _ _ t, rw t at e'))
      (λ t. absurd (other_code 29 new (λ z. omega arith) refl (rw t at e')))

  one_more : code ≡ 0 → wrote_key part.keys k ≡ false → late ≡ 29 → OneMore s tx k v
  one_more a f e =
      let z = (none_new f e).0 in
      record {
        reaches = a;
        new = f;
        kept = clear_at new 0 refl z;
        free = clear_at new 1 refl z;
        latest = clear_at new 2 refl z;
      }

  passes : code ≡ 0 → late ≡ 29 → Passes s tx k v × (Fits v → ⊥)
  passes a e = (
    record {
      reaches = a;
      new = λ f. one_more a f e;
      room = λ f. leb-false _ _ (clear_at new 3 refl (none_new f e).0);
    },
    by_test (wrote_key part.keys k)
        (λ f. too_long_lem (sym (again_late s tx k v f) ∙ e))
        (λ f. too_long_lem (none_new f e).1),
  )

  measured : Measured s tx k v
  measured =
      record {
        long = long;
        short = λ p. past_late s tx k v p.reaches (value_late p);
        only =
            cases s tx k v (λ x. x.answer ≡ Refused 29 → Passes s tx k v × (Fits v → ⊥))
            (λ n z. absurd (before_eight (refused_is _ _ z)))
            (λ a n z. passes a (refused_is _ _ z))
            (λ a g z. absurd (done_refused 29 (sym (takes s tx k v) ∙ z)));
      }

pub writes_measured : WritesMeasured
unfolding WritesMeasured
writes_measured s tx k v = measured s tx k v
