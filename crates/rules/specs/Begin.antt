-- C1, C2, Q10.1 and Q10.2: begin makes the site coordinator; the snapshot is the number of installs so far. The part keeps its desk.
use Rattle.std.specs.Prelude.{ℕ, ◌+◌, ◌<◌, ◌≡◌, refl, List, [], ◌∷◌, Bool, true, not, leb}
use Rattle.std.proofs.Common.{leb-false}
use Rattle.std.proofs.lemmas.Bool.{not-false}
use Rattle.laws.specs.Cause.{Cause, cause, code_of, clear_at}
use Rattle.kinds.specs.Sizes as sizes
use Rattle.kinds.specs.Reason as reason
use Rattle.kinds.specs.declared.Counters.{Counters}
use Rattle.kinds.specs.declared.Site.{Site}
use Rattle.kinds.specs.declared.Answer.TheVariants.{Begun}
use Rattle.kinds.specs.State.{with_serial}
use Rattle.rules.specs.House.{tx_of, mask_of}
use Rattle.rules.specs.Desk.{is_desk}
use Rattle.rules.specs.Live.{free_place}
use Rattle.rules.specs.Valid.{site_ok}
use Rattle.rules.specs.Effect.{Change, Effect, changed, unless}
use Rattle.rules.specs.Course.{new_sub}

-- the next transaction number
unfoldable pub next_tx : Counters → ℕ
next_tx c = tx_of c.own (c.serial + 1)

abbrev pub begin_causes : Bool → Bool → Counters → ℕ → List Cause
begin_causes ok known c place =
    cause (not ok) reason.malformed
    ∷ cause (not known) reason.malformed
    ∷ cause (leb sizes.live place) reason.full
    ∷ cause (leb sizes.last_serial c.serial) reason.spent
    ∷ []

unfoldable pub begin_code : Bool → Bool → Counters → ℕ → ℕ
begin_code ok known c place = code_of (begin_causes ok known c place)

unfoldable pub begun : Site → ℕ → Change
begun s d =
    record {
      answer = Begun (next_tx s.counters);
      words = [];
      turn =
          record {
            counters = with_serial s.counters (s.counters.serial + 1);
            channels = s.channels;
            sub = new_sub (next_tx s.counters) d (mask_of s.counters.own) s.counters.installs;
          };
    }

unfoldable pub begin_of : Site → ℕ → Effect
begin_of s d =
    let place = free_place s.live in
    unless (begin_code (site_ok s) (is_desk d) s.counters place) s [] (changed s place (begun s d) [])

-- what no refusal says
pub record BeginClear (ok known : Bool) (c : Counters) (place : ℕ) : Type 0 where
  pub valid : ok ≡ true
  pub desk : known ≡ true
  pub free : place < sizes.live
  pub unspent : c.serial < sizes.last_serial

pub begin_clear : (ok known : Bool) (c : Counters) (place : ℕ) → begin_code ok known c place ≡ 0 → BeginClear ok known c place
unfolding begin_code
begin_clear ok known c place e =
    let l = begin_causes ok known c place in
    record {
      valid = not-false ok (clear_at l 0 refl e);
      desk = not-false known (clear_at l 1 refl e);
      free = leb-false sizes.live place (clear_at l 2 refl e);
      unspent = leb-false sizes.last_serial c.serial (clear_at l 3 refl e);
    }
