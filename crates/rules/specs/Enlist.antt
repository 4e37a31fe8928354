-- C3, C6 and C7: enlist, at the coordinator, adds a site and sends JOIN.
use Rattle.std.specs.Prelude.{ℕ, List, [], ◌∷◌, Bool, not, ltb, leb, eqb}
use Rattle.laws.specs.Cause.{Cause, cause, code_of}
use Rattle.kinds.specs.Sizes as sizes
use Rattle.kinds.specs.Stage as stage
use Rattle.kinds.specs.Reason as reason
use Rattle.kinds.specs.declared.Site.{Site}
use Rattle.kinds.specs.State.{sub_at}
use Rattle.rules.specs.House.{is_site, in_mask, coordinator_of}
use Rattle.rules.specs.Live.{place_of}
use Rattle.rules.specs.Valid.{site_ok}
use Rattle.rules.specs.Effect.{Effect, turn_at, changed, unless}
use Rattle.rules.specs.Course.{channel_spent, enlist_step}

-- the site is the transaction's coordinator
abbrev pub is_mine : Site → ℕ → Bool
is_mine s tx = eqb (coordinator_of tx) s.counters.own

abbrev pub enlist_causes : Bool → ℕ → Bool → ℕ → Bool → List Cause
enlist_causes ok room known place mine =
    cause (ltb room sizes.outgoing) reason.short
    ∷ cause (not ok) reason.malformed
    ∷ cause (not known) reason.malformed
    ∷ cause (leb sizes.live place) reason.unknown
    ∷ cause (not mine) reason.not_coordinator
    ∷ []

unfoldable pub enlist_code : Bool → ℕ → Bool → ℕ → Bool → ℕ
enlist_code ok room known place mine = code_of (enlist_causes ok room known place mine)

-- then: its stage, whether the site is in the mask, and the channel to it
abbrev pub joiner_causes : ℕ → Bool → Bool → Bool → List Cause
joiner_causes st own there spent =
    cause (not (eqb st stage.active)) reason.stage
    ∷ cause own reason.stage
    ∷ cause there reason.stage
    ∷ cause spent reason.spent
    ∷ []

unfoldable pub joiner_code : ℕ → Bool → Bool → Bool → ℕ
joiner_code st own there spent = code_of (joiner_causes st own there spent)

unfoldable pub enlist_at : Site → ℕ → ℕ → Effect
enlist_at s place site =
    let c = (sub_at s place).course in
    unless (joiner_code c.stage (eqb site s.counters.own) (in_mask c.mask site) (channel_spent s.channels site)) s []
    (changed s place (enlist_step (turn_at s place) site) [])

unfoldable pub enlist_of : Site → ℕ → ℕ → ℕ → Effect
enlist_of s room tx site =
    let place = place_of s.live tx in
    unless (enlist_code (site_ok s) room (is_site s.house site) place (is_mine s tx)) s [] (enlist_at s place site)
