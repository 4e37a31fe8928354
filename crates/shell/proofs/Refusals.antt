-- A cause has a number that is not 0: where a check finds one, the rule refuses with its number.
use Rattle.std.specs.Prelude.{ℕ, ◌≡◌, ◌<◌, refl, List, true, false, ltb, eqb}
use Rattle.std.specs.Prelude.{Option, Some, None, unwrap_or, IfSome, Result, Ok, Err, IsErrAnd}
use Rattle.std.proofs.Common.{◌∙◌, arith, ltb-true, ne_eqb, ok_or}
use Rattle.std.proofs.lemmas.Result.{err_from_is_err_and}
use Rattle.kinds.specs.Refusal.{number_of, refusal_in}
use Rattle.kinds.specs.declared.refusal.Refusal.{Refusal}
use Rattle.kinds.specs.declared.refusal.Refusal.TheVariants.{Short, Malformed, BadTable, Elsewhere, NotNext, Unknown, NotCoordinator, Stage}
use Rattle.kinds.specs.declared.refusal.Refusal.TheVariants.{Outstanding, Forgotten, Held, Newer, TooMany, TooLong, Full, Spent, Behind}
use Rattle.kinds.specs.declared.refusal.Refusal.TheVariants.{QueueFull, NotWhole, Nothing, NoPage}
use Rattle.kinds.specs.declared.Site.{Site}
use Rattle.rules.specs.Effect.{Effect, refused, unless}

-- no cause has the number 0
numbered : (cause : Refusal) → ltb 0 (number_of cause) ≡ true
numbered Short = refl
numbered Malformed = refl
numbered BadTable = refl
numbered Elsewhere = refl
numbered NotNext = refl
numbered Unknown = refl
numbered NotCoordinator = refl
numbered Stage = refl
numbered Outstanding = refl
numbered Forgotten = refl
numbered Held = refl
numbered Newer = refl
numbered TooMany = refl
numbered TooLong = refl
numbered Full = refl
numbered Spent = refl
numbered Behind = refl
numbered QueueFull = refl
numbered NotWhole = refl
numbered Nothing = refl
numbered NoPage = refl

pub caused : (cause : Refusal) → number_of cause ≡ 0 → ⊥
caused cause e = let low = ltb-true 0 (number_of cause) (numbered cause) in omega arith

-- so the test of a rule for 0 fails
pub stopped : (cause : Refusal) (code : ℕ) → number_of cause ≡ code → eqb code 0 ≡ false
stopped cause code e = ne_eqb code 0 (λ z. caused cause (e ∙ z))

-- and what the rule does is the refusal
pub refuses : (cause : Refusal) (code : ℕ) (s : Site) (lent : List ℕ) (e : Effect) → number_of cause ≡ code
    → unless code s lent e ≡ refused (number_of cause) s lent
refuses cause code s lent e f = rw (stopped cause code f, f)

-- Where a check finds none, the rule does what it would do.
pub passes : (code : ℕ) (s : Site) (lent : List ℕ) (e : Effect) → 0 ≡ code → unless code s lent e ≡ e
passes code s lent e f = rw (← f)

-- A check's cause that `?` passes on,
pub passed_on : {A : Type 0} (r : Result A Refusal) (cause : Refusal) (code : ℕ) → IsErrAnd r (λ e. e ≡ cause) → number_of cause ≡ code
    → refusal_in r ≡ code
passed_on r cause code g e = let p = err_from_is_err_and r g in rw (p.1, p.2) e

-- and the place that a search answers, where `ok_or` answers a cause for none: `end` stands for none in the rule.
pub placed : (o : Option ℕ) (cause : Refusal) (i end rule : ℕ) → Ok i ≡ ok_or o cause → unwrap_or o end ≡ rule → IfSome o (λ k. k < end)
    → (i ≡ rule) × (i < end)
placed (Some k) cause i end rule e at low = let same : i ≡ k = cc in rw same (at, low)
placed None cause i end rule e at low = absurd (cc)

pub unplaced : (o : Option ℕ) (cause other : Refusal) (end rule : ℕ) → Err other ≡ ok_or o cause → unwrap_or o end ≡ rule
    → (end ≡ rule) × (other ≡ cause)
unplaced (Some k) cause other end rule e at = absurd (cc)
unplaced None cause other end rule e at = (at, cc)
