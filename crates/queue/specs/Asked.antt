-- The queue asks of a part its stage, its number and its transaction: nothing else of it decides.
use Rattle.std.specs.Prelude.{ℕ, ◌<◌, ◌≡◌, refl, List}
use Rattle.std.proofs.Common.{le-leb}
use Rattle.kinds.specs.Sizes as sizes
use Rattle.kinds.specs.Desk as desk
use Rattle.kinds.specs.declared.Sub.{Sub}
use Rattle.kinds.specs.State.{no_snapshot, past_keys}
use Rattle.rules.specs.KeysLaws.{by_order}
use Rattle.rules.specs.Live.{part_at, is_queued}
use Rattle.rules.specs.Queue.{queued_before, comes_first, state_bound}

-- a part of which these are known
abbrev pub asked : ℕ → ℕ → ℕ → Sub
asked stage number tx =
    record {
      tx = tx;
      desk = desk.house;
      snapshot = no_snapshot;
      course = record { stage = stage; mask = 0; number = number; heard = 0; reason = 0; listed = 0 };
      keys = past_keys;
    }

pub bound_asked : (b : Sub) (tx n : ℕ) → state_bound (asked b.course.stage b.course.number tx) n ≡ state_bound b n
unfolding state_bound
bound_asked b tx n = refl

-- number and transaction of the best so far; while there is none they are not asked
pub record Best (live : List Sub) (best number tx : ℕ) : Type 0 where
  pub numbered : best < sizes.live → number ≡ (part_at live best).course.number
  pub named : best < sizes.live → tx ≡ (part_at live best).tx

pub first_asked : (live : List Sub) (b : Sub) (stage best number tx : ℕ) → Best live best number tx
    → comes_first (asked b.course.stage b.course.number b.tx) best (asked stage number tx) ≡ comes_first b best (part_at live best)
unfolding comes_first queued_before is_queued
first_asked live b stage best number tx e =
    by_order best sizes.live
    (λ h. rw (e.numbered h, e.named h))
    (λ h. rw (le-leb sizes.live best h))
