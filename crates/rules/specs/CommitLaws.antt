-- The commit request past its refusals, case by case.
use Rattle.std.specs.Prelude.{ℕ, ◌*◌, ◌≡◌, true, false, List}
use Rattle.laws.specs.Overlay.{put_at}
use Rattle.kinds.specs.Sizes as sizes
use Rattle.kinds.specs.Reason as reason
use Rattle.kinds.specs.declared.Site.{Site}
use Rattle.kinds.specs.State.{sub_at}
use Rattle.rules.specs.Message.{entry_count}
use Rattle.rules.specs.Live.{all_heard}
use Rattle.rules.specs.Join.{joined}
use Rattle.rules.specs.Certify.{concurrent, vote_of}
use Rattle.rules.specs.Effect.{turn_at}
use Rattle.rules.specs.Course.{with_course_of, with_request, abort_step, cast_step, prepare_step}
use Rattle.rules.specs.Commit.{request_change, is_full, is_lost, commit_change, commit_lists}

module _ (s : Site) (place : ℕ) where
  pub request_lone : (own : List ℕ) (n : ℕ) → entry_count own ≡ n → all_heard s.counters.own 0 (sub_at s place).course.mask ≡ true
      → request_change s place own
      ≡ cast_step (with_course_of (turn_at s place) (with_request (sub_at s place).course n))
      (vote_of s place (joined own n) (entry_count (joined own n))) (joined own n)
  unfolding request_change
  request_lone own n k h = rw (k, h)

  pub request_prepare : (own : List ℕ) (n : ℕ) → entry_count own ≡ n → all_heard s.counters.own 0 (sub_at s place).course.mask ≡ false
      → request_change s place own ≡ prepare_step (with_course_of (turn_at s place) (with_request (sub_at s place).course n))
  unfolding request_change
  request_prepare own n k h = rw (k, h)

  pub commit_full : is_full s place ≡ true → commit_change s place ≡ abort_step (turn_at s place) reason.full
  unfolding commit_change
  commit_full f = rw f

  pub commit_lost : is_full s place ≡ false → is_lost s place ≡ true → commit_change s place ≡ abort_step (turn_at s place) reason.uncertain
  unfolding commit_change
  commit_lost f l = rw (f, l)

  pub commit_request : is_full s place ≡ false → is_lost s place ≡ false → commit_change s place ≡ request_change s place (concurrent s place)
  unfolding commit_change
  commit_request f l = rw (f, l)

  pub lists_kept : (lists : List ℕ) → is_full s place ≡ true → commit_lists s lists place ≡ lists
  unfolding commit_lists
  lists_kept lists f = rw f

  pub lists_lost : (lists : List ℕ) → is_full s place ≡ false → is_lost s place ≡ true → commit_lists s lists place ≡ lists
  unfolding commit_lists
  lists_lost lists f l = rw (f, l)

  pub lists_made : (lists : List ℕ) → is_full s place ≡ false → is_lost s place ≡ false
      → commit_lists s lists place ≡ put_at (sizes.gathered * place) lists (concurrent s place)
  unfolding commit_lists
  lists_made lists f l = rw (f, l)
