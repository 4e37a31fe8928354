-- The place freed, and ABORT sent to the others.
use Rattle.rules.specs.Course.{abort_step}
use Rattle.rules.specs.CourseLaws.{no_entries}
use Rattle.rules.specs.Effect.{taken_of}
use Rattle.course.proofs.coordinator.abort_step.Goals as goal

pub send_all-a-requires : goal.send_all-a-requires
send_all-a-requires c = (c.requires, no_entries)

pub returns : goal.returns
unfolding abort_step taken_of
returns c =
    record {
      value = rw (c.with_sub.ensures, c.no_sub.ensures, c.send_all-a.ensures.value);
      out_after = c.send_all-a.ensures.out_after;
    }
