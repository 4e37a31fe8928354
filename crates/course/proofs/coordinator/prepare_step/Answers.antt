-- PREPARE sent to the others.
use Rattle.rules.specs.Course.{prepare_step}
use Rattle.rules.specs.CourseLaws.{no_entries}
use Rattle.course.proofs.coordinator.prepare_step.Goals as goal

pub send_all-requires : goal.send_all-requires
send_all-requires c = (c.requires, no_entries)

pub returns : goal.returns
unfolding prepare_step
returns c = record { value = c.send_all.ensures.value; out_after = c.send_all.ensures.out_after }
