-- A message to each other participant, and their counts.
use Rattle.std.proofs.Common.{arith}
use Rattle.rules.specs.Course.{head_of, send_all}
use Rattle.rules.specs.Effect.{taken_of}
use Rattle.rules.specs.Message.{entry_count}
use Rattle.course.proofs.send.send_all.Goals as goal

pub broadcast-words-requires : goal.broadcast-words-requires
unfolding entry_count
broadcast-words-requires c =
    let p = c.requires in
    record {
      outgoing_in_bounds = (p.0.long, (p.0.first, p.0.last));
      counts_low = p.0.low;
      es_len = (omega (arith, p.1.0), omega (arith, p.1.1));
    }

pub step_recipients-stepped-requires : goal.step_recipients-stepped-requires
step_recipients-stepped-requires c = c.requires.0.low

pub returns : goal.returns
unfolding taken_of send_all entry_count head_of
returns c =
    record {
      value = rw (c.step_recipients-stepped.ensures, c.broadcast-words.ensures.0);
      out_after = c.broadcast-words.ensures.1;
    }
